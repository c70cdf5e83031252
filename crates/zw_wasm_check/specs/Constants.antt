-- Constant expressions: what stands behind the one instruction that gives the value.
use Rattle.std.specs.Prelude.{Bool, true, false, List, [], ◌∷◌}
use Rattle.zw_wasm.specs.declared.module.Instr.{Instr}
use Rattle.zw_wasm.specs.declared.module.Instr.TheVariants.{End}

abbrev pub is_end : Instr → Bool
is_end End = true
is_end _ = false

-- code that is its end alone
abbrev pub ends_at_once : List Instr → Bool
ends_at_once (i ∷ []) = is_end i
ends_at_once _ = false
