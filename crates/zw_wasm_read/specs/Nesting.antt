-- Which sequences of instructions are open, as an expression is read.
use Rattle.std.specs.Prelude.{◌≡◌, Bool, true, false, List, [], ◌∷◌, Result, Ok, Err}
use Rattle.zw_wasm.specs.declared.module.Instr.{Instr}
use Rattle.zw_wasm.specs.declared.module.Instr.TheVariants.{End}
use Rattle.zw_wasm.specs.ModuleBytes.{ClosesIn}
use Rattle.zw_wasm_read.specs.declared.unread.Unread.{Unread}
use Rattle.zw_wasm_read.specs.declared.unread.Unread.TheVariants.{Unfit, Oom}

-- An instruction leads from what is open to what is open, or ends the expression, or may not stand there.
abbrev pub GoesOn : List Bool → Instr → List Bool → Result Bool Unread → Type 0
GoesOn before i after (Ok false) = (more : List Instr) → (ClosesIn before (i ∷ more) → ClosesIn after more) × (ClosesIn after more → ClosesIn before (i ∷ more))
GoesOn before i after (Ok true) = (before ≡ []) × (i ≡ End)
GoesOn before i after (Err Unfit) = (more : List Instr) → ClosesIn before (i ∷ more) → ⊥
GoesOn before i after (Err Oom) = Unit {0}
