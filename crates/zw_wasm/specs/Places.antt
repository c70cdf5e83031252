-- The code of a segment's place, as it is kept.
use Rattle.std.specs.Prelude.{List, [], ◌∷◌}
use Rattle.zw_wasm.specs.declared.module.Instr.{Instr}
use Rattle.zw_wasm.specs.declared.place.Kept.{Kept}
use Rattle.zw_wasm.specs.declared.place.Kept.TheVariants.{One, Many}

abbrev pub instrs_of : Kept → List Instr
instrs_of (One instr) = instr ∷ []
instrs_of (Many instrs) = instrs
