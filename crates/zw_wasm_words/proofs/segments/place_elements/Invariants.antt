use Rattle.zw_wasm_words.proofs.Placing.{ElementsPlaced}
use Rattle.zw_wasm_words.proofs.segments.place_elements.Given as goal

abbrev pub invariant-loop-number : goal.invariant-loop-number
invariant-loop-number l = ElementsPlaced l.globals l.segments l.initial.table l.table l.number
