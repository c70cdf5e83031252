use Rattle.zw_wasm_words.proofs.Placing.{DatasPlaced}
use Rattle.zw_wasm_words.proofs.segments.place_datas.Given as goal

abbrev pub invariant-loop-number : goal.invariant-loop-number
invariant-loop-number l = DatasPlaced l.globals l.segments l.initial.memory l.memory l.number
