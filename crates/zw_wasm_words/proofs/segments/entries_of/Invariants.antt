use Rattle.std.proofs.Common.{◌≡◌, take, map, Some}
use Rattle.zw_wasm_words.proofs.segments.entries_of.Given as goal

abbrev pub invariant-loop-func : goal.invariant-loop-func
invariant-loop-func l = l.entries ≡ map (λ f. Some f) (take l.func-index l.funcs)
