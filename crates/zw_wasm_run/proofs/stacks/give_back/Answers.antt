use Rattle.std.proofs.Common.{◌≡◌, ◌+◌, ◌<◌, length, refl, arith, rules}
use Rattle.zw_wasm_run.proofs.Stacked.{give_back_goes, return_traps}
use Rattle.zw_wasm_run.proofs.stacks.give_back.Goals as goal
use Rattle.zw_wasm_run.proofs.stacks.give_back.Goals.{then-len-frame-via-then-len-frame, then-len-frame-via-else-len-frame+then-len-frame-2}

pub returns-then-len-frame-clause-acts : goal.returns-then-len-frame-clause-acts
returns-then-len-frame-clause-acts c m behind =
    let old = c.args.stacks.now in
    let words : c.len.result ≡ length old.words.items = search rules in
    let short : length old.words.items < old.frame.operands + old.frame.arity =
    elim c.then-len-frame.branch [
      | then-len-frame-via-then-len-frame w ↦ omega (arith, words, w.if-len-frame.true)
      | then-len-frame-via-else-len-frame+then-len-frame-2 w ↦ let again : w.len-else-len-frame.result ≡ length old.words.items = search rules in omega (arith, words, again, w.if-len-frame.false, w.if-len-frame-2.true)
    ] in
    return_traps m old _ short

pub returns-clause-acts : goal.returns-clause-acts
returns-clause-acts c m behind = give_back_goes m c.args.end c.args.stacks.now _ behind c.keep_results.ensures.keeps refl refl c.truncate.ensures.items
