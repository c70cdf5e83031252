use Rattle.std.proofs.Common.{◌≡◌, ◌+◌, ◌-◌, ◌<◌, ◌≤◌, get_or, length, suc, take, refl, ap, ◌∙◌, arith, rules}
use Rattle.zw_wasm_run.proofs.Stacked.{jump_goes, jump_traps, own_at}
use Rattle.zw_wasm_run.proofs.stacks.jump.Goals as goal
use Rattle.zw_wasm_run.proofs.stacks.jump.Goals.{then-len-label-via-then-len-label, then-len-label-via-else-len-label+then-len-label-2}

pub returns-then-len-label-clause-acts : goal.returns-then-len-label-clause-acts
returns-then-len-label-clause-acts c m =
    let old = c.args.stacks.now in
    let l = c.index.result.now in
    let count : c.len.result ≡ length old.labels.items = search rules in
    let words : c.len-2.result ≡ length old.words.items = search rules in
    let inside : old.frame.labels + suc c.args.n ≤ length old.labels.items = omega (arith, c.requires.inside, c.requires.there) in
    let is : l ≡ get_or old.labels.items (length old.labels.items - 1 - c.args.n) l = c.index.ensures ∙ ap (λ k. get_or old.labels.items (k - 1 - c.args.n) l) count in
    let short : length old.words.items < l.height + l.arity =
    elim c.then-len-label.branch [
      | then-len-label-via-then-len-label w ↦ omega (arith, words, w.if-len-label.true)
      | then-len-label-via-else-len-label+then-len-label-2 w ↦ let again : w.len-else-len-label.result ≡ length old.words.items = search rules in omega (arith, words, again, w.if-len-label.false, w.if-len-label-2.true)
    ] in
    jump_traps m c.args.n l old _ (own_at old.frame.labels c.args.n old.labels.items l inside is) short

pub returns-clause-acts : goal.returns-clause-acts
returns-clause-acts c m =
    let old = c.args.stacks.now in
    let l = c.index.result.now in
    let count : c.len.result ≡ length old.labels.items = search rules in
    let inside : old.frame.labels + suc c.args.n ≤ length old.labels.items = omega (arith, c.requires.inside, c.requires.there) in
    let is : l ≡ get_or old.labels.items (length old.labels.items - 1 - c.args.n) l = c.index.ensures ∙ ap (λ k. get_or old.labels.items (k - 1 - c.args.n) l) count in
    let place : c.len.result - 1 - c.args.n ≡ length old.labels.items - suc c.args.n = omega (arith, count) in
    jump_goes m c.args.n l old _ (own_at old.frame.labels c.args.n old.labels.items l inside is) c.unwind.ensures.branches refl refl
    (c.truncate.ensures.items ∙ ap (λ k. take k old.labels.items) place)
