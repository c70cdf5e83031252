use Rattle.std.proofs.Common.{sym, ap, ◌∙◌, subst, arith, Some}
use Rattle.zw_token.proofs.Places.{slice_get-texts, longest_more, longest_all, NoneLongerBefore}
use Rattle.zw_token.proofs.tables.longest_front.Goals as goal
use Rattle.zw_token.proofs.tables.longest_front.Goals.{then-front-len, else-front-len}

pub loop-k-preserved : goal.loop-k-preserved
loop-k-preserved c =
    let table = c.args.table.now in
    let kept = c.loop-k.invariant in
    let front = c.front_len-front.ensures in
    elim c.if-front-len.branch [
      | then-front-len w ↦ record {
        within = omega (arith, front.within);
        found = λ above. rw (w.place-is, w.len-is) (slice_get-texts table c.loop-k.k _ c.loop-k-test.true ∙ ap Some (sym (front.found (omega arith))));
        longest = longest_more table c.args.rest.now c.loop-k.k c.loop-k.len c.front_len-front.result c.if-front-len.len _ kept.longest c.loop-k-test.true front.none (omega arith) (omega arith);
      }
      | else-front-len w ↦ record {
        within = omega (arith, kept.within);
        found = λ above. rw (w.place-is, w.len-is) (kept.found (omega arith));
        longest = longest_more table c.args.rest.now c.loop-k.k c.loop-k.len c.front_len-front.result c.if-front-len.len _ kept.longest c.loop-k-test.true front.none (omega arith) (omega arith);
      }
    ]

pub returns-then-len-eq0-clause-none : goal.returns-then-len-eq0-clause-none
returns-then-len-eq0-clause-none c =
    longest_all c.args.table.now c.args.rest.now c.loop-k.k 0 (subst (NoneLongerBefore c.args.table.now c.args.rest.now c.loop-k.k) c.if-len-eq0.true c.loop-k.invariant.longest) c.loop-k-test.false

pub returns-else-len-eq0-clause-longest : goal.returns-else-len-eq0-clause-longest
returns-else-len-eq0-clause-longest c =
    longest_all c.args.table.now c.args.rest.now c.loop-k.k c.loop-k.len c.loop-k.invariant.longest c.loop-k-test.false
