use Rattle.std.proofs.Common.{arith, ◌∙◌}
use Rattle.std.proofs.lemmas.List.{take_rest, length-drop}
use Rattle.zw_base.proofs.KnownLemmas.{Appends-take, put-steady}
use Rattle.zw_base.proofs.pieces.put_all.Goals as goal

pub loop-at-preserved : goal.loop-at-preserved
loop-at-preserved g c =
    let put = rw take_rest at c.in_ok-taken.ensures in
    record {
      within = omega (arith, put.within, length-drop c.loop-at.at c.args.bytes.now);
      taken = Appends-take _ _ _ c.args.bytes.now c.loop-at.at c.in_ok-taken.taken c.loop-at.invariant.taken put.content;
      steady = put-steady _ _ _ _ c.if-taken-eq0.false put.cause ∙ c.loop-at.invariant.steady;
    }
