use Rattle.std.proofs.Common.{arith, refl, Contains}
use Rattle.std.proofs.lemmas.Bool.{false≢true}
use Rattle.zw_names.specs.NameSets.{names_in}
use Rattle.zw_form.proofs.Items.{All-at_item, All-item, All-whole}
use Rattle.zw_form.proofs.names.holds_all.Goals as goal

pub returns-then-not-holds : goal.returns-then-not-holds
returns-then-not-holds c = (
  λ e. absurd (false≢true e),
  λ all. absurd (false≢true (c.if-not-holds.ensures.1
      (rw c.as_slice.ensures (All-at_item c.args.names.now c.loop-name.name-index c.name-item.result (omega arith) c.name-item.is (Contains (names_in c.args.set.now)) all)))),
)

pub loop-name-preserved : goal.loop-name-preserved
loop-name-preserved c =
    All-item c.args.names.now c.loop-name.name-index c.name-item.result (omega arith) c.name-item.is (Contains (names_in c.args.set.now)) c.loop-name.invariant
    (rw c.as_slice.ensures at (c.if-not-holds.ensures.0 refl))

pub returns : goal.returns
returns c =
    (λ _. All-whole c.args.names.now c.loop-name.name-index (Contains (names_in c.args.set.now)) (omega arith) c.loop-name.invariant, λ _. refl)
