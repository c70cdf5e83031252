use Rattle.std.proofs.Common.{ℕ, List, arith, refl, Contains}
use Rattle.std.proofs.lemmas.Bool.{false≢true}
use Rattle.zw_names.specs.NameSets.{names_in}
use Rattle.zw_form.proofs.Items.{All-at_item, All-item, All-whole}
use Rattle.zw_form.proofs.names.differ_from.Goals as goal

pub returns-then-holds : goal.returns-then-holds
returns-then-holds c = (
  λ e. absurd (false≢true e),
  λ all. absurd (All-at_item c.args.names.now c.loop-name.name-index c.name-item.result (omega arith) c.name-item.is (λ (name : List ℕ). ¬ Contains (names_in c.args.set.now) name) all
      (rw c.as_slice.ensures at (c.if-holds.ensures.0 refl))),
)

pub loop-name-preserved : goal.loop-name-preserved
loop-name-preserved c =
    All-item c.args.names.now c.loop-name.name-index c.name-item.result (omega arith) c.name-item.is (λ (name : List ℕ). ¬ Contains (names_in c.args.set.now) name) c.loop-name.invariant
    (λ there. false≢true (c.if-holds.ensures.1 (rw c.as_slice.ensures there)))

pub returns : goal.returns
returns c = (
  λ _. All-whole c.args.names.now c.loop-name.name-index (λ (name : List ℕ). ¬ Contains (names_in c.args.set.now) name) (omega arith) c.loop-name.invariant,
  λ _. refl,
)
