use Rattle.std.proofs.Common.{◌≢◌, ◌++◌, ◌∷◌, [], ap, ◌∙◌, sym, subst, refl, arith, AllPairs, Contains}
use Rattle.std.proofs.lemmas.Bool.{false≢true}
use Rattle.zw_form.proofs.Items.{take-item, take-whole}
use Rattle.zw_form.proofs.NameLemmas.{AllPairs-item, AllPairs-doubled}
use Rattle.zw_form.proofs.names.differ.Goals as goal

pub returns-then-not-branch : goal.returns-then-not-branch
returns-then-not-branch c =
    let kept = c.loop-name.invariant in
    let put = rw (c.if-not-branch.true, c.as_slice.ensures) at c.in_ok-insert.ensures in (
      λ e. absurd (false≢true e),
      λ differ. absurd (AllPairs-doubled c.args.names.now c.loop-name.name-index c.name-item.result (omega arith) c.name-item.is (subst (λ ns. Contains ns c.name-item.result) kept.names put.1) differ),
    )

pub loop-name-preserved : goal.loop-name-preserved
loop-name-preserved c =
    let kept = c.loop-name.invariant in
    let put = rw (c.if-not-branch.false, c.as_slice.ensures) at c.in_ok-insert.ensures in
    record {
      names = put.0 ∙ ap (λ ns. ns ++ c.name-item.result ∷ []) kept.names ∙ sym (take-item c.args.names.now c.loop-name.name-index c.name-item.result (omega arith) c.name-item.is);
      differ = AllPairs-item c.args.names.now c.loop-name.name-index c.name-item.result (omega arith) c.name-item.is kept.differ (subst (λ ns. Contains ns c.name-item.result → ⊥) kept.names put.1);
    }

pub returns : goal.returns
returns c = (
  λ _. subst (AllPairs (λ x y. x ≢ y)) (take-whole c.args.names.now c.loop-name.name-index (omega arith)) c.loop-name.invariant.differ,
  λ _. refl,
)
