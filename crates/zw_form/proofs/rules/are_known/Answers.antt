use Rattle.std.proofs.Common.{arith, refl}
use Rattle.std.proofs.lemmas.Bool.{false≢true}
use Rattle.zw_names.specs.NameSets.{names_in}
use Rattle.zw_form.specs.Rules.{IsKnown, externs_of}
use Rattle.zw_form.proofs.Items.{All-at_item, All-item, All-whole}
use Rattle.zw_form.proofs.rules.are_known.Goals as goal

pub returns-then-not-is_known : goal.returns-then-not-is_known
returns-then-not-is_known c = (
  λ e. absurd (false≢true e),
  λ all. absurd (false≢true (c.if-not-is_known.ensures.1
      (All-at_item c.args.steps.now c.loop-step.step-index c.step-item.result (omega arith) c.step-item.is (IsKnown (externs_of c.args.file.now) (names_in c.args.params.now)) all))),
)

pub loop-step-preserved : goal.loop-step-preserved
loop-step-preserved c =
    All-item c.args.steps.now c.loop-step.step-index c.step-item.result (omega arith) c.step-item.is (IsKnown (externs_of c.args.file.now) (names_in c.args.params.now))
    c.loop-step.invariant (c.if-not-is_known.ensures.0 refl)

pub returns : goal.returns
returns c = (
  λ _. All-whole c.args.steps.now c.loop-step.step-index (IsKnown (externs_of c.args.file.now) (names_in c.args.params.now)) (omega arith) c.loop-step.invariant,
  λ _. refl,
)
