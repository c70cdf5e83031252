use Rattle.std.proofs.Common.{arith, ap, ◌∙◌}
use Rattle.zw_names.specs.NameSets.{names_in}
use Rattle.zw_form.proofs.KeptLemmas.{mentioned-item, mentioned-same}
use Rattle.zw_form.proofs.rules.mentioned.Goals as goal
use Rattle.zw_form.proofs.rules.mentioned.Goals.{in-Parameter+in_ok-insert, in_default}

pub loop-step-preserved : goal.loop-step-preserved
loop-step-preserved c =
    elim c.match-step.branch [
      | in-Parameter+in_ok-insert w ↦
          ap names_in w.names-is
          ∙ mentioned-item c.args.steps.now c.loop-step.step-index c.step-item.result (omega arith) c.step-item.is (names_in c.loop-step.names) c.loop-step.invariant
          (names_in w.insert.new.set) w.in-Parameter.name w.in_ok-insert.field-0 w.in-Parameter.is (rw w.as_slice.ensures at w.in_ok-insert.ensures)
      | in_default w ↦
          ap names_in w.names-is
          ∙ mentioned-same c.args.steps.now c.loop-step.step-index c.step-item.result (omega arith) c.step-item.is (names_in c.loop-step.names) c.loop-step.invariant
          w.in_default.not-Parameter
    ]
