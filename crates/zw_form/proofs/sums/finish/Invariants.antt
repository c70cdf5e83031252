use Rattle.std.proofs.Common.{◌≡◌}
use Rattle.zw_form.specs.Work.{planned, tasks_weight}
use Rattle.zw_form.proofs.sums.finish.Given as goal

abbrev pub invariant-loop-task : goal.invariant-loop-task
invariant-loop-task l = planned l.text l.tokens l.ast l.reader ≡ planned l.text l.tokens l.ast l.initial.reader

abbrev pub decreases-loop-task : goal.decreases-loop-task
decreases-loop-task l = tasks_weight l.ast l.reader.tasks.items
