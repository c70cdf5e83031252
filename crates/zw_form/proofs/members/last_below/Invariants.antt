use Rattle.std.proofs.Common.{◌≡◌, ◌<◌, ◌-◌}
use Rattle.zw_tree.specs.Numbering.{last}
use Rattle.zw_tree.specs.Trees.{count}
use Rattle.zw_form.proofs.members.last_below.Given as goal

abbrev pub invariant-loop-last : goal.invariant-loop-last
invariant-loop-last l = (l.last < count l.ast) × (last l.ast l.last ≡ last l.ast l.n)

abbrev pub decreases-loop-last : goal.decreases-loop-last
decreases-loop-last l = count l.ast - l.last
