use Rattle.std.proofs.Common.{◌≡◌, take}
use Rattle.std.specs.List.{filter}
use Rattle.zw_tree.specs.Numbering.{from}
use Rattle.zw_form.specs.Members.{counts}
use Rattle.zw_form.proofs.members.counting.Given as goal

abbrev pub invariant-loop-n : goal.invariant-loop-n
invariant-loop-n l = l.members ≡ filter (λ n. counts l.text l.tokens (from l.ast n)) (take l.n-index l.nodes)
