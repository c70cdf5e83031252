use Rattle.std.proofs.Common.{take}
use Rattle.zw_scope.specs.NameRules.{mentioned}
use Rattle.zw_scope_sites.specs.Scopes.{all_standing}
use Rattle.zw_scope.specs.Telling.{AreMarks}
use Rattle.zw_scope.proofs.check.marks_of.Given as goal

abbrev pub invariant-loop-n : goal.invariant-loop-n
invariant-loop-n l = AreMarks l.ast l.marks.items (mentioned (take l.n (all_standing l.ast)))
