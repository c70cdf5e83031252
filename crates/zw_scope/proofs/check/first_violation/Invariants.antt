use Rattle.std.proofs.Common.{take}
use Rattle.std.specs.List.{flat_map}
use Rattle.zw_scope.specs.NameRules.{mentioned, violations_at}
use Rattle.zw_scope_sites.specs.Scopes.{all_standing}
use Rattle.zw_scope.specs.Telling.{IsFirstOf}
use Rattle.zw_scope.proofs.check.first_violation.Given as goal

abbrev pub invariant-loop-n : goal.invariant-loop-n
invariant-loop-n l = IsFirstOf l.ast (flat_map (violations_at (mentioned (all_standing l.ast))) (take l.n (all_standing l.ast))) l.first
