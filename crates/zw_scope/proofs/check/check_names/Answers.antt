use Rattle.zw_scope.specs.NameRules.{violations}
use Rattle.zw_scope.proofs.CheckLemmas.{first-within}
use Rattle.zw_scope.proofs.check.check_names.Goals as goal

pub stop_at-requires : goal.stop_at-requires
stop_at-requires c = first-within c.args.ast.now (violations c.args.ast.now) c.in_ok-first_violation.field-0 c.in-Some.told c.in-Some.is c.in_ok-first_violation.ensures
