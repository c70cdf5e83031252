use Rattle.zw_safety.proofs.FamiliesServed.{by_test}
use Rattle.zw_safety.proofs.families.has_checked.Goals as goal

pub returns : goal.returns
returns c = by_test c.is_served.result c.args.operator c.args.setting c.is_served.ensures
