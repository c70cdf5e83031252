use Rattle.zw_safety.proofs.FamiliesServed.{stored_right}
use Rattle.zw_safety.proofs.families.push_checked.Goals as goal

pub returns-then-goes_wide-clause-right : goal.returns-then-goes_wide-clause-right
returns-then-goes_wide-clause-right c = stored_right c.args.operator c.args.setting c.requires.served

pub returns-else-goes_wide-clause-right : goal.returns-else-goes_wide-clause-right
returns-else-goes_wide-clause-right c = stored_right c.args.operator c.args.setting c.requires.served
