use Rattle.zw_safety_words.proofs.Appended.{in_three}
use Rattle.zw_safety_words.specs.WideCode.{spread, sum_test, tested}
use Rattle.zw_safety_words.proofs.arithmetic.push_wide_sum.Goals as goal

pub returns : goal.returns
returns c =
    in_three c.args.out.now.items c.push_spread.new.out.items c.push_sum_test.new.out.items c.push_tested.new.out.items
    (spread c.args.setting.left c.args.setting.right c.args.setting.scratch) (sum_test c.args.setting.left c.args.setting.right c.args.setting.to c.args.setting.scratch) (tested c.args.setting.to c.args.setting.scratch)
    c.in_ok-push_spread.ensures c.in_ok-push_sum_test.ensures c.in_ok-push_tested.ensures
