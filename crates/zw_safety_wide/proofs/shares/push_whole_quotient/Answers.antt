use Rattle.std.proofs.Common.{◌++◌, ap, ◌∙◌}
use Rattle.zw_safety_wide.specs.WideSignedCode.{quotient_of, remainder_of, shared, left_tested}
use Rattle.zw_safety_wide.proofs.shares.push_whole_quotient.Goals as goal
use Rattle.zw_safety_words.proofs.Appended.{in_three}
use Rattle.zw_safety_words.specs.WideCode.{settled}

pub returns : goal.returns
returns c =
    let out = c.args.out.now.items in
    let first = c.push_left_tested.new.out.items in
    in_three out first c.push_shared.new.out.items c.push_settled.new.out.items
    (left_tested (remainder_of c.args.setting.left c.args.setting.right) c.args.setting.scratch) (shared (quotient_of c.args.setting.left c.args.setting.right) c.args.setting.scratch) (settled c.args.setting.to)
    (c.in_ok-push_left_tested.ensures ∙ ap (λ o. out ++ left_tested o c.args.setting.scratch) c.remainder_of.ensures)
    (c.in_ok-push_shared.ensures ∙ ap (λ o. first ++ shared o c.args.setting.scratch) c.quotient_of.ensures)
    c.in_ok-push_settled.ensures
