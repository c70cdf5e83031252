use Rattle.std.proofs.Common.{[], ◌∷◌, ◌++◌, ap, ◌∙◌}
use Rattle.zw_num.specs.Arithmetic.{width}
use Rattle.zw_safety_narrow.specs.ShiftCode.{right_operator}
use Rattle.zw_safety_words.proofs.Appended.{in_three}
use Rattle.zw_safety_words.specs.WideBitCode.{wide_amount}
use Rattle.zw_safety_words.specs.WideCode.{settled}
use Rattle.zw_wasm.specs.declared.module.Instr.TheVariants.{Binary}
use Rattle.zw_wasm.specs.declared.module.ValType.TheVariants.{I64}
use Rattle.zw_safety_words.proofs.bits.push_wide_right.Goals as goal

pub returns : goal.returns
returns c =
    let out = c.args.out.now.items in
    let first = c.push_wide_amount.new.out.items in
    in_three out first c.push.new.self.items c.push_settled.new.out.items
    (wide_amount c.args.setting.left c.args.setting.right (width c.args.setting.to) c.args.setting.scratch) (Binary I64 (right_operator c.args.setting.left) ∷ []) (settled c.args.setting.to)
    c.in_ok-push_wide_amount.ensures
    (c.in_ok-push.ensures.items ∙ ap (λ o. first ++ Binary I64 o ∷ []) c.right_operator.ensures) c.in_ok-push_settled.ensures
