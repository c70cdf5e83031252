use Rattle.std.proofs.Common.{[], ◌∷◌}
use Rattle.zw_num.specs.Arithmetic.{width}
use Rattle.zw_safety_words.proofs.Appended.{in_three}
use Rattle.zw_safety_words.specs.WideBitCode.{wide_amount}
use Rattle.zw_safety_words.specs.WideCode.{wide_fitted}
use Rattle.zw_wasm.specs.declared.module.BinaryOperator.TheVariants.{Shl}
use Rattle.zw_wasm.specs.declared.module.Instr.TheVariants.{Binary}
use Rattle.zw_wasm.specs.declared.module.ValType.TheVariants.{I64}
use Rattle.zw_safety_words.proofs.bits.push_wide_left.Goals as goal

pub returns : goal.returns
returns c =
    let out = c.args.out.now.items in
    in_three out c.push_wide_amount.new.out.items c.push.new.self.items c.push_wide_fitted.new.out.items
    (wide_amount c.args.setting.left c.args.setting.right (width c.args.setting.to) c.args.setting.scratch) (Binary I64 Shl ∷ []) (wide_fitted c.args.setting.to)
    c.in_ok-push_wide_amount.ensures c.in_ok-push.ensures.items c.in_ok-push_wide_fitted.ensures
