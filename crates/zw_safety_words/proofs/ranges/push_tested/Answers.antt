use Rattle.std.proofs.Common.{◌+◌, [], ◌∷◌}
use Rattle.zw_safety_words.proofs.Appended.{in_three}
use Rattle.zw_safety_narrow.specs.Code.{if_panics}
use Rattle.zw_safety_words.specs.WideCode.{settled}
use Rattle.zw_wasm.specs.declared.module.Instr.TheVariants.{LocalGet}
use Rattle.zw_safety_words.proofs.ranges.push_tested.Goals as goal

pub returns : goal.returns
returns c =
    in_three c.args.out.now.items c.push_if_panics.new.out.items c.push.new.self.items c.push_settled.new.out.items
    (if_panics 1) (LocalGet (c.args.scratch + 6) ∷ []) (settled c.args.to)
    c.in_ok-push_if_panics.ensures c.in_ok-push.ensures.items c.in_ok-push_settled.ensures
