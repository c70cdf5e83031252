use Rattle.std.proofs.Common.{◌≡◌, ℤ, List, ◌++◌, ap, ◌∙◌, append_assoc}
use Rattle.std.proofs.Math.Facts.{to_z-of_z}
use Rattle.zw_safety_narrow.specs.NarrowCode.{lifted, masked, moved}
use Rattle.zw_wasm.specs.declared.module.BinaryOperator.TheVariants.{Add, Sub}
use Rattle.zw_wasm.specs.declared.module.Instr.{Instr}
use Rattle.zw_safety_narrow.proofs.operators.push_signed.Goals as goal

joined : (half mask : ℤ) (out first second third : List Instr) → first ≡ out ++ moved half Add → second ≡ first ++ masked mask → third ≡ second ++ moved half Sub → third ≡ out ++ lifted half mask
joined half mask out first second third up kept down =
    down ∙ ap (λ code. code ++ moved half Sub) (kept ∙ ap (λ code. code ++ masked mask) up)
    ∙ (append_assoc (out ++ moved half Add) (masked mask) (moved half Sub) ∙ append_assoc out (moved half Add) (masked mask ++ moved half Sub))

pub returns : goal.returns
returns c =
    let half_is = to_z-of_z c.ranges.half in
    let mask_is = to_z-of_z c.ranges.mask in
    joined c.args.half c.args.mask c.args.out.now.items c.push_moved.new.out.items c.push_masked.new.out.items c.push_moved-2.new.out.items
    (c.in_ok-push_moved.ensures ∙ ap (λ (h : ℤ). c.args.out.now.items ++ moved h Add) half_is)
    (c.in_ok-push_masked.ensures ∙ ap (λ (m : ℤ). c.push_moved.new.out.items ++ masked m) mask_is)
    (c.in_ok-push_moved-2.ensures ∙ ap (λ (h : ℤ). c.push_masked.new.out.items ++ moved h Sub) half_is)
