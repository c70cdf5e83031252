use Rattle.std.proofs.Common.{◌*ℤ◌, ap, ◌∙◌}
use Rattle.std.specs.Int.{w128, saturate_signed}
use Rattle.zw_num.specs.Arithmetic.{saturated}
use Rattle.zw_num.proofs.ExactLemmas.{saturated_twice}
use Rattle.zw_num.proofs.WrappedLemmas.{read_back, product_kept}
use Rattle.zw_num.proofs.saturating.mul_sat.Goals as goal

pub returns : goal.returns
returns c =
    let nearest = c.nearest.ensures ∙ ap (saturated c.args.ty) (read_back c.saturating_mul.result c.saturating_mul.type_inv ∙ c.saturating_mul.ensures) in
    let exact = ap (saturate_signed w128) (product_kept c.args.a c.args.b c.ranges.a.sfits c.ranges.b.sfits) in
    read_back c.nearest.result c.nearest.type_inv ∙ nearest ∙ ap (saturated c.args.ty) exact ∙ saturated_twice c.args.ty c.requires.is_type (c.args.a *ℤ c.args.b)
