use Rattle.std.proofs.Common.{◌-ℤ◌, ◌≡◌, to_z, of_z, ap, ◌∙◌, arith}
use Rattle.std.proofs.lemmas.Int.{ints}
use Rattle.std.specs.Int.{w128, saturate_signed}
use Rattle.zw_num.specs.Arithmetic.{saturated}
use Rattle.zw_num.proofs.ExactLemmas.{saturated_twice}
use Rattle.zw_num.proofs.WrappedLemmas.{read_back}
use Rattle.zw_num.proofs.saturating.sub_sat.Goals as goal

pub returns : goal.returns
returns c =
    let nearest = c.nearest.ensures ∙ ap (saturated c.args.ty) (read_back c.saturating_sub.result c.saturating_sub.type_inv ∙ c.saturating_sub.ensures) in
    let same : to_z w128 (of_z w128 c.args.a) -ℤ to_z w128 (of_z w128 c.args.b) ≡ c.args.a -ℤ c.args.b = omega (arith, ints) in
    let exact = ap (saturate_signed w128) same in
    read_back c.nearest.result c.nearest.type_inv ∙ nearest ∙ ap (saturated c.args.ty) exact ∙ saturated_twice c.args.ty c.requires.is_type (c.args.a -ℤ c.args.b)
