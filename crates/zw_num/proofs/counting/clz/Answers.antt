use Rattle.std.proofs.Common.{◌≡◌, ◌-◌, pos, ap, ◌∙◌, arith}
use Rattle.std.proofs.lemmas.Int.{to_z_pos}
use Rattle.std.proofs.lemmas.Nat.{leading_le}
use Rattle.std.specs.Int.{w128}
use lib.Count.{count_leading_zeros}
use Rattle.zw_num.specs.Arithmetic.{width, pattern}
use Rattle.zw_num.proofs.CountLemmas.{leading_wider}
use Rattle.zw_num.proofs.WrappedLemmas.{read_back, few_bits}
use Rattle.zw_num.proofs.counting.clz.Goals as goal

pub overflow_sub-result : goal.overflow_sub-result
overflow_sub-result c =
    let few = few_bits c.args.ty c.requires.is_type in
    omega (arith, leading_wider (width c.args.ty) 128 c.pattern.result c.pattern.ensures.bound (omega arith), c.width-above.ensures)

pub returns : goal.returns
returns c =
    let w = width c.args.ty in
    let few = few_bits c.args.ty c.requires.is_type in
    let same : count_leading_zeros 128 c.pattern.result - (128 - c.width-above.result) ≡ count_leading_zeros w c.pattern.result =
    omega (arith, leading_wider w 128 c.pattern.result c.pattern.ensures.bound (omega arith), c.width-above.ensures) in
    let is = c.pattern.ensures.value ∙ ap (pattern w) (read_back c.args.a c.ranges.a.sfits) in
    to_z_pos w128 (count_leading_zeros 128 c.pattern.result - (128 - c.width-above.result)) (omega (arith, leading_le w c.pattern.result)) ∙ ap pos (same ∙ ap (count_leading_zeros w) is)
