use Rattle.std.proofs.Common.{◌≡◌, ◌/◌, ◌^◌, ℕ, pos, ap, ◌∙◌, arith}
use Rattle.std.proofs.lemmas.Int.{to_z_pos}
use Rattle.std.specs.Int.{w128}
use Rattle.zw_num.specs.Arithmetic.{width, pattern, wrapped, reversed}
use Rattle.zw_num.proofs.ReversalLemmas.{bytes_fit}
use Rattle.zw_num.proofs.WrappedLemmas.{low_width, read_back}
use Rattle.zw_num.proofs.reversal.byte_swap.Goals as goal

pub in_other_order-requires-clause-fits : goal.in_other_order-requires-clause-fits
in_other_order-requires-clause-fits c =
    let power : 2 ^ c.width.result ≡ 2 ^ width c.args.ty = ap (λ (n : ℕ). 2 ^ n) c.width.ensures in
    bytes_fit c.width.result (omega (arith, low_width c.args.ty c.requires.is_type))

pub overflow_cast-in_other_order : goal.overflow_cast-in_other_order
overflow_cast-in_other_order c =
    let power : 2 ^ c.width.result ≡ 2 ^ width c.args.ty = ap (λ (n : ℕ). 2 ^ n) c.width.ensures in
    let few = bytes_fit c.width.result (omega (arith, low_width c.args.ty c.requires.is_type)) in
    record { sfits = omega (arith, c.in_other_order.ensures.small) }

pub returns : goal.returns
returns c =
    let ty = c.args.ty in
    let power : 2 ^ c.width.result ≡ 2 ^ width ty = ap (λ (n : ℕ). 2 ^ n) c.width.ensures in
    let few = bytes_fit c.width.result (omega (arith, low_width ty c.requires.is_type)) in
    let small = to_z_pos w128 c.in_other_order.result (omega (arith, c.in_other_order.ensures.small)) in
    let is = c.pattern.ensures.value ∙ ap (pattern (width ty)) (read_back c.args.a c.ranges.a.sfits) in
    read_back c.wrap.result c.wrap.type_inv ∙ c.wrap.ensures ∙ ap (wrapped ty) (small ∙ ap pos (c.in_other_order.ensures.value
    ∙ ap (λ (n : ℕ). reversed 256 (n / 8) c.pattern.result) c.width.ensures ∙ ap (reversed 256 (width ty / 8)) is))
