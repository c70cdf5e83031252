use Rattle.std.proofs.Common.{◌≡◌, ◌^◌, ◌-ℤ◌, pos, ap, sym, ◌∙◌, arith}
use Rattle.std.proofs.lemmas.Int.{ints, to_z_pos}
use Rattle.std.specs.Int.{w128}
use Rattle.zw_num.specs.Arithmetic.{width, pattern, is_in, wrapped}
use Rattle.zw_num.proofs.WrappedLemmas.{read_back, low_width, from_pattern, from_pattern_less}
use Rattle.zw_num.proofs.int_ty.IntTy.wrap.Goals as goal

pub returns-then-contains : goal.returns-then-contains
returns-then-contains c =
    let ty = c.args.self in
    let few = low_width ty c.requires.is_type in
    let small = to_z_pos w128 c.pattern-pattern.result (omega (arith, c.pattern-pattern.ensures.bound)) in
    let is = c.pattern-pattern.ensures.value ∙ ap (pattern (width ty)) (read_back c.args.number c.ranges.number.sfits) in
    small ∙ from_pattern ty c.requires.sized c.args.number c.pattern-pattern.result is (sym (ap (is_in ty) small) ∙ sym c.contains.ensures ∙ c.if-contains.true)

pub returns-else-contains : goal.returns-else-contains
returns-else-contains c =
    let ty = c.args.self in
    let few = low_width ty c.requires.is_type in
    let small = to_z_pos w128 c.pattern-pattern.result (omega (arith, c.pattern-pattern.ensures.bound)) in
    let is = c.pattern-pattern.ensures.value ∙ ap (pattern (width ty)) (read_back c.args.number c.ranges.number.sfits) in
    let less : pos c.pattern-pattern.result -ℤ pos (2 ^ width ty) ≡ wrapped ty c.args.number = from_pattern_less ty c.requires.sized c.args.number c.pattern-pattern.result is (sym (ap (is_in ty) small) ∙ sym c.contains.ensures ∙ c.if-contains.false) in
    let power : 2 ^ c.width.result ≡ 2 ^ width ty = ap (λ n. 2 ^ n) c.width.ensures in
    omega (arith, ints)
