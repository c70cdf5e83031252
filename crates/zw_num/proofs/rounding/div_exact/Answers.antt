use Rattle.std.proofs.Common.{◌≡◌, ℤ, pos, Ok, FitsSigned, ap, sym, subst, ◌∙◌, arith}
use Rattle.std.specs.Int.{w128, cast_signed, cast_unsigned, IsNonZero}
use Rattle.std.specs.Prelude.{int_div, int_rem}
use Rattle.zw_num.specs.Arithmetic.{is_in, truncated, exact_quotient}
use Rattle.zw_num.proofs.ExactLemmas.{outside}
use Rattle.zw_num.proofs.DivisionLemmas.{whole, broken, too_large, divided_is, rem_read_back, div_read_back}
use Rattle.zw_num.proofs.WrappedLemmas.{read_back}
use Rattle.zw_num.proofs.rounding.div_exact.Goals as goal

pub returns-then-wrapping_rem-eq0 : goal.returns-then-wrapping_rem-eq0
returns-then-wrapping_rem-eq0 c =
    let ty = c.args.ty in
    let a = c.args.a in
    let b = c.args.b in
    let q = c.in-Some.quotient in
    let n = λ (e : b ≡ pos 0). c.if-b-eq0.false (ap (cast_unsigned w128) e) in
    let q_fits = subst (λ (x : ℤ). FitsSigned w128 x) (sym c.in-Some.ensures.1) c.in-Some.ensures.0.1 in
    let quotient = read_back q q_fits.sfits ∙ div_read_back a b q c.ranges.a.sfits c.ranges.b.sfits c.in-Some.ensures.1 in
    let there = sym (ap (is_in ty) quotient) ∙ sym c.contains.ensures ∙ c.if-contains.true in
    let rest = rem_read_back a b c.wrapping_rem.result c.ranges.a.sfits c.ranges.b.sfits c.wrapping_rem.ensures in
    let none = sym rest ∙ sym (read_back c.wrapping_rem.result c.wrapping_rem.type_inv) ∙ ap (cast_signed w128) c.if-wrapping_rem-eq0.true in
    ap (λ (x : ℤ). Ok x) quotient ∙ sym (whole ty a b there none) ∙ sym (divided_is b (exact_quotient ty a b) n)

pub returns-else-wrapping_rem-eq0 : goal.returns-else-wrapping_rem-eq0
returns-else-wrapping_rem-eq0 c =
    let ty = c.args.ty in
    let a = c.args.a in
    let b = c.args.b in
    let q = c.in-Some.quotient in
    let n = λ (e : b ≡ pos 0). c.if-b-eq0.false (ap (cast_unsigned w128) e) in
    let q_fits = subst (λ (x : ℤ). FitsSigned w128 x) (sym c.in-Some.ensures.1) c.in-Some.ensures.0.1 in
    let quotient = read_back q q_fits.sfits ∙ div_read_back a b q c.ranges.a.sfits c.ranges.b.sfits c.in-Some.ensures.1 in
    let there = sym (ap (is_in ty) quotient) ∙ sym c.contains.ensures ∙ c.if-contains.true in
    let rest = rem_read_back a b c.wrapping_rem.result c.ranges.a.sfits c.ranges.b.sfits c.wrapping_rem.ensures in
    let some = λ (e : int_rem a b ≡ pos 0). c.if-wrapping_rem-eq0.false (ap (cast_unsigned w128) (rest ∙ e)) in
    sym (broken ty a b there some) ∙ sym (divided_is b (exact_quotient ty a b) n)

pub returns-in_default-2 : goal.returns-in_default-2
returns-in_default-2 c =
    let ty = c.args.ty in
    let a = c.args.a in
    let b = c.args.b in
    let n = λ (e : b ≡ pos 0). c.if-b-eq0.false (ap (cast_unsigned w128) e) in
    let same_b = ap (cast_unsigned w128) (read_back b c.ranges.b.sfits) in
    let not_zero : IsNonZero w128 (cast_signed w128 (cast_unsigned w128 b)) = omega (arith, c.if-b-eq0.false) in
    let same = ap (λ (x : ℤ). int_div x (cast_signed w128 (cast_unsigned w128 b))) (read_back a c.ranges.a.sfits) ∙ ap (int_div a) (read_back b c.ranges.b.sfits) in
    let far = λ (fits : FitsSigned w128 (truncated a b)). c.in_default.ensures (not_zero, subst (λ (x : ℤ). FitsSigned w128 x) (sym same) fits) in
    sym (too_large ty a b (outside ty c.requires.is_type (truncated a b) far)) ∙ sym (divided_is b (exact_quotient ty a b) n)
