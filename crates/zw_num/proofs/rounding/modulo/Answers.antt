use Rattle.std.proofs.Common.{◌≡◌, ◌+ℤ◌, ℤ, pos, Ok, ap, sym, subst, ◌∙◌}
use Rattle.std.specs.Int.{w128, cast_unsigned}
use Rattle.zw_num.specs.Arithmetic.{IsIn, floored, rest_of}
use Rattle.zw_num.proofs.DivisionLemmas.{is_across, rest_less, rest_same, rem_in, modulo_in, divided_is, rem_read_back, across_read_back, sum_read_back}
use Rattle.zw_num.proofs.WrappedLemmas.{read_back}
use Rattle.zw_num.proofs.rounding.modulo.Goals as goal

pub returns-then-is_across-clause-value : goal.returns-then-is_across-clause-value
returns-then-is_across-clause-value c =
    let a = c.args.a in
    let b = c.args.b in
    let r = c.wrapping_rem-rest.result in
    let n = λ (e : b ≡ pos 0). c.if-b-eq0.false (ap (cast_unsigned w128) e) in
    let rest = rem_read_back a b r c.ranges.a.sfits c.ranges.b.sfits c.wrapping_rem-rest.ensures in
    let here = sym (across_read_back r b c.is_across.result c.wrapping_rem-rest.type_inv c.ranges.b.sfits c.is_across.ensures) ∙ c.if-is_across.true in
    let across = sym (ap (λ (x : ℤ). is_across x b) rest) ∙ here in
    ap Ok (sum_read_back r b c.wrapping_rem-rest.type_inv c.ranges.b.sfits here ∙ ap (λ (x : ℤ). x +ℤ b) rest ∙ sym (rest_less a b n across))
    ∙ sym (divided_is b (Ok (rest_of a b (floored a b))) n)

pub returns-then-is_across-clause-in_type : goal.returns-then-is_across-clause-in_type
returns-then-is_across-clause-in_type c =
    let a = c.args.a in
    let b = c.args.b in
    let r = c.wrapping_rem-rest.result in
    let n = λ (e : b ≡ pos 0). c.if-b-eq0.false (ap (cast_unsigned w128) e) in
    let rest = rem_read_back a b r c.ranges.a.sfits c.ranges.b.sfits c.wrapping_rem-rest.ensures in
    let here = sym (across_read_back r b c.is_across.result c.wrapping_rem-rest.type_inv c.ranges.b.sfits c.is_across.ensures) ∙ c.if-is_across.true in
    let across = sym (ap (λ (x : ℤ). is_across x b) rest) ∙ here in
    subst (IsIn c.args.ty) (sym (sum_read_back r b c.wrapping_rem-rest.type_inv c.ranges.b.sfits here ∙ ap (λ (x : ℤ). x +ℤ b) rest))
    (modulo_in c.args.ty c.requires.is_type a b n c.requires.b_in across)

pub returns-else-is_across-clause-value : goal.returns-else-is_across-clause-value
returns-else-is_across-clause-value c =
    let a = c.args.a in
    let b = c.args.b in
    let r = c.wrapping_rem-rest.result in
    let n = λ (e : b ≡ pos 0). c.if-b-eq0.false (ap (cast_unsigned w128) e) in
    let rest = rem_read_back a b r c.ranges.a.sfits c.ranges.b.sfits c.wrapping_rem-rest.ensures in
    let here = sym (across_read_back r b c.is_across.result c.wrapping_rem-rest.type_inv c.ranges.b.sfits c.is_across.ensures) ∙ c.if-is_across.false in
    let across = sym (ap (λ (x : ℤ). is_across x b) rest) ∙ here in
    ap Ok (read_back r c.wrapping_rem-rest.type_inv ∙ rest ∙ sym (rest_same a b n across)) ∙ sym (divided_is b (Ok (rest_of a b (floored a b))) n)

pub returns-else-is_across-clause-in_type : goal.returns-else-is_across-clause-in_type
returns-else-is_across-clause-in_type c =
    let a = c.args.a in
    let b = c.args.b in
    let r = c.wrapping_rem-rest.result in
    let rest = rem_read_back a b r c.ranges.a.sfits c.ranges.b.sfits c.wrapping_rem-rest.ensures in
    subst (IsIn c.args.ty) (sym (read_back r c.wrapping_rem-rest.type_inv ∙ rest)) (rem_in c.args.ty c.requires.is_type a b c.requires.a_in)
