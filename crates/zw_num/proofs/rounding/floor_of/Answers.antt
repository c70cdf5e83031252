use Rattle.std.proofs.Common.{◌≡◌, ◌-ℤ◌, ℤ, pos, FitsSigned, ap, sym, subst, ◌∙◌}
use Rattle.std.specs.Int.{w128, cast_signed, cast_unsigned}
use Rattle.zw_num.specs.Arithmetic.{floored}
use Rattle.zw_num.proofs.DivisionLemmas.{is_across, floored_less, floored_same, floored_fits, rem_read_back, across_read_back, div_read_back, not_zero}
use Rattle.zw_num.proofs.WrappedLemmas.{read_back}
use Rattle.zw_num.proofs.rounding.floor_of.Goals as goal

pub returns-then-is_across : goal.returns-then-is_across
returns-then-is_across c =
    let a = c.args.a in
    let b = c.args.b in
    let q = c.in_ok-quotient.quotient in
    let n = not_zero b c.requires in
    let rest = rem_read_back a b c.wrapping_rem.result c.ranges.a.sfits c.ranges.b.sfits c.wrapping_rem.ensures in
    let across = sym (ap (λ (x : ℤ). is_across x b) rest) ∙ sym (across_read_back c.wrapping_rem.result b c.is_across.result c.wrapping_rem.type_inv c.ranges.b.sfits c.is_across.ensures) ∙ c.if-is_across.true in
    let quotient = div_read_back a b q c.ranges.a.sfits c.ranges.b.sfits c.in_ok-quotient.ensures.1 in
    let q_fits = subst (λ (x : ℤ). FitsSigned w128 x) (sym c.in_ok-quotient.ensures.1) c.in_ok-quotient.ensures.0.1 in
    let less = floored_less a b n across in
    let fits = floored_fits a b n c.ranges.a across in
    let same : q -ℤ pos 1 ≡ floored a b = ap (λ (x : ℤ). x -ℤ pos 1) quotient ∙ sym less in
    (fits, ap (λ (x : ℤ). cast_signed w128 (cast_unsigned w128 (x -ℤ pos 1))) (read_back q q_fits.sfits) ∙ ap (λ (x : ℤ). cast_signed w128 (cast_unsigned w128 x)) same ∙ read_back (floored a b) fits.sfits)

pub returns-else-is_across : goal.returns-else-is_across
returns-else-is_across c =
    let a = c.args.a in
    let b = c.args.b in
    let q = c.in_ok-quotient.quotient in
    let n = not_zero b c.requires in
    let rest = rem_read_back a b c.wrapping_rem.result c.ranges.a.sfits c.ranges.b.sfits c.wrapping_rem.ensures in
    let across = sym (ap (λ (x : ℤ). is_across x b) rest) ∙ sym (across_read_back c.wrapping_rem.result b c.is_across.result c.wrapping_rem.type_inv c.ranges.b.sfits c.is_across.ensures) ∙ c.if-is_across.false in
    let quotient = div_read_back a b q c.ranges.a.sfits c.ranges.b.sfits c.in_ok-quotient.ensures.1 in
    let q_fits = subst (λ (x : ℤ). FitsSigned w128 x) (sym c.in_ok-quotient.ensures.1) c.in_ok-quotient.ensures.0.1 in
    let same = quotient ∙ sym (floored_same a b n across) in
    (subst (λ (x : ℤ). FitsSigned w128 x) same q_fits, read_back q q_fits.sfits ∙ same)
