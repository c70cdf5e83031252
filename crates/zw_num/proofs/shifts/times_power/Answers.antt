use Rattle.std.proofs.Common.{◌≡◌, ◌≤ℤ◌, ℤ, pos, negsuc, FitsSigned, inl, inr, ap, sym, subst, ◌∙◌, arith}
use Rattle.std.specs.Int.{w128, cast_signed, cast_unsigned}
use Rattle.std.proofs.lemmas.Int.{ints}
use Rattle.zw_num.proofs.ShiftLemmas.{lowest, past_end}
use Rattle.zw_num.proofs.WrappedLemmas.{read_back}
use Rattle.zw_num.proofs.shifts.times_power.Goals as goal

pub returns-then-amount-eq127 : goal.returns-then-amount-eq127
returns-then-amount-eq127 c =
    let a_is : c.args.a ≡ negsuc 0 = sym (read_back c.args.a c.ranges.a.sfits) ∙ ap (cast_signed w128) c.if-a-eqminus1.true in
    let amount_is : c.args.amount ≡ pos 127 = sym (read_back c.args.amount c.ranges.amount.sfits) ∙ ap (cast_signed w128) c.if-amount-eq127.true in
    let is = lowest c.args.a c.args.amount a_is amount_is in
    (subst (λ (z : ℤ). FitsSigned w128 z) (sym is) (record { sfits = omega arith }), sym is)

pub returns-else-a-eqminus1 : goal.returns-else-a-eqminus1
returns-else-a-eqminus1 c = λ fits.
    let from : pos 127 ≤ℤ c.args.amount = omega (arith, ints) in
    elim (past_end c.args.a c.args.amount from fits) [
      | inl zero_is ↦ c.if-a-eq0.false (ap (cast_unsigned w128) zero_is)
      | inr (a_is, amount_is) ↦
          elim c.else-a-eqminus1.either [
            | inl (one, other) ↦ other (ap (cast_unsigned w128) amount_is)
            | inr other ↦ other (ap (cast_unsigned w128) a_is)
          ]
    ]
