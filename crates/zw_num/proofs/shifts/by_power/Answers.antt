use Rattle.std.proofs.Common.{◌^◌, ◌≤◌, ◌<◌, ap, sym, ◌∙◌, arith}
use Rattle.std.specs.Int.{w128, cast_signed, cast_unsigned}
use Rattle.std.specs.Prelude.{unsigned_abs}
use Rattle.std.proofs.lemmas.Int.{ints}
use Rattle.zw_num.specs.Arithmetic.{floored}
use Rattle.zw_num.proofs.ShiftLemmas.{power_is, natural, floor_shift, floor_far}
use Rattle.zw_num.proofs.WrappedLemmas.{read_back}
use lib.Signed.{mag, shr_z, mag_shr}
use Rattle.zw_num.proofs.shifts.by_power.Goals as goal

pub returns-then-amount-lt127 : goal.returns-then-amount-lt127
returns-then-amount-lt127 c =
    let amount = c.args.amount in
    let is = natural amount c.requires in
    let same_a = read_back c.args.a c.ranges.a.sfits in
    let p = 2 ^ unsigned_abs amount in
    let small : mag (shr_z c.args.a p) < 2 ^ 127 = omega (arith, mag_shr c.args.a p, c.ranges.a.sfits) in
    ap (λ z. cast_signed w128 (cast_unsigned w128 (shr_z z (2 ^ unsigned_abs (cast_signed w128 (cast_unsigned w128 amount)))))) same_a
    ∙ ap (λ z. cast_signed w128 (cast_unsigned w128 (shr_z c.args.a (2 ^ unsigned_abs z)))) (read_back amount c.ranges.amount.sfits)
    ∙ read_back (shr_z c.args.a p) small ∙ floor_shift c.args.a p ∙ ap (floored c.args.a) (sym (power_is amount (unsigned_abs amount) is))

pub returns-else-amount-lt127 : goal.returns-else-amount-lt127
returns-else-amount-lt127 c =
    let amount = c.args.amount in
    let is = natural amount c.requires in
    let same_a = read_back c.args.a c.ranges.a.sfits in
    let far : 127 ≤ unsigned_abs amount = omega (arith, ints) in
    let small : mag (shr_z c.args.a (2 ^ 127)) < 2 ^ 127 = omega (arith, mag_shr c.args.a (2 ^ 127), c.ranges.a.sfits) in
    ap (λ z. cast_signed w128 (cast_unsigned w128 (shr_z z (2 ^ 127)))) same_a
    ∙ read_back (shr_z c.args.a (2 ^ 127)) small ∙ floor_far c.args.a (unsigned_abs amount) c.ranges.a.sfits far ∙ ap (floored c.args.a) (sym (power_is amount (unsigned_abs amount) is))
