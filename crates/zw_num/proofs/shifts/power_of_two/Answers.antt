use Rattle.std.proofs.Common.{◌%◌, ◌*◌, ◌^◌, ap, sym, ◌∙◌, arith}
use Rattle.std.specs.Int.{w128, cast_signed}
use Rattle.std.specs.Prelude.{unsigned_abs}
use Rattle.std.proofs.lemmas.Int.{ints}
use Rattle.zw_num.proofs.ShiftLemmas.{power_is, natural, low_power}
use Rattle.zw_num.proofs.WrappedLemmas.{read_back}
use Rattle.zw_num.proofs.shifts.power_of_two.Goals as goal

pub returns : goal.returns
returns c =
    let amount = c.args.amount in
    let is = natural amount c.requires.from_zero in
    ap (λ z. cast_signed w128 (1 * 2 ^ unsigned_abs z % 2 ^ 128)) (read_back amount c.ranges.amount.sfits)
    ∙ low_power (unsigned_abs amount) (omega (arith, ints)) ∙ sym (power_is amount (unsigned_abs amount) is)
