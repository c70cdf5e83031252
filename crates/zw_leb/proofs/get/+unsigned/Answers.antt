use Rattle.std.proofs.Common.{◌<◌, ◌^◌, arith}
use Rattle.zw_leb.proofs.ReadLemmas.{small_power, large_power, high_below, unsigned_one, no_unsigned_past, no_unsigned_room, no_unsigned_further}
use Rattle.zw_leb.proofs.get.+unsigned.Goals as goal
use Rattle.zw_leb.proofs.get.+unsigned.Goals.{else-bits-lt7-via-then-bits-lt7+else-first-bits, else-bits-lt7-via-else-bits-lt7}

pub returns-then-first-bits : goal.returns-then-first-bits
returns-then-first-bits t c =
    no_unsigned_past _ _ _ _ c.in_ok-first.ensures.cases.0 c.if-first-lt128.true (omega (arith, small_power c.args.bits c.if-bits-lt7.true))

pub returns-then-first-lt128 : goal.returns-then-first-lt128
returns-then-first-lt128 t c =
    let fits : c.in_ok-first.first.now < 2 ^ c.args.bits =
    elim c.else-bits-lt7.branch [
      | else-bits-lt7-via-then-bits-lt7+else-first-bits w ↦ omega (arith, small_power c.args.bits w.if-bits-lt7.true)
      | else-bits-lt7-via-else-bits-lt7 w ↦ omega (arith, large_power c.args.bits w.if-bits-lt7.false)
    ] in
    rw c.from.ensures (unsigned_one _ _ _ _ c.in_ok-first.ensures.cases.0 c.if-first-lt128.true fits)

pub returns-then-bits-le7 : goal.returns-then-bits-le7
returns-then-bits-le7 t c = no_unsigned_room _ _ _ _ c.in_ok-first.ensures.cases.0 c.if-first-lt128.false c.if-bits-le7.true

pub returns-in_err-high : goal.returns-in_err-high
returns-in_err-high t c = rw c.from_residual-in_err-high.ensures (no_unsigned_further _ _ _ _ c.in_ok-first.ensures.cases.0 c.if-first-lt128.false c.in_err-high.ensures)

pub overflow_mul-result : goal.overflow_mul-result
overflow_mul-result t c = omega (arith, high_below c.args.bits c.in_ok-high.high c.in_ok-high.len _ c.requires c.in_ok-high.ensures)

pub overflow_add-result : goal.overflow_add-result
overflow_add-result t c = omega (arith, high_below c.args.bits c.in_ok-high.high c.in_ok-high.len _ c.requires c.in_ok-high.ensures)
