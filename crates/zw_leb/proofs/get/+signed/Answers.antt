use Rattle.std.proofs.Common.{arith}
use Rattle.zw_leb.proofs.ReadLemmas.{no_signed_last, no_signed_room, no_signed_further, signed_further, high_times, high_plus}
use Rattle.zw_leb.proofs.get.+signed.Goals as goal

pub returns-in_err-number : goal.returns-in_err-number
returns-in_err-number t c = rw c.from_residual-in_err-number.ensures (no_signed_last _ _ _ _ c.in_ok-first.ensures.cases.0 c.if-first-lt128.true c.in_err-number.ensures)

pub returns-then-bits-le7 : goal.returns-then-bits-le7
returns-then-bits-le7 t c = no_signed_room _ _ _ _ c.in_ok-first.ensures.cases.0 c.if-first-lt128.false c.if-bits-le7.true

pub returns-in_err-high : goal.returns-in_err-high
returns-in_err-high t c = rw c.from_residual-in_err-high.ensures (no_signed_further _ _ _ _ c.in_ok-first.ensures.cases.0 c.if-first-lt128.false c.in_err-high.ensures)

pub overflow_mul-result : goal.overflow_mul-result
overflow_mul-result t c = high_times _ _ _ _ c.requires.few (omega arith) c.in_ok-high.ensures

pub returns : goal.returns
returns t c =
    signed_further _ _ _ _ _ _ _ c.in_ok-first.ensures.cases.0 c.if-first-lt128.false (omega arith) (omega arith)
    (high_plus _ _ _ _ _ _ c.requires.few (omega arith) c.if-first-lt128.false (omega arith) c.in_ok-high.ensures c.from.ensures)
    c.in_ok-high.ensures
