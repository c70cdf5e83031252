use Rattle.std.proofs.Common.{arith}
use Rattle.zw_wasm.specs.ModuleBytes.{Byte, IsU32}
use Rattle.zw_wasm_read.proofs.Exits.{exit}
use Rattle.zw_wasm_read.proofs.TypeLemmas.{limits-parts, limits-flag, limits-least, limits-greatest, with_least, with_both}
use Rattle.zw_wasm_read.proofs.types.read_limits.Goals as goal

pub returns-in_err-flag : goal.returns-in_err-flag
returns-in_err-flag c = exit Byte _ _ _ c.from_residual.ensures.1 c.in_err-flag.ensures (λ unfit x rest l. let p = limits-parts x _ _ l in unfit p.flag _ p.first)

pub returns-then-flag-gt1 : goal.returns-then-flag-gt1
returns-then-flag-gt1 c = limits-flag _ _ _ c.in_ok-flag.ensures c.if-flag-gt1.true

pub returns-in_err-least : goal.returns-in_err-least
returns-in_err-least c = exit IsU32 _ _ _ c.from_residual-in_err-least.ensures.1 c.in_err-least.ensures (λ unfit. limits-least _ _ _ c.in_ok-flag.ensures unfit)

pub returns-then-flag-eq0 : goal.returns-then-flag-eq0
returns-then-flag-eq0 c = with_least _ _ _ _ _ c.if-flag-eq0.true c.in_ok-flag.ensures c.in_ok-least.ensures

pub returns-in_err-greatest : goal.returns-in_err-greatest
returns-in_err-greatest c = exit IsU32 _ _ _ c.from_residual-in_err-greatest.ensures.1 c.in_err-greatest.ensures (λ unfit. limits-greatest _ _ _ _ _ c.in_ok-flag.ensures c.in_ok-least.ensures (omega arith) unfit)

pub returns : goal.returns
returns c = with_both _ _ _ _ _ _ _ c.if-flag-gt1.false (omega arith) c.in_ok-flag.ensures c.in_ok-least.ensures c.in_ok-greatest.ensures
