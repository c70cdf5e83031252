use Rattle.std.proofs.Common.{arith}
use Rattle.zw_wasm.specs.ModuleBytes.{IsHeader}
use Rattle.zw_wasm_read.proofs.Exits.{unpassed}
use Rattle.zw_wasm_read.proofs.ModuleLemmas.{module_read, wrong_header, front_stop, back_stop, counts_differ}
use Rattle.zw_wasm_read.proofs.module.read.Goals as goal

pub returns-in-Err-Unfit : goal.returns-in-Err-Unfit
returns-in-Err-Unfit c = wrong_header _ _ c.stop.ensures (unpassed IsHeader _ _ c.in-Err-Unfit.ensures c.in-Err-Unfit.field-0-is)

pub returns-in_err-front : goal.returns-in_err-front
returns-in_err-front c = front_stop _ _ _ _ c.from_residual.ensures.1 c.in-Ok.ensures c.in_err-front.ensures

pub returns-in_err-back : goal.returns-in_err-back
returns-in_err-back c = back_stop _ _ _ _ _ _ c.from_residual-in_err-back.ensures.1 c.in-Ok.ensures c.in_ok-front.ensures c.in_err-back.ensures

pub returns-then-len : goal.returns-then-len
returns-then-len c = counts_differ _ _ _ _ _ _ _ c.stop-then-len.ensures c.in-Ok.ensures c.in_ok-front.ensures c.in_ok-back.ensures (λ same. omega arith)

pub returns : goal.returns
returns c = rw c.joined.ensures (module_read _ _ _ _ _ _ _ c.in-Ok.ensures c.in_ok-front.ensures c.in_ok-back.ensures (omega arith))
