use Rattle.std.proofs.Common.{arith}
use Rattle.zw_wasm.specs.ModuleBytes.{IsU32, IsValueType}
use Rattle.zw_wasm_read.proofs.Exits.{exit}
use Rattle.zw_wasm_read.proofs.TypeLemmas.{result-count, result-of_many, result-of_one, no_result, one_result}
use Rattle.zw_wasm_read.proofs.types.read_result_type.Goals as goal

pub returns-in_err-count : goal.returns-in_err-count
returns-in_err-count c = exit IsU32 _ _ _ c.from_residual.ensures.1 c.in_err-count.ensures (λ unfit o rest l. let n = result-count o _ _ l in unfit n.0 _ n.3)

pub returns-then-count-eq0 : goal.returns-then-count-eq0
returns-then-count-eq0 c = no_result _ _ _ c.if-count-eq0.true c.in_ok-count.ensures

pub returns-then-count-gt1 : goal.returns-then-count-gt1
returns-then-count-gt1 c = result-of_many _ _ _ c.in_ok-count.ensures c.if-count-gt1.true

pub returns-in_err-ty : goal.returns-in_err-ty
returns-in_err-ty c = exit IsValueType _ _ _ c.from_residual-in_err-ty.ensures.1 c.in_err-ty.ensures (result-of_one _ _ _ (omega arith) c.if-count-gt1.false c.in_ok-count.ensures)

pub returns : goal.returns
returns c = one_result _ _ _ _ _ (omega arith) c.if-count-gt1.false c.in_ok-count.ensures c.in_ok-ty.ensures
