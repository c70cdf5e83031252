use Rattle.zw_wasm.specs.ModuleBytes.{Byte, IsVector, IsValueType, IsResultType}
use Rattle.zw_wasm_read.proofs.Exits.{exit, exit_passed}
use Rattle.zw_wasm_read.proofs.Leaving.{turn, then}
use Rattle.zw_wasm_read.proofs.TypeLemmas.{type-params}
use Rattle.zw_wasm_read.proofs.Uniqueness.{behind, sure-vector, sure-value_type}
use Rattle.zw_wasm_read.proofs.types.read_function_type.Goals as goal

pub returns-in_err-b : goal.returns-in_err-b
returns-in_err-b c = exit_passed (Byte 0x60) _ _ _ c.from_residual.ensures.1 c.in_err-b.ensures (λ unfit t rest l. unfit _ (turn (turn l).first).first)

pub returns-in_err-params : goal.returns-in_err-params
returns-in_err-params c = exit (IsVector IsValueType) _ _ _ c.from_residual-in_err-params.ensures.1 c.in_err-params.ensures (λ unfit t rest l. unfit _ _ (turn (type-params t c.in_ok-b.ensures l)).first)

pub returns-in_err-result : goal.returns-in_err-result
returns-in_err-result c = exit IsResultType _ _ _ c.from_residual-in_err-result.ensures.1 c.in_err-result.ensures (λ unfit t rest l. unfit _ _ (behind (sure-vector sure-value_type) _ c.in_ok-params.ensures (type-params t c.in_ok-b.ensures l)).1)

pub returns : goal.returns
returns c = then (then c.in_ok-b.ensures c.in_ok-params.ensures) c.in_ok-result.ensures
