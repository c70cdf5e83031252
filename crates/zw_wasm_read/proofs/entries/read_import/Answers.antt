use Rattle.zw_wasm.specs.ModuleBytes.{Byte, IsName, IsU32}
use Rattle.zw_wasm_read.proofs.Exits.{exit, exit_passed}
use Rattle.zw_wasm_read.proofs.Leaving.{turn, then}
use Rattle.zw_wasm_read.proofs.Uniqueness.{sure-name, behind, behind_byte, past_two}
use Rattle.zw_wasm_read.proofs.entries.read_import.Goals as goal

pub returns-in_err-module : goal.returns-in_err-module
returns-in_err-module c = exit IsName _ _ _ c.from_residual.ensures.1 c.in_err-module.ensures (λ unfit x rest l. unfit _ _ (turn (turn l).first).first)

pub returns-in_err-field : goal.returns-in_err-field
returns-in_err-field c = exit IsName _ _ _ c.from_residual-in_err-field.ensures.1 c.in_err-field.ensures (λ unfit x rest l. unfit _ _ (behind sure-name _ c.in_ok-module.ensures (turn l).first).1)

pub returns-in_err-b : goal.returns-in_err-b
returns-in_err-b c = exit_passed (Byte 0x00) _ _ _ c.from_residual-in_err-b.ensures.1 c.in_err-b.ensures (λ unfit x rest l. unfit _ (turn (past_two sure-name sure-name _ _ c.in_ok-module.ensures c.in_ok-field.ensures l)).first)

pub returns-in_err-ty : goal.returns-in_err-ty
returns-in_err-ty c = exit IsU32 _ _ _ c.from_residual-in_err-ty.ensures.1 c.in_err-ty.ensures (λ unfit x rest l. unfit _ _ (behind_byte c.in_ok-b.ensures (past_two sure-name sure-name _ _ c.in_ok-module.ensures c.in_ok-field.ensures l)))

pub returns : goal.returns
returns c = then (then c.in_ok-module.ensures c.in_ok-field.ensures) (then c.in_ok-b.ensures c.in_ok-ty.ensures)
