use Rattle.std.proofs.Common.{refl}
use Rattle.zw_wasm.specs.ModuleBytes.{IsU32, Byte}
use Rattle.zw_wasm_read.proofs.Exits.{exit, exit_passed}
use Rattle.zw_wasm_read.proofs.InstructionLemmas.{indirect_behind}
use Rattle.zw_wasm_read.proofs.Leaving.{turn, then, as_kind}
use Rattle.zw_wasm_read.proofs.Uniqueness.{sure-u32, behind}
use Rattle.zw_wasm_read.proofs.instructions.read_indirect.Goals as goal

pub returns-in_err-ty : goal.returns-in_err-ty
returns-in_err-ty c = exit IsU32 _ _ _ c.from_residual.ensures.1 c.in_err-ty.ensures (λ unfit i rest l. let n = indirect_behind i _ _ l in unfit n.0 _ (turn n.1).first)

pub returns-in_err-b : goal.returns-in_err-b
returns-in_err-b c = exit_passed (Byte 0x00) _ _ _ c.from_residual-in_err-b.ensures.1 c.in_err-b.ensures (λ unfit i rest l. let n = indirect_behind i _ _ l in unfit _ (behind sure-u32 _ c.in_ok-ty.ensures n.1).1)

pub returns : goal.returns
returns c = as_kind (λ front p. record { same = refl; immediate = p }) (then c.in_ok-ty.ensures c.in_ok-b.ensures)
