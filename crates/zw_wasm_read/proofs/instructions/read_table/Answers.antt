use Rattle.std.proofs.Common.{refl}
use Rattle.zw_wasm.specs.ModuleBytes.{IsU32, IsVector}
use Rattle.zw_wasm_read.proofs.Exits.{exit}
use Rattle.zw_wasm_read.proofs.InstructionLemmas.{labels_behind}
use Rattle.zw_wasm_read.proofs.Leaving.{turn, then, as_kind}
use Rattle.zw_wasm_read.proofs.Uniqueness.{sure-u32, sure-vector, behind}
use Rattle.zw_wasm_read.proofs.instructions.read_table.Goals as goal

pub returns-in_err-labels : goal.returns-in_err-labels
returns-in_err-labels c = exit (IsVector IsU32) _ _ _ c.from_residual.ensures.1 c.in_err-labels.ensures (λ unfit i rest l. let n = labels_behind i _ _ l in unfit n.0 _ (turn n.2).first)

pub returns-in_err-default : goal.returns-in_err-default
returns-in_err-default c = exit IsU32 _ _ _ c.from_residual-in_err-default.ensures.1 c.in_err-default.ensures (λ unfit i rest l. let n = labels_behind i _ _ l in unfit n.1 _ (behind (sure-vector sure-u32) _ c.in_ok-labels.ensures n.2).1)

pub returns : goal.returns
returns c = rw c.in_ok-labels-2.ensures (as_kind (λ front p. record { same = refl; immediate = p }) (then c.in_ok-labels.ensures c.in_ok-default.ensures))
