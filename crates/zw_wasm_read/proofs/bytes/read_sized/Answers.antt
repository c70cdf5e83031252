use Rattle.std.proofs.Common.{length}
use Rattle.zw_wasm.specs.ModuleBytes.{IsU32}
use Rattle.zw_wasm_read.proofs.ByteLemmas.{sized, too_short}
use Rattle.zw_wasm_read.proofs.Exits.{exit_to_part}
use Rattle.zw_wasm_read.proofs.Leaving.{turn}
use Rattle.zw_wasm_read.proofs.bytes.read_sized.Goals as goal

pub returns-in_err-len : goal.returns-in_err-len
returns-in_err-len c = exit_to_part IsU32 _ _ _ c.from_residual.ensures.1 c.in_err-len.ensures (λ unfit x rest l. unfit (length x) _ (turn l).first)

pub returns-then-rest-len : goal.returns-then-rest-len
returns-then-rest-len c = too_short _ _ _ c.in_ok-len.ensures c.if-rest-len.true

pub returns : goal.returns
returns c = sized _ _ _ c.in_ok-len.ensures c.if-rest-len.false
