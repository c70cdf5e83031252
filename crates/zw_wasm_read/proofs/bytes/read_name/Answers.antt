use Rattle.zw_wasm.specs.ModuleBytes.{IsName}
use Rattle.zw_wasm_read.proofs.Exits.{exit_part}
use Rattle.zw_wasm_read.proofs.bytes.read_name.Goals as goal

pub returns-in_err-content : goal.returns-in_err-content
returns-in_err-content c = exit_part IsName _ _ _ c.from_residual.ensures.1 c.in_err-content.ensures (λ unfit. unfit)
