use Rattle.zw_wasm_read.proofs.Excluded.{no_module}
use Rattle.zw_wasm_read.proofs.laws.no_module.Goals as goal

pub returns : goal.returns
returns c = no_module
