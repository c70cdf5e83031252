use Rattle.zw_wasm_read.proofs.Tails.{one_module}
use Rattle.zw_wasm_read.proofs.laws.one_module.Goals as goal

pub returns : goal.returns
returns c = one_module
