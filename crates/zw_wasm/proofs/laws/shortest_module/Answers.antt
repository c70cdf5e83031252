use Rattle.zw_wasm.proofs.Encodes.{encodes}
use Rattle.zw_wasm.proofs.laws.shortest_module.Goals as goal

pub returns : goal.returns
returns c = encodes
