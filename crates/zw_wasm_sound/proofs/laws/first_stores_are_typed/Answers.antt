use Rattle.zw_wasm_sound.proofs.Stores.{first-store-typed}
use Rattle.zw_wasm_sound.proofs.laws.first_stores_are_typed.Goals as goal

pub returns : goal.returns
returns c = first-store-typed
