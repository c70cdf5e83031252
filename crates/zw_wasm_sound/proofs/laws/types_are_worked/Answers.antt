use Rattle.zw_wasm_sound.proofs.Worked.{worked-types}
use Rattle.zw_wasm_sound.proofs.laws.types_are_worked.Goals as goal

pub returns : goal.returns
returns c = worked-types
