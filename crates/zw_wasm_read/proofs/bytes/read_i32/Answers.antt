use Rattle.zw_wasm_read.proofs.ByteLemmas.{signed_32}
use Rattle.zw_wasm_read.proofs.bytes.read_i32.Goals as goal

pub returns-in-Some : goal.returns-in-Some
returns-in-Some c = signed_32 _ _ _ c.in-Some.ensures
