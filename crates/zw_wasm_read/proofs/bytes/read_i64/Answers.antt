use Rattle.zw_wasm_read.proofs.ByteLemmas.{signed_64}
use Rattle.zw_wasm_read.proofs.bytes.read_i64.Goals as goal

pub returns-in-Some : goal.returns-in-Some
returns-in-Some c = signed_64 _ _ _ c.in-Some.ensures
