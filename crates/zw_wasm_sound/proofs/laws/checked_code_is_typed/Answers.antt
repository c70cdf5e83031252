use Rattle.zw_wasm_sound.proofs.Valid.{code-typed}
use Rattle.zw_wasm_sound.proofs.laws.checked_code_is_typed.Goals as goal

pub returns : goal.returns
returns c = λ x instrs h. code-typed x x.returns instrs h
