use Rattle.zw_wasm_sound.proofs.Sound.{next-typed, run-typed, step-typed}
use Rattle.zw_wasm_sound.proofs.Valid.{bodies-of}
use Rattle.zw_wasm_sound.proofs.laws.valid_modules_are_sound.Goals as goal

pub returns-clause-next : goal.returns-clause-next
returns-clause-next c = λ m results d valid h. next-typed m (bodies-of m valid) results d h

pub returns-clause-step : goal.returns-clause-step
returns-clause-step c = λ m v results d valid h. step-typed m (bodies-of m valid) results v d h

pub returns-clause-run : goal.returns-clause-run
returns-clause-run c = λ m v results d bound valid h. run-typed m (bodies-of m valid) results v bound d h
