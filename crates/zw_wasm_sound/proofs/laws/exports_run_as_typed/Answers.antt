use Rattle.zw_wasm_sound.proofs.Exports.{args-typed, export-typed}
use Rattle.zw_wasm_sound.proofs.laws.exports_run_as_typed.Goals as goal

pub returns-clause-exported : goal.returns-clause-exported
returns-clause-exported c = λ m name f valid e. export-typed m valid name f e

pub returns-clause-arguments : goal.returns-clause-arguments
returns-clause-arguments c = args-typed
