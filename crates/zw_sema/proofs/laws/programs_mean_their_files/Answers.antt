-- The machine is that of the same functions.
use Rattle.std.specs.Prelude.{List}
use Rattle.std.proofs.Common.{ap}
use Rattle.zw_session.specs.Sessions.{session}
use Rattle.zw_typed.specs.Exports.{Exported, exports_machine}
use Rattle.zw_sema.proofs.laws.programs_mean_their_files.Goals as goal

pub returns : goal.returns
returns c = λ forest bound p is calls replies. ap (λ (exports : List Exported). session (exports_machine exports) calls tt replies 0) is.functions
