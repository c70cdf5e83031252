-- The numbers of statuses. This project's own.
use Rattle.std.specs.Prelude.{ℕ}
use Rattle.zw_drive.specs.declared.status.Status.{Status}
use Rattle.zw_drive.specs.declared.status.Status.TheVariants as statuses

abbrev pub code_of : Status → ℕ
code_of statuses.Done = 0
code_of statuses.Stopped = 1
code_of statuses.Usage = 2
code_of statuses.Panicked = 3
code_of statuses.StepsOut = 4
code_of statuses.WantsReply = 5
code_of statuses.Invalid = 6
code_of statuses.TreeFault = 7
code_of statuses.InputFault = 8
code_of statuses.OutFault = 9
code_of statuses.DiagFault = 10
code_of statuses.OutOfMemory = 11
code_of statuses.Trapped = 12
