-- How the end of running calls of a module's file is reported. This project's own.
use Rattle.std.specs.Prelude.{ℕ, List, Option, Result, Ok, Err}
use Rattle.zw_drive.specs.Denials.{denial_line, denial_status}
use Rattle.zw_drive.specs.Ends.{IsSilent, Says}
use Rattle.zw_drive.specs.Lines.{tree_fault_line, input_fault_line, out_fault_line}
use Rattle.zw_drive.specs.declared.exec.ExecErr.{ExecErr}
use Rattle.zw_drive.specs.declared.exec.ExecErr.TheVariants as exec
use Rattle.zw_drive.specs.declared.status.Status.{Status}
use Rattle.zw_drive.specs.declared.status.Status.TheVariants as statuses
use Rattle.zw_exec.specs.declared.end.SessionEnd.{SessionEnd}
use Rattle.zw_exec.specs.declared.end.SessionEnd.TheVariants as session

-- the status of a session that ended so
abbrev pub session_status : SessionEnd → Status
session_status session.Done = statuses.Done
session_status session.Panicked = statuses.Panicked
session_status session.StepsOut = statuses.StepsOut
session_status session.WantsReply = statuses.WantsReply
session_status session.Trapped = statuses.Trapped

-- a denial's line was said, or there was no memory for it
abbrev pub ReportsExec : List ℕ → Result SessionEnd ExecErr → Option (List ℕ) → Option (List ℕ) → Status → Type 0
ReportsExec file (Ok end) before after status = IsSilent (session_status end) before after status
ReportsExec file (Err (exec.Denied d)) before after status = Says (denial_status d) (denial_line file d) before after status
ReportsExec file (Err exec.TreeFault) before after status = Says statuses.TreeFault tree_fault_line before after status
ReportsExec file (Err exec.InputFault) before after status = Says statuses.InputFault input_fault_line before after status
ReportsExec file (Err exec.OutFault) before after status = Says statuses.OutFault out_fault_line before after status
ReportsExec file (Err exec.Oom) before after status = IsSilent statuses.OutOfMemory before after status
