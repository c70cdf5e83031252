-- How the end of validating a file is reported. This project's own.
use Rattle.std.specs.Prelude.{ℕ, List, Option, Result, Ok, Err}
use Rattle.zw_drive.specs.Ends.{IsSilent, Says}
use Rattle.zw_drive.specs.Lines.{tree_fault_line, out_fault_line}
use Rattle.zw_drive.specs.Refusals.{refusal_line, status_of}
use Rattle.zw_drive.specs.declared.status.Status.{Status}
use Rattle.zw_drive.specs.declared.status.Status.TheVariants as statuses
use Rattle.zw_drive.specs.declared.validate.ValidateErr.{ValidateErr}
use Rattle.zw_drive.specs.declared.validate.ValidateErr.TheVariants as validate

-- a refusal's line was said, or there was no memory for it
abbrev pub ReportsValidated : List ℕ → Result (Unit {0}) ValidateErr → Option (List ℕ) → Option (List ℕ) → Status → Type 0
ReportsValidated file (Ok x) before after status = IsSilent statuses.Done before after status
ReportsValidated file (Err (validate.Refused r)) before after status = Says (status_of r) (refusal_line file r) before after status
ReportsValidated file (Err validate.TreeFault) before after status = Says statuses.TreeFault tree_fault_line before after status
ReportsValidated file (Err validate.OutFault) before after status = Says statuses.OutFault out_fault_line before after status
ReportsValidated file (Err validate.Oom) before after status = IsSilent statuses.OutOfMemory before after status
