-- Denials: why calls of a module's file aren't run, and the line that says so. This project's own.
use Rattle.std.specs.Prelude.{ℕ, List, ◌++◌, codes}
use Rattle.std.specs.Fmt.{decimal}
use Rattle.zw_drive.specs.Refusals.{refusal_line, status_of}
use Rattle.zw_drive.specs.declared.denial.Denial.{Denial}
use Rattle.zw_drive.specs.declared.denial.Denial.TheVariants as denial
use Rattle.zw_drive.specs.declared.status.Status.{Status}
use Rattle.zw_drive.specs.declared.status.Status.TheVariants as statuses
use Rattle.zw_report.specs.Lines.{shown}

-- a file that can't run is invalid; what was asked for, or the input, is a refusal of the usage
abbrev pub denial_status : Denial → Status
denial_status (denial.File r) = status_of r
denial_status denial.Start = statuses.Invalid
denial_status (denial.Segment number) = statuses.Invalid
denial_status (denial.NoExport name) = statuses.Usage
denial_status (denial.BadArguments name) = statuses.Usage
denial_status (denial.BadReply line) = statuses.Usage
denial_status denial.InputTooLong = statuses.Usage

abbrev pub segment_tail : ℕ → List ℕ
segment_tail number = codes ": segment " ++ (decimal number ++ codes " out of range\n")

abbrev pub reply_line : ℕ → List ℕ
reply_line line = codes "bad reply line " ++ (decimal line ++ codes "\n")

-- a line with a name
abbrev pub named_line : List ℕ → List ℕ → List ℕ
named_line text name = text ++ shown name ++ codes "\n"

abbrev pub denial_line : List ℕ → Denial → List ℕ
denial_line file (denial.File r) = refusal_line file r
denial_line file denial.Start = shown file ++ codes ": has start\n"
denial_line file (denial.Segment number) = shown file ++ segment_tail number
denial_line file (denial.NoExport name) = named_line (codes "no export ") name
denial_line file (denial.BadArguments name) = named_line (codes "bad arguments ") name
denial_line file (denial.BadReply line) = reply_line line
denial_line file denial.InputTooLong = codes "input too long\n"
