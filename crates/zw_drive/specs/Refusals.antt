-- Refusals: why a file is no valid module, and the line that says so. This project's own.
use Rattle.std.specs.Prelude.{ℕ, nat_eq, List, ◌++◌, codes, if◌then◌else◌}
use Rattle.std.specs.Fmt.{decimal}
use Rattle.zw_drive.specs.declared.refusal.Refusal.{Refusal}
use Rattle.zw_drive.specs.declared.refusal.Refusal.TheVariants as refusal
use Rattle.zw_drive.specs.declared.status.Status.{Status}
use Rattle.zw_drive.specs.declared.status.Status.TheVariants as statuses
use Rattle.zw_report.specs.Lines.{shown}
use Rattle.zw_wasm_read.specs.declared.stop.BadCode.{BadCode}
use Rattle.zw_wasm_read.specs.declared.stop.BadCode.TheVariants as bad

-- a file that can't be loaded is a stop, and another one is invalid
abbrev pub status_of : Refusal → Status
status_of refusal.Absent = statuses.Stopped
status_of refusal.TooLong = statuses.Stopped
status_of (refusal.Unread at code) = statuses.Invalid
status_of (refusal.Outside section entry) = statuses.Invalid
status_of (refusal.Body func at code) = statuses.Invalid

-- why reading stops
abbrev pub bad_name : BadCode → List ℕ
bad_name bad.Header = codes "bad header"
bad_name bad.Section = codes "bad section"
bad_name bad.Entry = codes "bad entry"
bad_name bad.Counts = codes "bad counts"

-- why an instruction is invalid
abbrev pub fault_name : ℕ → List ℕ
fault_name code = if nat_eq code 1 then codes "bad index" else (if nat_eq code 2 then codes "bad type" else codes "bad alignment")

abbrev pub byte_tail : ℕ → List ℕ → List ℕ
byte_tail at name = codes ": byte " ++ (decimal at ++ (codes ": " ++ (name ++ codes "\n")))

abbrev pub entry_tail : ℕ → ℕ → List ℕ
entry_tail section entry = codes ": section " ++ (decimal section ++ (codes " entry " ++ (decimal entry ++ codes ": invalid\n")))

abbrev pub instruction_tail : ℕ → ℕ → List ℕ → List ℕ
instruction_tail func at name = codes ": func " ++ (decimal func ++ (codes " instruction " ++ (decimal at ++ (codes ": " ++ (name ++ codes "\n")))))

-- what follows the file's name
abbrev pub refusal_tail : Refusal → List ℕ
refusal_tail refusal.Absent = codes ": absent\n"
refusal_tail refusal.TooLong = codes ": too long\n"
refusal_tail (refusal.Unread at code) = byte_tail at (bad_name code)
refusal_tail (refusal.Outside section entry) = entry_tail section entry
refusal_tail (refusal.Body func at code) = instruction_tail func at (fault_name code)

abbrev pub refusal_line : List ℕ → Refusal → List ℕ
refusal_line file r = shown file ++ refusal_tail r
