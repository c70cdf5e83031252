-- The line that tells of a stop: the file in which it stands, its place, and which error or limit it is. It ends with LF. This project's own.
use Rattle.std.specs.Prelude.{ℕ, ◌-◌, ◌≤◌, List, [], ◌++◌, map, codes, slice_index_or}
use Rattle.std.specs.Fmt.{decimal}
use Rattle.zw_base.specs.declared.stop.Stop.{Stop}
use Rattle.zw_base.specs.declared.stop.StopKind.{StopKind}
use Rattle.zw_base.specs.declared.stop.StopKind.TheVariants.{Error, Limit}
use Rattle.zw_report.specs.Lines.{shown}
use Rattle.zw_report.specs.declared.stops.TheConstants.{ERROR_NAMES, LIMIT_NAMES}

-- there is an error or a limit of this number
abbrev pub IsNamed : StopKind → Type 0
IsNamed (Error number) = (1 ≤ number) × (number ≤ 36)
IsNamed (Limit number) = (1 ≤ number) × (number ≤ 14)

abbrev pub class_of : StopKind → List ℕ
class_of (Error number) = codes "error"
class_of (Limit number) = codes "limit"

abbrev pub number_of : StopKind → ℕ
number_of (Error number) = number
number_of (Limit number) = number

abbrev pub name_of : StopKind → List ℕ
name_of (Error number) = slice_index_or (map (λ name. name.now) ERROR_NAMES) (number - 1) []
name_of (Limit number) = slice_index_or (map (λ name. name.now) LIMIT_NAMES) (number - 1) []

-- what follows the path in the line of a stop
abbrev pub after_path : ℕ → ℕ → List ℕ → ℕ → List ℕ → List ℕ
after_path line column class number name =
    codes ":" ++ (decimal line ++ (codes ":" ++ (decimal column ++ (codes ": " ++ (class ++ (codes " " ++ (decimal number ++ (codes " " ++ (name ++ codes "\n")))))))))

-- `PATH:LINE:COLUMN: error N Name`, or `limit` in place of `error`
abbrev pub stop_line : List ℕ → Stop → List ℕ
stop_line path stop = shown path ++ after_path stop.place.line stop.place.column (class_of stop.kind) (number_of stop.kind) (name_of stop.kind)
