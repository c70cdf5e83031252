-- Paths of files below the root folder, and where an import literal leads. This project's own.
use Rattle.std.specs.Prelude.{ℕ, ◌-◌, ◌==◌, ◌&&◌, not, nat_eq, Bool, List, [], ◌∷◌, ◌++◌, codes, length, take, drop, Option, Some, None, if◌then◌else◌}
use Rattle.std.specs.List.{slice_split, suffix_len, join_with_byte, ends_with, list_any}
use Rattle.std.specs.Option.{option_map, option_and_then}
use Rattle.std.specs.Str.{is_utf8, bytes_eq}

abbrev pub is_slash : ℕ → Bool
is_slash b = b == 47

-- the segments of a path: what stands between its slashes
abbrev pub segments : List ℕ → List (List ℕ)
segments path = slice_split is_slash path

-- the path of the root up to and with its last slash
abbrev pub root_folder : List ℕ → List ℕ
root_folder root = take (length root - suffix_len (λ b. not (is_slash b)) root) root

abbrev pub all_but_last : {A : Type 0} → List A → List A
all_but_last [] = []
all_but_last (x ∷ []) = []
all_but_last (x ∷ (y ∷ xs)) = x ∷ all_but_last (y ∷ xs)

-- the folders below the root folder in which a file lies, from the outermost on
abbrev pub folders_of : List ℕ → List ℕ → List (List ℕ)
folders_of root path = all_but_last (segments (drop (length (root_folder root)) path))

-- one folder up; from the root folder no way leads up
abbrev pub up : List (List ℕ) → Option (List (List ℕ))
up [] = None
up (outer ∷ folders) = Some (all_but_last (outer ∷ folders))

-- where a segment leads: `.` stays, `..` goes up, and any other one goes down, unless it is empty
abbrev pub step : List (List ℕ) → List ℕ → Option (List (List ℕ))
step folders [] = None
step folders (b ∷ bytes) =
    if bytes_eq (b ∷ bytes) (codes ".") then Some folders else (if bytes_eq (b ∷ bytes) (codes "..") then up folders else Some (folders ++ (b ∷ bytes) ∷ []))

-- where segments lead, none of which leaves the root folder
abbrev pub walk : List (List ℕ) → List (List ℕ) → Option (List (List ℕ))
walk folders [] = Some folders
walk folders (segment ∷ others) = option_and_then (λ next. walk next others) (step folders segment)

-- the literal is UTF-8 without a zero byte, and ends with `.zig`
abbrev pub may_be_path : List ℕ → Bool
may_be_path literal = is_utf8 literal && not (list_any (λ b. b == 0) literal) && ends_with nat_eq literal (codes ".zig")

-- a path below the root folder
abbrev pub path_below : List ℕ → List (List ℕ) → List ℕ
path_below root below = root_folder root ++ join_with_byte 47 below

-- the path of the file that a literal in the file at this path names; None where it names none
abbrev pub resolved : List ℕ → List ℕ → List ℕ → Option (List ℕ)
resolved root path literal =
    if may_be_path literal then option_map (path_below root) (walk (folders_of root path) (segments literal)) else None
