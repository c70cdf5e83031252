-- No line that is said is empty.
use Rattle.std.proofs.Common.{◌≡◌, ℕ, ◌<◌, List, [], ◌∷◌, ◌++◌, length, refl, sym, subst, arith}
use Rattle.zw_drive.specs.Denials.{denial_line}
use Rattle.zw_drive.specs.Refusals.{refusal_line}
use Rattle.zw_drive.specs.declared.denial.Denial.{Denial}
use Rattle.zw_drive.specs.declared.denial.Denial.TheVariants as denial
use Rattle.zw_drive.specs.declared.refusal.Refusal.{Refusal}
use Rattle.zw_drive.specs.declared.refusal.Refusal.TheVariants as refusal
use Rattle.zw_report.specs.Lines.{shown}

some_behind : (front : List ℕ) (byte : ℕ) (bytes : List ℕ) → 0 < length (front ++ byte ∷ bytes)
some_behind [] byte bytes = omega arith
some_behind (first ∷ front) byte bytes = omega arith

is_some : (line : List ℕ) (byte : ℕ) (bytes : List ℕ) → line ≡ byte ∷ bytes → 0 < length line
is_some line byte bytes same = subst (λ (l : List ℕ). 0 < length l) (sym same) (some_behind [] byte bytes)

refusal_some : (file : List ℕ) (r : Refusal) → 0 < length (refusal_line file r)
refusal_some file refusal.Absent = some_behind (shown file) _ _
refusal_some file refusal.TooLong = some_behind (shown file) _ _
refusal_some file (refusal.Unread at code) = some_behind (shown file) _ _
refusal_some file (refusal.Outside section entry) = some_behind (shown file) _ _
refusal_some file (refusal.Body func at code) = some_behind (shown file) _ _

pub denial_some : (file : List ℕ) (d : Denial) → 0 < length (denial_line file d)
denial_some file (denial.File r) = refusal_some file r
denial_some file denial.Start = some_behind (shown file) _ _
denial_some file (denial.Segment number) = some_behind (shown file) _ _
denial_some file (denial.NoExport name) = is_some (denial_line file (denial.NoExport name)) _ _ refl
denial_some file (denial.BadArguments name) = is_some (denial_line file (denial.BadArguments name)) _ _ refl
denial_some file (denial.BadReply line) = is_some (denial_line file (denial.BadReply line)) _ _ refl
denial_some file denial.InputTooLong = is_some (denial_line file denial.InputTooLong) _ _ refl
