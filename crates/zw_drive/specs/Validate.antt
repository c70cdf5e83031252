-- Validating a file: what is due for `validate FILE`, and how its parts end. This project's own.
use Rattle.std.specs.Prelude.{◌≡◌, ◌⊎◌, ℕ, ◌≤◌, Bool, true, false, List, [], ◌∷◌, ◌++◌, codes, length, Option, Some, Result, Ok, Err, Vec}
use Rattle.std.specs.Io.KnownBytes.{Appends}
use Rattle.std.specs.declared.alloc.Global.{Global}
use Rattle.zw_base.specs.Outside.{AppendsFront, IsAnswerAt}
use Rattle.zw_base.specs.declared.files.Answer.{Answer}
use Rattle.zw_base.specs.declared.files.Answer.TheVariants as answers
use Rattle.zw_base.specs.declared.files.Handed.{Handed}
use Rattle.zw_drive.specs.Fronts.{IsFront}
use Rattle.zw_drive.specs.Refusals.{refusal_line, status_of}
use Rattle.zw_drive.specs.Statuses.{code_of}
use Rattle.zw_drive.specs.declared.refusal.Refusal.{Refusal}
use Rattle.zw_drive.specs.declared.refusal.Refusal.TheVariants as refusal
use Rattle.zw_drive.specs.declared.validate.TheConstants.{MODULE_LIMIT}
use Rattle.zw_drive.specs.declared.validate.ValidateErr.{ValidateErr}
use Rattle.zw_drive.specs.declared.validate.ValidateErr.TheVariants as validate
use Rattle.zw_wasm.specs.ModuleBytes.{ModuleBytes}
use Rattle.zw_wasm.specs.Validity.{IsValid, Outside, Body, first_violation}
use Rattle.zw_wasm.specs.declared.module.Module.{Module}
use Rattle.zw_wasm_read.specs.Stops.{IsStop}

-- the bytes spell a valid module
abbrev pub SpellValid : List ℕ → Type 0
SpellValid bytes = (m : Module) × ModuleBytes m bytes × IsValid m

-- the bytes spell no module, and reading stops here; or they spell one with this first violation
abbrev pub Refuses : List ℕ → Refusal → Type 0
Refuses bytes refusal.Absent = ⊥
Refuses bytes refusal.TooLong = ⊥
Refuses bytes (refusal.Unread at code) = IsStop bytes at code
Refuses bytes (refusal.Outside section entry) = (m : Module) × ModuleBytes m bytes × (first_violation m ≡ Some (Outside section entry))
Refuses bytes (refusal.Body func at code) = (m : Module) × ModuleBytes m bytes × (first_violation m ≡ Some (Body func at code))

abbrev pub valid_line : List ℕ
valid_line = codes "valid\n"

-- the file is valid: status 0, `valid` to the output, and no line
pub record IsAccepted (status : ℕ) (out line : List ℕ) : Type 0 where
  pub status_is : status ≡ 0
  pub out_is : out ≡ valid_line
  pub line_is : line ≡ []

-- the file is refused: the refusal's status and line, and nothing to the output
pub record IsRefused (file : List ℕ) (r : Refusal) (status : ℕ) (out line : List ℕ) : Type 0 where
  pub status_is : status ≡ code_of (status_of r)
  pub out_is : out ≡ []
  pub line_is : line ≡ refusal_line file r

-- what is due for bytes, which are no more than a module's file may have
pub record AreBytesDue (file bytes : List ℕ) (status : ℕ) (out line : List ℕ) : Type 0 where
  pub fits : length bytes ≤ MODULE_LIMIT
  pub due : (SpellValid bytes × IsAccepted status out line) ⊎ ((r : Refusal) × Refuses bytes r × IsRefused file r status out line)

-- what is due for an answer to the load of the file, of which no more bytes were asked for than a module's file may have
abbrev pub IsFileDue : List ℕ → Answer → ℕ → List ℕ → List ℕ → Type 0
IsFileDue file answers.Absent status out line = IsRefused file refusal.Absent status out line
IsFileDue file (answers.TooLong limit) status out line = (limit ≡ MODULE_LIMIT) × IsRefused file refusal.TooLong status out line
IsFileDue file (answers.Bytes bytes) status out line = AreBytesDue file bytes status out line

-- what is due for `validate FILE`: the tree hands over the file and nothing else
abbrev pub IsValidateDue : List ℕ → List Handed → ℕ → List ℕ → List ℕ → Type 0
IsValidateDue file files status out line =
    (answer : Answer) × (files ≡ record { path = file; answer = answer } ∷ []) × IsFileDue file answer status out line

-- ---- how the parts end

-- how judging bytes ends
abbrev pub Judges : List ℕ → Result Module ValidateErr → Type 0
Judges bytes (Ok m) = ModuleBytes m bytes × IsValid m
Judges bytes (Err (validate.Refused r)) = Refuses bytes r
Judges bytes (Err validate.TreeFault) = ⊥
Judges bytes (Err validate.OutFault) = ⊥
Judges bytes (Err validate.Oom) = Unit {0}

-- how judging a module ends
abbrev pub JudgesModule : Module → Result Module ValidateErr → Type 0
JudgesModule m (Ok checked) = (checked ≡ m) × IsValid m
JudgesModule m (Err (validate.Refused refusal.Absent)) = ⊥
JudgesModule m (Err (validate.Refused refusal.TooLong)) = ⊥
JudgesModule m (Err (validate.Refused (refusal.Unread at code))) = ⊥
JudgesModule m (Err (validate.Refused (refusal.Outside section entry))) = first_violation m ≡ Some (Outside section entry)
JudgesModule m (Err (validate.Refused (refusal.Body func at code))) = first_violation m ≡ Some (Body func at code)
JudgesModule m (Err validate.TreeFault) = ⊥
JudgesModule m (Err validate.OutFault) = ⊥
JudgesModule m (Err validate.Oom) = Unit {0}

-- the output took `valid`, or a front of it
abbrev pub Accepts : Option (List ℕ) → Option (List ℕ) → Result (Unit {0}) ValidateErr → Type 0
Accepts old new (Ok x) = Appends old new valid_line
Accepts old new (Err (validate.Refused r)) = ⊥
Accepts old new (Err validate.TreeFault) = ⊥
Accepts old new (Err validate.OutFault) = AppendsFront old new valid_line
Accepts old new (Err validate.Oom) = AppendsFront old new valid_line

-- how validating bytes ends, with these bytes taken by the output
abbrev pub BytesEnd : List ℕ → List ℕ → Result (Unit {0}) ValidateErr → Type 0
BytesEnd bytes out (Ok x) = SpellValid bytes × (out ≡ valid_line)
BytesEnd bytes out (Err (validate.Refused r)) = (out ≡ []) × Refuses bytes r
BytesEnd bytes out (Err validate.TreeFault) = ⊥
BytesEnd bytes out (Err validate.OutFault) = SpellValid bytes × IsFront out valid_line
BytesEnd bytes out (Err validate.Oom) = (out ≡ []) ⊎ (SpellValid bytes × IsFront out valid_line)

abbrev pub ValidatesBytes : List ℕ → Option (List ℕ) → Option (List ℕ) → Result (Unit {0}) ValidateErr → Type 0
ValidatesBytes bytes old new result = (out : List ℕ) × Appends old new out × BytesEnd bytes out result

abbrev pub tree_failed : {T : Type 0} → Result T ValidateErr → Bool
tree_failed (Ok x) = false
tree_failed (Err (validate.Refused r)) = false
tree_failed (Err validate.TreeFault) = true
tree_failed (Err validate.OutFault) = false
tree_failed (Err validate.Oom) = false

abbrev pub out_failed : {T : Type 0} → Result T ValidateErr → Bool
out_failed (Ok x) = false
out_failed (Err (validate.Refused r)) = false
out_failed (Err validate.TreeFault) = false
out_failed (Err validate.OutFault) = true
out_failed (Err validate.Oom) = false

-- there are no bytes of the file, and this refuses it
abbrev pub IsNoFile : Answer → Refusal → Type 0
IsNoFile answers.Absent r = r ≡ refusal.Absent
IsNoFile (answers.TooLong limit) r = (limit ≡ MODULE_LIMIT) × (r ≡ refusal.TooLong)
IsNoFile (answers.Bytes bytes) r = ⊥

-- how the load of the file ends
abbrev pub FileLoads : List ℕ → List Handed → List Handed → Result (Vec ℕ Global) ValidateErr → Type 0
FileLoads file old new (Ok bytes) = (new ≡ old ++ record { path = file; answer = answers.Bytes bytes.items } ∷ []) × (length bytes.items ≤ MODULE_LIMIT)
FileLoads file old new (Err (validate.Refused r)) = (answer : Answer) × (new ≡ old ++ record { path = file; answer = answer } ∷ []) × IsNoFile answer r
FileLoads file old new (Err validate.TreeFault) = new ≡ old
FileLoads file old new (Err validate.OutFault) = ⊥
FileLoads file old new (Err validate.Oom) = new ≡ old

-- the tree handed over the file, with an answer at the limit of a module's file, or nothing
abbrev pub IsFileAtMost : List ℕ → List Handed → Type 0
IsFileAtMost file files = (files ≡ []) ⊎ ((answer : Answer) × (files ≡ record { path = file; answer = answer } ∷ []) × IsAnswerAt MODULE_LIMIT answer)

-- how validating a file ends, with these files handed over and these bytes taken
abbrev pub ValidateEnds : List ℕ → List Handed → List ℕ → Result (Unit {0}) ValidateErr → Type 0
ValidateEnds file files out (Ok x) = IsValidateDue file files 0 out []
ValidateEnds file files out (Err (validate.Refused r)) = (out ≡ []) × IsValidateDue file files (code_of (status_of r)) [] (refusal_line file r)
ValidateEnds file files out (Err validate.TreeFault) = (out ≡ []) × (files ≡ [])
ValidateEnds file files out (Err validate.OutFault) = (due : List ℕ) × IsValidateDue file files 0 due [] × IsFront out due
ValidateEnds file files out (Err validate.Oom) = ((out ≡ []) × IsFileAtMost file files) ⊎ ((due : List ℕ) × IsValidateDue file files 0 due [] × IsFront out due)

-- the tree handed over files, and the output took bytes, with which validating ended so
pub record ValidatesFile (file : List ℕ) (loaded_before loaded_after : List Handed) (taken_before taken_after : Option (List ℕ)) (result : Result (Unit {0}) ValidateErr) : Type 0 where
  pub files : List Handed
  pub out : List ℕ
  pub loads : loaded_after ≡ loaded_before ++ files
  pub writes : Appends taken_before taken_after out
  pub ends : ValidateEnds file files out result
