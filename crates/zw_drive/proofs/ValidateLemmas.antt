-- Validating a file ends as its parts end, and its report blames the object that failed.
use Rattle.std.proofs.Common.{◌≡◌, ◌⊎◌, ℕ, ◌≤◌, List, [], ◌∷◌, ◌++◌, take, length, Option, Some, Result, Ok, Err, refl, sym, ◌∙◌, ap, subst, inl, inr, arith, lit≤}
use Rattle.std.proofs.lemmas.List.{append-nil}
use Rattle.std.specs.Io.KnownBytes.{Appends}
use Rattle.zw_base.specs.Faults.{Counts}
use Rattle.zw_base.specs.declared.files.Answer.{Answer}
use Rattle.zw_base.specs.declared.files.Answer.TheVariants as answers
use Rattle.zw_base.specs.declared.files.Handed.{Handed}
use Rattle.zw_drive.specs.Commands.{Asks, Validate}
use Rattle.zw_drive.specs.Due.{IsBlamed, IsDue, Serves}
use Rattle.zw_drive.specs.Lines.{tree_fault_line, out_fault_line}
use Rattle.zw_drive.specs.Refusals.{refusal_line, status_of}
use Rattle.zw_drive.specs.Statuses.{code_of}
use Rattle.zw_drive.specs.Validate.{Accepts, FileLoads, IsFileDue, IsNoFile, IsValidateDue, Judges, JudgesModule, SpellValid, ValidatesBytes, ValidatesFile, out_failed, tree_failed, valid_line}
use Rattle.zw_drive.specs.ValidateReports.{ReportsValidated}
use Rattle.zw_drive.specs.declared.refusal.Refusal.{Refusal}
use Rattle.zw_drive.specs.declared.refusal.Refusal.TheVariants as refusal
use Rattle.zw_drive.specs.declared.status.Status.{Status}
use Rattle.zw_drive.specs.declared.status.Status.TheVariants as statuses
use Rattle.zw_drive.specs.declared.validate.TheConstants.{MODULE_LIMIT}
use Rattle.zw_drive.specs.declared.validate.ValidateErr.{ValidateErr}
use Rattle.zw_drive.specs.declared.validate.ValidateErr.TheVariants as validate
use Rattle.zw_wasm.specs.ModuleBytes.{ModuleBytes}
use Rattle.zw_wasm.specs.Validity.{IsValid}
use Rattle.zw_wasm.specs.declared.module.Module.{Module}
use Rattle.zw_drive.proofs.BlameLemmas.{said_code, unblamed, blamed, no_fourth}
use Rattle.zw_drive.proofs.BuildLemmas.{Appends-none, Consumes-none}
use Rattle.zw_drive.proofs.ServeLemmas.{front_all, said_ends, unread}

-- a module that was read was judged
pub judged : (bytes : List ℕ) (m : Module) (r : Result Module ValidateErr) → ModuleBytes m bytes → JudgesModule m r → Judges bytes r
judged bytes m (Ok checked) b h = (subst (λ (k : Module). ModuleBytes k bytes) (sym h.0) b, subst (λ (k : Module). IsValid k) (sym h.0) h.1)
judged bytes m (Err (validate.Refused refusal.Absent)) b h = h
judged bytes m (Err (validate.Refused refusal.TooLong)) b h = h
judged bytes m (Err (validate.Refused (refusal.Unread at code))) b h = absurd h
judged bytes m (Err (validate.Refused (refusal.Outside section entry))) b h = (m, b, h)
judged bytes m (Err (validate.Refused (refusal.Body func at code))) b h = (m, b, h)
judged bytes m (Err validate.TreeFault) b h = h
judged bytes m (Err validate.OutFault) b h = h
judged bytes m (Err validate.Oom) b h = tt

-- valid bytes were accepted
accepted : (bytes : List ℕ) (old new : Option (List ℕ)) (r : Result (Unit {0}) ValidateErr) → SpellValid bytes → Accepts old new r → ValidatesBytes bytes old new r
accepted bytes old new (Ok x) valid h = (valid_line, h, (valid, refl))
accepted bytes old new (Err (validate.Refused r)) valid h = absurd h
accepted bytes old new (Err validate.TreeFault) valid h = absurd h
accepted bytes old new (Err validate.OutFault) valid h = (take h.0 valid_line, h.1, (valid, (h.0, refl)))
accepted bytes old new (Err validate.Oom) valid h = (take h.0 valid_line, h.1, inr (valid, (h.0, refl)))

-- and so were those that spell a valid module
pub accepted_module : (bytes : List ℕ) (m : Module) (old new : Option (List ℕ)) (r : Result (Unit {0}) ValidateErr) → ModuleBytes m bytes × IsValid m → Accepts old new r → ValidatesBytes bytes old new r
accepted_module bytes m old new r h a = accepted bytes old new r (m, h.0, h.1) a

-- others were not
pub unaccepted : (bytes : List ℕ) (taken : Option (List ℕ)) (e : ValidateErr) → Judges bytes (Err e) → ValidatesBytes bytes taken taken (Err e)
unaccepted bytes taken (validate.Refused r) h = ([], Appends-none taken, (refl, h))
unaccepted bytes taken validate.TreeFault h = absurd h
unaccepted bytes taken validate.OutFault h = absurd h
unaccepted bytes taken validate.Oom h = ([], Appends-none taken, inl refl)

abbrev pair_of : List ℕ → Answer → List Handed
pair_of file answer = record { path = file; answer = answer } ∷ []

due_valid : (file bytes out : List ℕ) → length bytes ≤ MODULE_LIMIT → SpellValid bytes → out ≡ valid_line → IsValidateDue file (pair_of file (answers.Bytes bytes)) 0 out []
due_valid file bytes out fits valid is = (answers.Bytes bytes, refl, record { fits = fits; due = inl (valid, record { status_is = refl; out_is = is; line_is = refl }) })

-- the bytes of a file were validated
pub validates_bytes : (file : List ℕ) (old new : List Handed) (before after : Option (List ℕ)) (bytes : List ℕ) (r : Result (Unit {0}) ValidateErr) → (new ≡ old ++ record { path = file; answer = answers.Bytes bytes } ∷ []) × (length bytes ≤ MODULE_LIMIT) → ValidatesBytes bytes before after r → ValidatesFile file old new before after r
validates_bytes file old new before after bytes (Ok x) adds w =
    record { files = pair_of file (answers.Bytes bytes); out = w.0; loads = adds.0; writes = w.1; ends = due_valid file bytes w.0 adds.1 w.2.0 w.2.1 }
validates_bytes file old new before after bytes (Err (validate.Refused r)) adds w =
    record {
      files = pair_of file (answers.Bytes bytes);
      out = w.0;
      loads = adds.0;
      writes = w.1;
      ends = (w.2.0, (answers.Bytes bytes, refl, record { fits = adds.1; due = inr (r, w.2.1, record { status_is = refl; out_is = refl; line_is = refl }) }));
    }
validates_bytes file old new before after bytes (Err validate.TreeFault) adds w = absurd w.2
validates_bytes file old new before after bytes (Err validate.OutFault) adds w =
    record { files = pair_of file (answers.Bytes bytes); out = w.0; loads = adds.0; writes = w.1; ends = (valid_line, due_valid file bytes valid_line adds.1 w.2.0 refl, w.2.1) }
validates_bytes file old new before after bytes (Err validate.Oom) adds w =
    record {
      files = pair_of file (answers.Bytes bytes);
      out = w.0;
      loads = adds.0;
      writes = w.1;
      ends = elim w.2 [ inl e ↦ inl (e, inr (answers.Bytes bytes, refl, adds.1)) | inr h ↦ inr (valid_line, due_valid file bytes valid_line adds.1 h.0 refl, h.1) ];
    }

-- what is due where there are no bytes of the file
no_file : (file : List ℕ) (answer : Answer) (r : Refusal) → IsNoFile answer r → IsFileDue file answer (code_of (status_of r)) [] (refusal_line file r)
no_file file answers.Absent r h = record { status_is = ap (λ (q : Refusal). code_of (status_of q)) h; out_is = refl; line_is = ap (refusal_line file) h }
no_file file (answers.TooLong limit) r h =
    (h.0, record { status_is = ap (λ (q : Refusal). code_of (status_of q)) h.1; out_is = refl; line_is = ap (refusal_line file) h.1 })
no_file file (answers.Bytes bytes) r h = absurd h

-- the load gave no bytes
pub validates_nothing : (file : List ℕ) (old new : List Handed) (taken : Option (List ℕ)) (e : ValidateErr) → FileLoads file old new (Err e) → ValidatesFile file old new taken taken (Err e)
validates_nothing file old new taken (validate.Refused r) h =
    record { files = pair_of file h.0; out = []; loads = h.1; writes = Appends-none taken; ends = (refl, (h.0, refl, no_file file h.0 r h.2)) }
validates_nothing file old new taken validate.TreeFault h = record { files = []; out = []; loads = h ∙ sym (append-nil old); writes = Appends-none taken; ends = (refl, refl) }
validates_nothing file old new taken validate.OutFault h = absurd h
validates_nothing file old new taken validate.Oom h =
    record { files = []; out = []; loads = h ∙ sym (append-nil old); writes = Appends-none taken; ends = inl (refl, inl refl) }

-- ---- reports

module _ (words : List (List ℕ)) (file : List ℕ) (asks : Asks words (Some (Validate file))) (left : Option (List ℕ)) (old new : List Handed) (out_before out_after before after : Option (List ℕ)) where
  due_words : (files : List Handed) (status : ℕ) (out line : List ℕ) → IsValidateDue file files status out line → IsDue words files (unread left) status out line
  due_words files status out line due = record { asked = Some (Validate file); asks = asks; due = (refl, due) }

  -- a file was validated, or not, and that was reported
  pub serves_validate : (r : Result (Unit {0}) ValidateErr) (status : Status) → ValidatesFile file old new out_before out_after r → ReportsValidated file r before after status → Serves words old new left left out_before out_after before after (code_of status)
  serves_validate (Ok x) status w says =
      record {
        files = w.files;
        input = [];
        out = w.out;
        line = [];
        loads = w.loads;
        reads = Consumes-none left;
        within = lit≤ tt;
        writes = w.writes;
        says = subst (λ (t : Option (List ℕ)). Appends before t []) (sym says.same) (Appends-none before);
        ends = inl (inl (rw says.own_status (due_words w.files 0 w.out [] w.ends)));
      }
  serves_validate (Err (validate.Refused r)) status w says =
      record {
        files = w.files;
        input = [];
        out = w.out;
        line = says.said;
        loads = w.loads;
        reads = Consumes-none left;
        within = lit≤ tt;
        writes = w.writes;
        says = says.puts;
        ends = said_ends words w.files (unread left) w.out (refusal_line file r) says.said (status_of r) status
            (inl (rw w.ends.0 (due_words w.files (code_of (status_of r)) [] (refusal_line file r) w.ends.1))) says.ends;
      }
  serves_validate (Err validate.TreeFault) status w says =
      record {
        files = w.files;
        input = [];
        out = w.out;
        line = says.said;
        loads = w.loads;
        reads = Consumes-none left;
        within = lit≤ tt;
        writes = w.writes;
        says = says.puts;
        ends = said_ends words w.files (unread left) w.out tree_fault_line says.said statuses.TreeFault status
            (inr (inl (record { asked = Some (Validate file); asks = asks; at_load = w.ends.1; unread = refl; status_is = refl; out_is = w.ends.0; line_is = refl }))) says.ends;
      }
  serves_validate (Err validate.OutFault) status w says =
      record {
        files = w.files;
        input = [];
        out = w.out;
        line = says.said;
        loads = w.loads;
        reads = Consumes-none left;
        within = lit≤ tt;
        writes = w.writes;
        says = says.puts;
        ends = said_ends words w.files (unread left) w.out out_fault_line says.said statuses.OutFault status
            (inr (inr (inr (record { due_status = 0; due = w.ends.0; is_due = due_words w.files 0 w.ends.0 [] w.ends.1; status_is = refl; out_is = w.ends.2; line_is = refl })))) says.ends;
      }
  serves_validate (Err validate.Oom) status w says =
      record {
        files = w.files;
        input = [];
        out = w.out;
        line = [];
        loads = w.loads;
        reads = Consumes-none left;
        within = lit≤ tt;
        writes = w.writes;
        says = subst (λ (t : Option (List ℕ)). Appends before t []) (sym says.same) (Appends-none before);
        ends = inr (inr (record {
          status_is = ap code_of says.own_status;
          written = elim w.ends [ inl e ↦ inl (e.0, refl, inr (Some (Validate file), asks, e.1)) | inr h ↦ inr (0, h.0, [], inl (due_words w.files 0 h.0 [] h.1), h.2, front_all []) ];
        }));
      }

-- a refusal's status is 1 or 6
refusal_code : (r : Refusal) → (code_of (status_of r) ≡ 1) ⊎ (code_of (status_of r) ≡ 6)
refusal_code refusal.Absent = inl refl
refusal_code refusal.TooLong = inl refl
refusal_code (refusal.Unread at code) = inr refl
refusal_code (refusal.Outside section entry) = inr refl
refusal_code (refusal.Body func at code) = inr refl

refusal_apart : (r : Refusal) (n : ℕ) → (1 ≡ n → ⊥) → (6 ≡ n → ⊥) → code_of (status_of r) ≡ n → ⊥
refusal_apart r n one six e = elim (refusal_code r) [ inl h ↦ one (sym h ∙ e) | inr h ↦ six (sym h ∙ e) ]

-- the tree
pub tree_blamed_validate : (f g : ℕ) (file : List ℕ) (r : Result (Unit {0}) ValidateErr) (before after : Option (List ℕ)) (status : Status) → Counts f g (tree_failed r) → ReportsValidated file r before after status → IsBlamed f g (code_of status) 7 (10 ∷ 11 ∷ [])
tree_blamed_validate f g file (Ok x) before after status counts says = unblamed f g _ 7 counts (λ e. omega (arith, ap code_of says.own_status))
tree_blamed_validate f g file (Err (validate.Refused r)) before after status counts says =
    unblamed f g _ 7 counts (no_fourth (code_of (status_of r)) (code_of status) 7 (said_code (status_of r) (refusal_line file r) before after status says) (refusal_apart r 7 (λ e. omega arith) (λ e. omega arith)) (λ e. omega arith) (λ e. omega arith))
tree_blamed_validate f g file (Err validate.TreeFault) before after status counts says = blamed f g (code_of status) 7 counts (said_code statuses.TreeFault tree_fault_line before after status says)
tree_blamed_validate f g file (Err validate.OutFault) before after status counts says =
    unblamed f g _ 7 counts (no_fourth 9 (code_of status) 7 (said_code statuses.OutFault out_fault_line before after status says) (λ e. omega arith) (λ e. omega arith) (λ e. omega arith))
tree_blamed_validate f g file (Err validate.Oom) before after status counts says = unblamed f g _ 7 counts (λ e. omega (arith, ap code_of says.own_status))

-- the output
pub out_blamed_validate : (f g : ℕ) (file : List ℕ) (r : Result (Unit {0}) ValidateErr) (before after : Option (List ℕ)) (status : Status) → Counts f g (out_failed r) → ReportsValidated file r before after status → IsBlamed f g (code_of status) 9 (10 ∷ 11 ∷ [])
out_blamed_validate f g file (Ok x) before after status counts says = unblamed f g _ 9 counts (λ e. omega (arith, ap code_of says.own_status))
out_blamed_validate f g file (Err (validate.Refused r)) before after status counts says =
    unblamed f g _ 9 counts (no_fourth (code_of (status_of r)) (code_of status) 9 (said_code (status_of r) (refusal_line file r) before after status says) (refusal_apart r 9 (λ e. omega arith) (λ e. omega arith)) (λ e. omega arith) (λ e. omega arith))
out_blamed_validate f g file (Err validate.TreeFault) before after status counts says =
    unblamed f g _ 9 counts (no_fourth 7 (code_of status) 9 (said_code statuses.TreeFault tree_fault_line before after status says) (λ e. omega arith) (λ e. omega arith) (λ e. omega arith))
out_blamed_validate f g file (Err validate.OutFault) before after status counts says = blamed f g (code_of status) 9 counts (said_code statuses.OutFault out_fault_line before after status says)
out_blamed_validate f g file (Err validate.Oom) before after status counts says = unblamed f g _ 9 counts (λ e. omega (arith, ap code_of says.own_status))

-- the input
pub input_unread_validate : (f : ℕ) (file : List ℕ) (r : Result (Unit {0}) ValidateErr) (before after : Option (List ℕ)) (status : Status) → ReportsValidated file r before after status → IsBlamed f f (code_of status) 8 (10 ∷ 11 ∷ [])
input_unread_validate f file (Ok x) before after status says = unblamed f f _ 8 refl (λ e. omega (arith, ap code_of says.own_status))
input_unread_validate f file (Err (validate.Refused r)) before after status says =
    unblamed f f _ 8 refl (no_fourth (code_of (status_of r)) (code_of status) 8 (said_code (status_of r) (refusal_line file r) before after status says) (refusal_apart r 8 (λ e. omega arith) (λ e. omega arith)) (λ e. omega arith) (λ e. omega arith))
input_unread_validate f file (Err validate.TreeFault) before after status says =
    unblamed f f _ 8 refl (no_fourth 7 (code_of status) 8 (said_code statuses.TreeFault tree_fault_line before after status says) (λ e. omega arith) (λ e. omega arith) (λ e. omega arith))
input_unread_validate f file (Err validate.OutFault) before after status says =
    unblamed f f _ 8 refl (no_fourth 9 (code_of status) 8 (said_code statuses.OutFault out_fault_line before after status says) (λ e. omega arith) (λ e. omega arith) (λ e. omega arith))
input_unread_validate f file (Err validate.Oom) before after status says = unblamed f f _ 8 refl (λ e. omega (arith, ap code_of says.own_status))
