-- Calls of a module's file were run, or not, and that was reported.
use Rattle.std.proofs.Common.{◌≡◌, ℕ, List, [], ◌∷◌, Option, Some, Result, Ok, Err, refl, sym, ◌∙◌, ap, subst, inl, inr, arith}
use Rattle.std.specs.Io.KnownBytes.{Appends}
use Rattle.zw_base.specs.Faults.{Counts}
use Rattle.zw_base.specs.declared.files.Handed.{Handed}
use Rattle.zw_calls.specs.Requests.{Request}
use Rattle.zw_drive.specs.Commands.{Asks, Exec}
use Rattle.zw_drive.specs.Denials.{denial_line, denial_status}
use Rattle.zw_drive.specs.Due.{Ends, IsBlamed, IsDue, IsWhole, Serves}
use Rattle.zw_drive.specs.Exec.{IsExecDue}
use Rattle.zw_drive.specs.ExecEnds.{FileEnds, IsCutOut, RunsFile, input_fault, out_fault, tree_fault}
use Rattle.zw_drive.specs.ExecReports.{ReportsExec, session_status}
use Rattle.zw_drive.specs.Ends.{IsSilent}
use Rattle.zw_drive.specs.Inputs.{Reading}
use Rattle.zw_drive.specs.Lines.{tree_fault_line, input_fault_line, out_fault_line}
use Rattle.zw_drive.specs.Statuses.{code_of}
use Rattle.zw_drive.specs.declared.denial.Denial.{Denial}
use Rattle.zw_drive.specs.declared.denial.Denial.TheVariants as denial
use Rattle.zw_drive.specs.declared.exec.ExecErr.{ExecErr}
use Rattle.zw_drive.specs.declared.exec.ExecErr.TheVariants as exec
use Rattle.zw_drive.specs.declared.refusal.Refusal.TheVariants as refusal
use Rattle.zw_drive.specs.declared.status.Status.{Status}
use Rattle.zw_drive.specs.declared.status.Status.TheVariants as statuses
use Rattle.zw_exec.specs.Ends.{status_of}
use Rattle.zw_exec.specs.declared.end.SessionEnd.{SessionEnd}
use Rattle.zw_exec.specs.declared.end.SessionEnd.TheVariants as session
use Rattle.zw_drive.proofs.BlameLemmas.{said_code, unblamed, blamed, no_fourth}
use Rattle.zw_drive.proofs.BuildLemmas.{Appends-none}
use Rattle.zw_drive.proofs.ServeLemmas.{front_all, said_ends}

-- the number of a session's status
session_code : (end : SessionEnd) → code_of (session_status end) ≡ status_of end
session_code session.Done = refl
session_code session.Panicked = refl
session_code session.StepsOut = refl
session_code session.WantsReply = refl
session_code session.Trapped = refl

module _ (words : List (List ℕ)) (request : Request) (asks : Asks words (Some (Exec request))) (files : List Handed) (reading : Reading) (out : List ℕ) (before after : Option (List ℕ)) where
  due_words : (status : ℕ) (text line : List ℕ) → IsExecDue request files reading status text line → IsDue words files reading status text line
  due_words status text line due = record { asked = Some (Exec request); asks = asks; due = due }

  cut_out : IsCutOut (IsExecDue request files reading) out → IsWhole words files reading 9 out out_fault_line
  cut_out h =
      inr (inr (inr (record { due_status = h.status; due = h.text; is_due = due_words h.status h.text [] h.is_due; status_is = refl; out_is = h.front; line_is = refl })))

  -- what was said, and how the command ends with it
  abbrev Told : Status → Type 0
  Told status = (line : List ℕ) × Appends before after line × Ends words files reading (code_of status) out line

  silent : (own status : Status) → IsSilent own before after status → Appends before after []
  silent own status says = subst (λ (t : Option (List ℕ)). Appends before t []) (sym says.same) (Appends-none before)

  told : (r : Result SessionEnd ExecErr) (status : Status) → FileEnds request files r reading out → ReportsExec request.path r before after status → Told status
  told (Ok end) status h says = (
    [],
    silent (session_status end) status says,
    inl (inl (due_words (code_of status) out [] (subst (λ (n : ℕ). IsExecDue request files reading n out []) (sym (ap code_of says.own_status ∙ session_code end)) h))),
  )
  told (Err (exec.Denied d)) status h says = (
    says.said,
    says.puts,
    said_ends words files reading out (denial_line request.path d) says.said (denial_status d) status
        (inl (rw h.0 (due_words (code_of (denial_status d)) [] (denial_line request.path d) h.1))) says.ends,
  )
  told (Err exec.TreeFault) status h says = (
    says.said,
    says.puts,
    said_ends words files reading out tree_fault_line says.said statuses.TreeFault status
        (inr (inl (record { asked = Some (Exec request); asks = asks; at_load = h.1.1; unread = h.1.0; status_is = refl; out_is = h.0; line_is = refl }))) says.ends,
  )
  told (Err exec.InputFault) status h says = (
    says.said,
    says.puts,
    said_ends words files reading out input_fault_line says.said statuses.InputFault status
        (inr (inr (inl (record { asked = Some (Exec request); asks = asks; at_read = h.1; status_is = refl; out_is = h.0; line_is = refl })))) says.ends,
  )
  told (Err exec.OutFault) status h says =
      (says.said, says.puts, said_ends words files reading out out_fault_line says.said statuses.OutFault status (cut_out h) says.ends)
  told (Err exec.Oom) status h says = (
    [],
    silent statuses.OutOfMemory status says,
    inr (inr (record {
      status_is = ap code_of says.own_status;
      written = elim h [
        | inl e ↦ inl (e.0, refl, inr (Some (Exec request), asks, e.1))
        | inr c ↦ inr (c.status, c.text, [], inl (due_words c.status c.text [] c.is_due), c.front, front_all [])
      ];
    })),
  )

pub serves_exec : (words : List (List ℕ)) (request : Request) (old new : List Handed) (left now out_before out_after before after : Option (List ℕ)) (r : Result SessionEnd ExecErr) (status : Status) → Asks words (Some (Exec request)) → RunsFile request old new left now out_before out_after r → ReportsExec request.path r before after status → Serves words old new left now out_before out_after before after (code_of status)
serves_exec words request old new left now out_before out_after before after r status asks w says =
    let t : Told words request asks w.files (record { bytes = w.runs.input; left = now }) w.runs.out before after status =
    told words request asks w.files (record { bytes = w.runs.input; left = now }) w.runs.out before after r status w.runs.ends says in
    record {
      files = w.files;
      input = w.runs.input;
      out = w.runs.out;
      line = t.0;
      loads = w.loads;
      reads = w.runs.reads;
      within = w.runs.within;
      writes = w.runs.writes;
      says = t.1;
      ends = t.2;
    }

-- ---- blame

-- a session's status is none of these
session_apart : (end : SessionEnd) (status : Status) (n : ℕ) → status ≡ session_status end → (0 ≡ n → ⊥) → (3 ≡ n → ⊥) → (4 ≡ n → ⊥) → (5 ≡ n → ⊥) → (12 ≡ n → ⊥) → code_of status ≡ n → ⊥
session_apart session.Done status n is a b c d e same = a (sym (ap code_of is) ∙ same)
session_apart session.Panicked status n is a b c d e same = b (sym (ap code_of is) ∙ same)
session_apart session.StepsOut status n is a b c d e same = c (sym (ap code_of is) ∙ same)
session_apart session.WantsReply status n is a b c d e same = d (sym (ap code_of is) ∙ same)
session_apart session.Trapped status n is a b c d e same = e (sym (ap code_of is) ∙ same)

-- a denial's status is none but 1, 2 and 6
pub denial_apart : (d : Denial) (n : ℕ) → (1 ≡ n → ⊥) → (2 ≡ n → ⊥) → (6 ≡ n → ⊥) → code_of (denial_status d) ≡ n → ⊥
denial_apart (denial.File refusal.Absent) n one two six e = one e
denial_apart (denial.File refusal.TooLong) n one two six e = one e
denial_apart (denial.File (refusal.Unread at code)) n one two six e = six e
denial_apart (denial.File (refusal.Outside section entry)) n one two six e = six e
denial_apart (denial.File (refusal.Body func at code)) n one two six e = six e
denial_apart denial.Start n one two six e = six e
denial_apart (denial.Segment number) n one two six e = six e
denial_apart (denial.NoExport name) n one two six e = two e
denial_apart (denial.BadArguments name) n one two six e = two e
denial_apart (denial.BadReply line) n one two six e = two e
denial_apart denial.InputTooLong n one two six e = two e

-- an end of another kind blames nothing
abbrev IsOther : Result SessionEnd ExecErr → ℕ → Type 0
IsOther (Ok end) n = (0 ≡ n → ⊥) × (3 ≡ n → ⊥) × (4 ≡ n → ⊥) × (5 ≡ n → ⊥) × (12 ≡ n → ⊥)
IsOther (Err (exec.Denied d)) n = (1 ≡ n → ⊥) × (2 ≡ n → ⊥) × (6 ≡ n → ⊥)
IsOther (Err exec.TreeFault) n = 7 ≡ n → ⊥
IsOther (Err exec.InputFault) n = 8 ≡ n → ⊥
IsOther (Err exec.OutFault) n = 9 ≡ n → ⊥
IsOther (Err exec.Oom) n = Unit {0}

module _ (file : List ℕ) (before after : Option (List ℕ)) (status : Status) (n : ℕ) (no_diag : 10 ≡ n → ⊥) (no_memory : 11 ≡ n → ⊥) where
  other : (r : Result SessionEnd ExecErr) → IsOther r n → ReportsExec file r before after status → code_of status ≡ n → ⊥
  other (Ok end) h says = session_apart end status n says.own_status h.0 h.1 h.2 h.3 h.4
  other (Err (exec.Denied d)) h says =
      no_fourth (code_of (denial_status d)) (code_of status) n (said_code (denial_status d) (denial_line file d) before after status says) (denial_apart d n h.0 h.1 h.2) no_diag no_memory
  other (Err exec.TreeFault) h says = no_fourth 7 (code_of status) n (said_code statuses.TreeFault tree_fault_line before after status says) h no_diag no_memory
  other (Err exec.InputFault) h says = no_fourth 8 (code_of status) n (said_code statuses.InputFault input_fault_line before after status says) h no_diag no_memory
  other (Err exec.OutFault) h says = no_fourth 9 (code_of status) n (said_code statuses.OutFault out_fault_line before after status says) h no_diag no_memory
  other (Err exec.Oom) h says = λ e. no_memory (sym (ap code_of says.own_status) ∙ e)

module _ (f g : ℕ) (file : List ℕ) (before after : Option (List ℕ)) (status : Status) where
  not_seven : (r : Result SessionEnd ExecErr) → IsOther r 7 → ReportsExec file r before after status → code_of status ≡ 7 → ⊥
  not_seven = other file before after status 7 (λ e. omega arith) (λ e. omega arith)

  not_eight : (r : Result SessionEnd ExecErr) → IsOther r 8 → ReportsExec file r before after status → code_of status ≡ 8 → ⊥
  not_eight = other file before after status 8 (λ e. omega arith) (λ e. omega arith)

  not_nine : (r : Result SessionEnd ExecErr) → IsOther r 9 → ReportsExec file r before after status → code_of status ≡ 9 → ⊥
  not_nine = other file before after status 9 (λ e. omega arith) (λ e. omega arith)

  pub tree_blamed_exec : (r : Result SessionEnd ExecErr) → Counts f g (tree_fault r) → ReportsExec file r before after status → IsBlamed f g (code_of status) 7 (10 ∷ 11 ∷ [])
  tree_blamed_exec (Ok end) counts says = unblamed f g _ 7 counts (not_seven (Ok end) (λ e. omega arith, λ e. omega arith, λ e. omega arith, λ e. omega arith, λ e. omega arith) says)
  tree_blamed_exec (Err (exec.Denied d)) counts says = unblamed f g _ 7 counts (not_seven (Err (exec.Denied d)) (λ e. omega arith, λ e. omega arith, λ e. omega arith) says)
  tree_blamed_exec (Err exec.TreeFault) counts says = blamed f g (code_of status) 7 counts (said_code statuses.TreeFault tree_fault_line before after status says)
  tree_blamed_exec (Err exec.InputFault) counts says = unblamed f g _ 7 counts (not_seven (Err exec.InputFault) (λ e. omega arith) says)
  tree_blamed_exec (Err exec.OutFault) counts says = unblamed f g _ 7 counts (not_seven (Err exec.OutFault) (λ e. omega arith) says)
  tree_blamed_exec (Err exec.Oom) counts says = unblamed f g _ 7 counts (not_seven (Err exec.Oom) tt says)

  pub input_blamed_exec : (r : Result SessionEnd ExecErr) → Counts f g (input_fault r) → ReportsExec file r before after status → IsBlamed f g (code_of status) 8 (10 ∷ 11 ∷ [])
  input_blamed_exec (Ok end) counts says = unblamed f g _ 8 counts (not_eight (Ok end) (λ e. omega arith, λ e. omega arith, λ e. omega arith, λ e. omega arith, λ e. omega arith) says)
  input_blamed_exec (Err (exec.Denied d)) counts says = unblamed f g _ 8 counts (not_eight (Err (exec.Denied d)) (λ e. omega arith, λ e. omega arith, λ e. omega arith) says)
  input_blamed_exec (Err exec.TreeFault) counts says = unblamed f g _ 8 counts (not_eight (Err exec.TreeFault) (λ e. omega arith) says)
  input_blamed_exec (Err exec.InputFault) counts says = blamed f g (code_of status) 8 counts (said_code statuses.InputFault input_fault_line before after status says)
  input_blamed_exec (Err exec.OutFault) counts says = unblamed f g _ 8 counts (not_eight (Err exec.OutFault) (λ e. omega arith) says)
  input_blamed_exec (Err exec.Oom) counts says = unblamed f g _ 8 counts (not_eight (Err exec.Oom) tt says)

  pub out_blamed_exec : (r : Result SessionEnd ExecErr) → Counts f g (out_fault r) → ReportsExec file r before after status → IsBlamed f g (code_of status) 9 (10 ∷ 11 ∷ [])
  out_blamed_exec (Ok end) counts says = unblamed f g _ 9 counts (not_nine (Ok end) (λ e. omega arith, λ e. omega arith, λ e. omega arith, λ e. omega arith, λ e. omega arith) says)
  out_blamed_exec (Err (exec.Denied d)) counts says = unblamed f g _ 9 counts (not_nine (Err (exec.Denied d)) (λ e. omega arith, λ e. omega arith, λ e. omega arith) says)
  out_blamed_exec (Err exec.TreeFault) counts says = unblamed f g _ 9 counts (not_nine (Err exec.TreeFault) (λ e. omega arith) says)
  out_blamed_exec (Err exec.InputFault) counts says = unblamed f g _ 9 counts (not_nine (Err exec.InputFault) (λ e. omega arith) says)
  out_blamed_exec (Err exec.OutFault) counts says = blamed f g (code_of status) 9 counts (said_code statuses.OutFault out_fault_line before after status says)
  out_blamed_exec (Err exec.Oom) counts says = unblamed f g _ 9 counts (not_nine (Err exec.Oom) tt says)
