-- A session that was run had the whole input.
use Rattle.std.proofs.Common.{◌≡◌, ◌⊎◌, ℕ, List, Option, Some, Result, Ok, Err, sym, ◌∙◌, subst, inl, inr, arith}
use Rattle.std.specs.Io.KnownBytes.{IsAtEnd}
use Rattle.zw_base.specs.declared.files.Answer.{Answer}
use Rattle.zw_base.specs.declared.files.Answer.TheVariants as answers
use Rattle.zw_base.specs.declared.files.Handed.{Handed}
use Rattle.zw_calls.specs.Requests.{Request}
use Rattle.zw_calls.specs.declared.replies.ReplyErr.{ReplyErr}
use Rattle.zw_calls.specs.declared.replies.ReplyErr.TheVariants as reply
use Rattle.zw_drive.specs.Commands.{CommandLine, Exec}
use Rattle.zw_drive.specs.Denials.{denial_status}
use Rattle.zw_drive.specs.Due.{Ends, IsCommandDue, IsWhole, RanSession, Serves}
use Rattle.zw_drive.specs.Exec.{AreCallsDue, AreRepliesDue, IsExecFileDue, IsRefusedDue, IsRunDue}
use Rattle.zw_drive.specs.Inputs.{Reading}
use Rattle.zw_drive.specs.Statuses.{code_of}
use Rattle.zw_drive.specs.declared.denial.Denial.{Denial}
use Rattle.zw_drive.specs.declared.denial.Denial.TheVariants as denial
use Rattle.zw_drive.specs.declared.refusal.Refusal.TheVariants as refusal
use Rattle.zw_exec.specs.Ends.{status_of}
use Rattle.zw_exec.specs.declared.call.SessionCall.{SessionCall}
use Rattle.zw_exec.specs.declared.end.SessionEnd.{SessionEnd}
use Rattle.zw_exec.specs.declared.end.SessionEnd.TheVariants as session
use Rattle.zw_wasm.specs.declared.module.Module.{Module}
use Rattle.zw_drive.proofs.CommandLemmas.{one_asked}
use Rattle.zw_drive.proofs.ExecServeLemmas.{denial_apart}

-- a session's status is no denial's
no_denial : (end : SessionEnd) (d : Denial) (status : ℕ) → status ≡ code_of (denial_status d) → status ≡ status_of end → ⊥
no_denial session.Done d status e f = denial_apart d 0 (λ x. omega arith) (λ x. omega arith) (λ x. omega arith) (sym e ∙ f)
no_denial session.Panicked d status e f = denial_apart d 3 (λ x. omega arith) (λ x. omega arith) (λ x. omega arith) (sym e ∙ f)
no_denial session.StepsOut d status e f = denial_apart d 4 (λ x. omega arith) (λ x. omega arith) (λ x. omega arith) (sym e ∙ f)
no_denial session.WantsReply d status e f = denial_apart d 5 (λ x. omega arith) (λ x. omega arith) (λ x. omega arith) (sym e ∙ f)
no_denial session.Trapped d status e f = denial_apart d 12 (λ x. omega arith) (λ x. omega arith) (λ x. omega arith) (sym e ∙ f)

-- nor one from 7 to 11
no_fault : (end : SessionEnd) (status : ℕ) → (status ≡ 7) ⊎ (status ≡ 8) ⊎ (status ≡ 9) ⊎ (status ≡ 10) ⊎ (status ≡ 11) → status ≡ status_of end → ⊥
no_fault session.Done status h f = elim h [ inl a ↦ omega arith | inr h ↦ elim h [ inl a ↦ omega arith | inr h ↦ elim h [ inl a ↦ omega arith | inr h ↦ elim h [ inl a ↦ omega arith | inr a ↦ omega arith ] ] ] ]
no_fault session.Panicked status h f = elim h [ inl a ↦ omega arith | inr h ↦ elim h [ inl a ↦ omega arith | inr h ↦ elim h [ inl a ↦ omega arith | inr h ↦ elim h [ inl a ↦ omega arith | inr a ↦ omega arith ] ] ] ]
no_fault session.StepsOut status h f = elim h [ inl a ↦ omega arith | inr h ↦ elim h [ inl a ↦ omega arith | inr h ↦ elim h [ inl a ↦ omega arith | inr h ↦ elim h [ inl a ↦ omega arith | inr a ↦ omega arith ] ] ] ]
no_fault session.WantsReply status h f = elim h [ inl a ↦ omega arith | inr h ↦ elim h [ inl a ↦ omega arith | inr h ↦ elim h [ inl a ↦ omega arith | inr h ↦ elim h [ inl a ↦ omega arith | inr a ↦ omega arith ] ] ] ]
no_fault session.Trapped status h f = elim h [ inl a ↦ omega arith | inr h ↦ elim h [ inl a ↦ omega arith | inr h ↦ elim h [ inl a ↦ omega arith | inr h ↦ elim h [ inl a ↦ omega arith | inr a ↦ omega arith ] ] ] ]

module _ (request : Request) (reading : Reading) (end : SessionEnd) (status : ℕ) (out line : List ℕ) (is : status ≡ status_of end) where
  denied_read : (d : Denial) → status ≡ code_of (denial_status d) → IsAtEnd reading.left
  denied_read d e = absurd (no_denial end d status e is)

  replies_read : (m : Module) (calls : List SessionCall) (r : Result (List ℕ) ReplyErr) → AreRepliesDue m request calls r reading status out line → IsAtEnd reading.left
  replies_read m calls (Ok replies) h = h.read
  replies_read m calls (Err (reply.BadLine number)) h = h.read
  replies_read m calls (Err reply.TooLong) h = denied_read denial.InputTooLong h.status_is
  replies_read m calls (Err reply.Oom) h = absurd h

  calls_read : (m : Module) (r : Result (List SessionCall) Denial) → AreCallsDue m request r reading status out line → IsAtEnd reading.left
  calls_read m (Ok calls) h = replies_read m calls h.replies h.due
  calls_read m (Err d) h = denied_read d h.denied.status_is

  file_read : (answer : Answer) → IsExecFileDue request answer reading status out line → IsAtEnd reading.left
  file_read answers.Absent h = denied_read (denial.File refusal.Absent) h.denied.status_is
  file_read (answers.TooLong limit) h = denied_read (denial.File refusal.TooLong) h.1.denied.status_is
  file_read (answers.Bytes bytes) h = chosen h.due
    where
      chosen : IsRunDue request bytes reading status out line ⊎ IsRefusedDue request bytes reading status out line → IsAtEnd reading.left
      chosen (inl a) = calls_read a.m a.due.calls a.due.due
      chosen (inr a) = denied_read (denial.File a.cause) a.denied.denied.status_is

module _ (words : List (List ℕ)) (files : List Handed) (reading : Reading) (status : ℕ) (out line : List ℕ) (ran : RanSession words status) where
  no_status : (status ≡ 7) ⊎ (status ≡ 8) ⊎ (status ≡ 9) ⊎ (status ≡ 10) ⊎ (status ≡ 11) → IsAtEnd reading.left
  no_status h = absurd (no_fault ran.end status h ran.status_is)

  whole_read : IsWhole words files reading status out line → IsAtEnd reading.left
  whole_read (inl h) =
      let due : IsCommandDue (Some (Exec ran.request)) files reading status out line =
      subst (λ (asked : Option CommandLine). IsCommandDue asked files reading status out line) (one_asked words h.asked (Some (Exec ran.request)) h.asks ran.asks) h.due in
      file_read ran.request reading ran.end status out line ran.status_is due.answer due.due
  whole_read (inr (inl h)) = no_status (inl h.status_is)
  whole_read (inr (inr (inl h))) = no_status (inr (inl h.status_is))
  whole_read (inr (inr (inr h))) = no_status (inr (inr (inl h.status_is)))

  ends_read : Ends words files reading status out line → IsAtEnd reading.left
  ends_read (inl h) = whole_read h
  ends_read (inr (inl h)) = no_status (inr (inr (inr (inl h.status_is))))
  ends_read (inr (inr h)) = no_status (inr (inr (inr (inr h.status_is))))

pub all_read : (words : List (List ℕ)) (old new : List Handed) (left now out_before out_after before after : Option (List ℕ)) (status : ℕ) → Serves words old new left now out_before out_after before after status → RanSession words status → IsAtEnd now
all_read words old new left now out_before out_after before after status w ran = ends_read words w.files (record { bytes = w.input; left = now }) status w.out w.line ran w.ends
