-- No two statuses, outputs and lines are due for validating the same file.
use Rattle.std.proofs.Common.{◌≡◌, ◌⊎◌, ℕ, List, [], ◌∷◌, Some, None, refl, sym, ◌∙◌, ap, subst, inl, inr}
use Rattle.zw_base.specs.declared.files.Answer.{Answer}
use Rattle.zw_base.specs.declared.files.Answer.TheVariants as answers
use Rattle.zw_base.specs.declared.files.Handed.{Handed}
use Rattle.zw_drive.specs.Refusals.{refusal_line, status_of}
use Rattle.zw_drive.specs.Statuses.{code_of}
use Rattle.zw_drive.specs.Validate.{IsAccepted, IsFileDue, IsRefused, IsValidateDue, Refuses, SpellValid}
use Rattle.zw_drive.specs.declared.refusal.Refusal.{Refusal}
use Rattle.zw_drive.specs.declared.refusal.Refusal.TheVariants as refusal
use Rattle.zw_wasm.specs.ModuleBytes.{ModuleBytes}
use Rattle.zw_wasm.specs.Validity.{Violation, first_violation}
use Rattle.zw_wasm.specs.declared.module.Module.{Module}
use Rattle.zw_wasm_read.specs.Stops.{IsStop}
use Rattle.zw_wasm_read.specs.declared.stop.BadCode.{BadCode}
use Rattle.zw_wasm_read.proofs.Excluded.{no_module}
use Rattle.zw_wasm_read.proofs.Stopping.{one_stop}
use Rattle.zw_wasm_read.proofs.Tails.{one_module}

-- the same status, output and line
abbrev pub IsSame : ℕ → ℕ → List ℕ → List ℕ → List ℕ → List ℕ → Type 0
IsSame status other out more line another = (status ≡ other) × (out ≡ more) × (line ≡ another)

-- the first violation of what the bytes spell is one
one_violation : (bytes : List ℕ) (m o : Module) (v w : Violation) → ModuleBytes m bytes → ModuleBytes o bytes → first_violation m ≡ Some v → first_violation o ≡ Some w → v ≡ w
one_violation bytes m o v w b c e f =
    let same : Some v ≡ Some w = sym e ∙ ap first_violation (one_module m o bytes b c) ∙ f in cc

-- what stops isn't spelled
stopped : (bytes : List ℕ) (at : ℕ) (code : BadCode) (m : Module) → IsStop bytes at code → ModuleBytes m bytes → ⊥
stopped bytes at code m stop b = no_module bytes at code stop m b

pub one_refusal : (bytes : List ℕ) (r s : Refusal) → Refuses bytes r → Refuses bytes s → r ≡ s
one_refusal bytes refusal.Absent s h k = absurd h
one_refusal bytes refusal.TooLong s h k = absurd h
one_refusal bytes (refusal.Unread at code) refusal.Absent h k = absurd k
one_refusal bytes (refusal.Unread at code) refusal.TooLong h k = absurd k
one_refusal bytes (refusal.Unread at code) (refusal.Unread at' code') h k =
    let same = one_stop bytes at code at' code' h k in
    ap (λ (n : ℕ). refusal.Unread n code) same.0 ∙ ap (λ (c : BadCode). refusal.Unread at' c) same.1
one_refusal bytes (refusal.Unread at code) (refusal.Outside section entry) h k = absurd (stopped bytes at code k.0 h k.1)
one_refusal bytes (refusal.Unread at code) (refusal.Body func place fault) h k = absurd (stopped bytes at code k.0 h k.1)
one_refusal bytes (refusal.Outside section entry) refusal.Absent h k = absurd k
one_refusal bytes (refusal.Outside section entry) refusal.TooLong h k = absurd k
one_refusal bytes (refusal.Outside section entry) (refusal.Unread at code) h k = absurd (stopped bytes at code h.0 k h.1)
one_refusal bytes (refusal.Outside section entry) (refusal.Outside section' entry') h k =
    let same = one_violation bytes h.0 k.0 (Violation.Outside section entry) (Violation.Outside section' entry') h.1 k.1 h.2 k.2 in cc
one_refusal bytes (refusal.Outside section entry) (refusal.Body func at code) h k =
    let same = one_violation bytes h.0 k.0 (Violation.Outside section entry) (Violation.Body func at code) h.1 k.1 h.2 k.2 in absurd cc
one_refusal bytes (refusal.Body func at code) refusal.Absent h k = absurd k
one_refusal bytes (refusal.Body func at code) refusal.TooLong h k = absurd k
one_refusal bytes (refusal.Body func at code) (refusal.Unread place bad) h k = absurd (stopped bytes place bad h.0 k h.1)
one_refusal bytes (refusal.Body func at code) (refusal.Outside section entry) h k =
    let same = one_violation bytes h.0 k.0 (Violation.Body func at code) (Violation.Outside section entry) h.1 k.1 h.2 k.2 in absurd cc
one_refusal bytes (refusal.Body func at code) (refusal.Body func' at' code') h k =
    let same = one_violation bytes h.0 k.0 (Violation.Body func at code) (Violation.Body func' at' code') h.1 k.1 h.2 k.2 in cc

-- what is valid isn't refused
valid_violation : (m : Module) (v : Violation) → first_violation m ≡ None → first_violation m ≡ Some v → ⊥
valid_violation m v none some = let wrong : None ≡ Some v = sym none ∙ some in absurd cc

pub valid_or_refused : (bytes : List ℕ) (r : Refusal) → SpellValid bytes → Refuses bytes r → ⊥
valid_or_refused bytes refusal.Absent h k = k
valid_or_refused bytes refusal.TooLong h k = k
valid_or_refused bytes (refusal.Unread at code) h k = stopped bytes at code h.0 k h.1
valid_or_refused bytes (refusal.Outside section entry) h k =
    valid_violation k.0 (Violation.Outside section entry) (ap first_violation (one_module k.0 h.0 bytes k.1 h.1) ∙ h.2.none) k.2
valid_or_refused bytes (refusal.Body func at code) h k =
    valid_violation k.0 (Violation.Body func at code) (ap first_violation (one_module k.0 h.0 bytes k.1 h.1) ∙ h.2.none) k.2

one_refused : (file : List ℕ) (r s : Refusal) (n m : ℕ) (out out' line line' : List ℕ) → r ≡ s → IsRefused file r n out line → IsRefused file s m out' line' → IsSame n m out out' line line'
one_refused file r s n m out out' line line' same h k =
    (h.status_is ∙ ap (λ (q : Refusal). code_of (status_of q)) same ∙ sym k.status_is, h.out_is ∙ sym k.out_is, h.line_is ∙ ap (refusal_line file) same ∙ sym k.line_is)

abbrev IsChosen : List ℕ → List ℕ → ℕ → List ℕ → List ℕ → Type 0
IsChosen file bytes status out line = (SpellValid bytes × IsAccepted status out line) ⊎ ((r : Refusal) × Refuses bytes r × IsRefused file r status out line)

one_choice : (file bytes : List ℕ) (s t : ℕ) (out out' line line' : List ℕ) → IsChosen file bytes s out line → IsChosen file bytes t out' line' → IsSame s t out out' line line'
one_choice file bytes s t out out' line line' (inl h) (inl k) = (h.1.status_is ∙ sym k.1.status_is, h.1.out_is ∙ sym k.1.out_is, h.1.line_is ∙ sym k.1.line_is)
one_choice file bytes s t out out' line line' (inl h) (inr k) = absurd (valid_or_refused bytes k.0 h.0 k.1)
one_choice file bytes s t out out' line line' (inr h) (inl k) = absurd (valid_or_refused bytes h.0 k.0 h.1)
one_choice file bytes s t out out' line line' (inr h) (inr k) = one_refused file h.0 k.0 s t out out' line line' (one_refusal bytes h.0 k.0 h.1 k.1) h.2 k.2

one_file : (file : List ℕ) (answer : Answer) (s t : ℕ) (out out' line line' : List ℕ) → IsFileDue file answer s out line → IsFileDue file answer t out' line' → IsSame s t out out' line line'
one_file file answers.Absent s t out out' line line' h k = one_refused file refusal.Absent refusal.Absent s t out out' line line' refl h k
one_file file (answers.TooLong limit) s t out out' line line' h k = one_refused file refusal.TooLong refusal.TooLong s t out out' line line' refl h.1 k.1
one_file file (answers.Bytes bytes) s t out out' line line' h k = one_choice file bytes s t out out' line line' h.due k.due

abbrev pub first_of : List Handed → Answer → Answer
first_of [] a = a
first_of (pair ∷ pairs) a = pair.answer

pub one_validate : (file : List ℕ) (files : List Handed) (s t : ℕ) (out out' line line' : List ℕ) → IsValidateDue file files s out line → IsValidateDue file files t out' line' → IsSame s t out out' line line'
one_validate file files s t out out' line line' h k =
    let same : k.0 ≡ h.0 = ap (λ (pairs : List Handed). first_of pairs h.0) (sym k.1 ∙ h.1) in
    one_file file h.0 s t out out' line line' h.2 (subst (λ (a : Answer). IsFileDue file a t out' line') same k.2)
