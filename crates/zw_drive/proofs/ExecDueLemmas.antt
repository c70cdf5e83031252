-- No two statuses, outputs and lines are due for running calls of the same file with the same input.
use Rattle.std.proofs.Common.{◌≡◌, ◌⊎◌, ℕ, ◌<◌, ◌≤◌, List, [], ◌∷◌, length, Option, Some, None, Result, Ok, Err, refl, sym, ◌∙◌, ap, subst, inl, inr, arith}
use Rattle.std.specs.Str.Lines.{lines}
use Rattle.zw_base.specs.declared.files.Answer.{Answer}
use Rattle.zw_base.specs.declared.files.Answer.TheVariants as answers
use Rattle.zw_base.specs.declared.files.Handed.{Handed}
use Rattle.zw_calls.specs.Arguments.{Fit}
use Rattle.zw_calls.specs.Replies.{AreReplies, first_bad}
use Rattle.zw_calls.specs.Requests.{Call, Request}
use Rattle.zw_calls.specs.declared.replies.ReplyErr.{ReplyErr}
use Rattle.zw_calls.specs.declared.replies.ReplyErr.TheVariants as reply
use Rattle.zw_drive.specs.Denials.{denial_line}
use Rattle.zw_drive.specs.Exec.{AreCalls, AreCallsDue, AreExecBytesDue, ArePrepared, AreRepliesDue, IsCall, IsDeniedAtOnce, IsDeniedCall, IsExecDue, IsExecFileDue, IsInputDue, IsModuleDue, IsRefusedDue, IsRunDue, session_call}
use Rattle.zw_drive.specs.Inputs.{Reading}
use Rattle.zw_drive.specs.declared.denial.Denial.{Denial}
use Rattle.zw_drive.specs.declared.denial.Denial.TheVariants as denial
use Rattle.zw_drive.specs.declared.refusal.Refusal.{Refusal}
use Rattle.zw_exec.specs.declared.call.SessionCall.{SessionCall}
use Rattle.zw_wasm.specs.Functions.{func_type}
use Rattle.zw_wasm.specs.ModuleMachine.{export_in, param_types}
use Rattle.zw_wasm.specs.declared.module.Module.{Module}
use Rattle.zw_wasm.specs.declared.module.TheConstants.ExportDef.{FUNC}
use Rattle.zw_wasm_words.specs.Segments.{first_outside}
use Rattle.zw_wasm_read.proofs.Tails.{one_module}
use Rattle.zw_drive.proofs.ValidateDueLemmas.{IsSame, first_of, one_refusal, valid_or_refused}

-- ---- calls

abbrev Found : Module → Call → Option ℕ
Found m call = export_in FUNC call.name m.exports

same_number : (a b : ℕ) (o : Option ℕ) → o ≡ Some a → o ≡ Some b → a ≡ b
same_number a b o e f = cc

one_call : (m : Module) (call : Call) (c d : SessionCall) → IsCall m call c → IsCall m call d → c ≡ d
one_call m call c d h k = h.same ∙ ap (λ (f : ℕ). session_call m call f) (same_number h.func k.func (Found m call) h.exported k.exported) ∙ sym k.same

-- a call that is one isn't denied
unfound : (o : Option ℕ) (a : ℕ) → o ≡ Some a → o ≡ None → ⊥
unfound o a e f = let wrong : Some a ≡ None = sym e ∙ f in absurd cc

call_or_denied : (m : Module) (call : Call) (c : SessionCall) (d : Denial) → IsCall m call c → IsDeniedCall m call d → ⊥
call_or_denied m call c (denial.File cause) h k = k
call_or_denied m call c denial.Start h k = k
call_or_denied m call c (denial.Segment number) h k = k
call_or_denied m call c (denial.NoExport name) h k = unfound (Found m call) h.func h.exported k.0
call_or_denied m call c (denial.BadArguments name) h k =
    k.0.unfit (subst (λ (f : ℕ). Fit (param_types (func_type m f)) call.arguments) (same_number h.func k.0.func (Found m call) h.exported k.0.exported) h.fit)
call_or_denied m call c (denial.BadReply line) h k = k
call_or_denied m call c denial.InputTooLong h k = k

one_denied : (m : Module) (call : Call) (d e : Denial) → IsDeniedCall m call d → IsDeniedCall m call e → d ≡ e
one_denied m call (denial.File cause) e h k = absurd h
one_denied m call denial.Start e h k = absurd h
one_denied m call (denial.Segment number) e h k = absurd h
one_denied m call (denial.BadReply line) e h k = absurd h
one_denied m call denial.InputTooLong e h k = absurd h
one_denied m call (denial.NoExport name) (denial.File cause) h k = absurd k
one_denied m call (denial.NoExport name) denial.Start h k = absurd k
one_denied m call (denial.NoExport name) (denial.Segment number) h k = absurd k
one_denied m call (denial.NoExport name) (denial.NoExport other) h k = ap (λ (n : List ℕ). denial.NoExport n) (h.1 ∙ sym k.1)
one_denied m call (denial.NoExport name) (denial.BadArguments other) h k = absurd (unfound (Found m call) k.0.func k.0.exported h.0)
one_denied m call (denial.NoExport name) (denial.BadReply line) h k = absurd k
one_denied m call (denial.NoExport name) denial.InputTooLong h k = absurd k
one_denied m call (denial.BadArguments name) (denial.File cause) h k = absurd k
one_denied m call (denial.BadArguments name) denial.Start h k = absurd k
one_denied m call (denial.BadArguments name) (denial.Segment number) h k = absurd k
one_denied m call (denial.BadArguments name) (denial.NoExport other) h k = absurd (unfound (Found m call) h.0.func h.0.exported k.0)
one_denied m call (denial.BadArguments name) (denial.BadArguments other) h k = ap (λ (n : List ℕ). denial.BadArguments n) (h.1 ∙ sym k.1)
one_denied m call (denial.BadArguments name) (denial.BadReply line) h k = absurd k
one_denied m call (denial.BadArguments name) denial.InputTooLong h k = absurd k

calls_or_denied : (m : Module) (calls : List Call) (cs : List SessionCall) (d : Denial) → AreCalls m calls (Ok cs) → AreCalls m calls (Err d) → ⊥
calls_or_denied m [] cs d h k = k
calls_or_denied m (call ∷ calls) [] d h k = h
calls_or_denied m (call ∷ calls) (c ∷ cs) d h (inl k) = call_or_denied m call c d h.0 k
calls_or_denied m (call ∷ calls) (c ∷ cs) d h (inr k) = calls_or_denied m calls cs d h.1 k.2

one_list : (m : Module) (calls : List Call) (cs ds : List SessionCall) → AreCalls m calls (Ok cs) → AreCalls m calls (Ok ds) → cs ≡ ds
one_list m [] [] [] h k = refl
one_list m [] [] (d ∷ ds) h k = absurd k
one_list m [] (c ∷ cs) ds h k = absurd h
one_list m (call ∷ calls) [] ds h k = absurd h
one_list m (call ∷ calls) (c ∷ cs) [] h k = absurd k
one_list m (call ∷ calls) (c ∷ cs) (d ∷ ds) h k =
    ap (λ (x : SessionCall). x ∷ cs) (one_call m call c d h.0 k.0) ∙ ap (λ (xs : List SessionCall). d ∷ xs) (one_list m calls cs ds h.1 k.1)

one_denial : (m : Module) (calls : List Call) (d e : Denial) → AreCalls m calls (Err d) → AreCalls m calls (Err e) → d ≡ e
one_denial m [] d e h k = absurd h
one_denial m (call ∷ calls) d e (inl h) (inl k) = one_denied m call d e h k
one_denial m (call ∷ calls) d e (inl h) (inr k) = absurd (call_or_denied m call k.0 d k.1 h)
one_denial m (call ∷ calls) d e (inr h) (inl k) = absurd (call_or_denied m call h.0 e h.1 k)
one_denial m (call ∷ calls) d e (inr h) (inr k) = one_denial m calls d e h.2 k.2

one_calls : (m : Module) (calls : List Call) (r q : Result (List SessionCall) Denial) → AreCalls m calls r → AreCalls m calls q → r ≡ q
one_calls m calls (Ok cs) (Ok ds) h k = ap (λ (xs : List SessionCall). Ok xs) (one_list m calls cs ds h k)
one_calls m calls (Ok cs) (Err d) h k = absurd (calls_or_denied m calls cs d h k)
one_calls m calls (Err d) (Ok cs) h k = absurd (calls_or_denied m calls cs d k h)
one_calls m calls (Err d) (Err e) h k = ap (λ (x : Denial). Err x) (one_denial m calls d e h k)

one_preparation : (start outside : Option ℕ) (m : Module) (calls : List Call) (r q : Result (List SessionCall) Denial) → ArePrepared start outside m calls r → ArePrepared start outside m calls q → r ≡ q
one_preparation (Some func) outside m calls r q h k = h ∙ sym k
one_preparation None (Some number) m calls r q h k = h ∙ sym k
one_preparation None None m calls r q h k = one_calls m calls r q h k

-- ---- the input

same_line : (a b : ℕ) (o : Option ℕ) → o ≡ Some a → o ≡ Some b → a ≡ b
same_line a b o e f = cc

too_long : {A : Type 0} (n : ℕ) → n ≤ 16777216 → 16777216 < n → A
too_long n h k = absurd (omega arith)

module _ (m : Module) (request : Request) (calls : List SessionCall) (reading : Reading) (s t : ℕ) (out out' line line' : List ℕ) where
  abbrev Same : Type 0
  Same = IsSame s t out out' line line'

  one_replies : (a b : Result (List ℕ) ReplyErr) → AreReplies reading.bytes a → AreReplies reading.bytes b → AreRepliesDue m request calls a reading s out line → AreRepliesDue m request calls b reading t out' line' → Same
  one_replies (Ok a) (Ok b) g f h k =
      let same : a ≡ b = g.2 ∙ sym f.2 in
      let moved : AreRepliesDue m request calls (Ok a) reading t out' line' = subst (λ (x : List ℕ). AreRepliesDue m request calls (Ok x) reading t out' line') (sym same) k in
      (h.status_is ∙ sym moved.status_is, h.out_is ∙ sym moved.out_is, h.line_is ∙ sym moved.line_is)
  one_replies (Ok a) (Err (reply.BadLine n)) g f h k = absurd (unfound (first_bad (lines reading.bytes)) n f.1 g.1)
  one_replies (Ok a) (Err reply.TooLong) g f h k = too_long (length reading.bytes) g.0 f
  one_replies (Ok a) (Err reply.Oom) g f h k = absurd k
  one_replies (Err (reply.BadLine n)) (Ok b) g f h k = absurd (unfound (first_bad (lines reading.bytes)) n g.1 f.1)
  one_replies (Err (reply.BadLine n)) (Err (reply.BadLine l)) g f h k =
      let same : n ≡ l = same_line n l (first_bad (lines reading.bytes)) g.1 f.1 in
      (h.denied.status_is ∙ sym k.denied.status_is, h.denied.out_is ∙ sym k.denied.out_is, h.denied.line_is ∙ ap (λ (x : ℕ). denial_line request.path (denial.BadReply x)) same ∙ sym k.denied.line_is)
  one_replies (Err (reply.BadLine n)) (Err reply.TooLong) g f h k = too_long (length reading.bytes) g.0 f
  one_replies (Err (reply.BadLine n)) (Err reply.Oom) g f h k = absurd k
  one_replies (Err reply.TooLong) (Ok b) g f h k = too_long (length reading.bytes) f.0 g
  one_replies (Err reply.TooLong) (Err (reply.BadLine l)) g f h k = too_long (length reading.bytes) f.0 g
  one_replies (Err reply.TooLong) (Err reply.TooLong) g f h k = (h.status_is ∙ sym k.status_is, h.out_is ∙ sym k.out_is, h.line_is ∙ sym k.line_is)
  one_replies (Err reply.TooLong) (Err reply.Oom) g f h k = absurd k
  one_replies (Err reply.Oom) b g f h k = absurd h

  one_input : IsInputDue m request calls reading s out line → IsInputDue m request calls reading t out' line' → Same
  one_input h k = one_replies h.replies k.replies h.gives k.gives h.due k.due

one_at_once : (file : List ℕ) (d : Denial) (reading : Reading) (s t : ℕ) (out out' line line' : List ℕ) → IsDeniedAtOnce file d reading s out line → IsDeniedAtOnce file d reading t out' line' → IsSame s t out out' line line'
one_at_once file d reading s t out out' line line' h k = (h.denied.status_is ∙ sym k.denied.status_is, h.denied.out_is ∙ sym k.denied.out_is, h.denied.line_is ∙ sym k.denied.line_is)

module _ (request : Request) (reading : Reading) (s t : ℕ) (out out' line line' : List ℕ) where
  one_calls_due : (m : Module) (r : Result (List SessionCall) Denial) → AreCallsDue m request r reading s out line → AreCallsDue m request r reading t out' line' → IsSame s t out out' line line'
  one_calls_due m (Ok calls) h k = one_input m request calls reading s t out out' line line' h k
  one_calls_due m (Err d) h k = one_at_once request.path d reading s t out out' line line' h k

  one_module_due : (m : Module) → IsModuleDue m request reading s out line → IsModuleDue m request reading t out' line' → IsSame s t out out' line line'
  one_module_due m h k =
      one_calls_due m h.calls h.due
      (subst (λ (r : Result (List SessionCall) Denial). AreCallsDue m request r reading t out' line') (one_preparation m.start (first_outside m) m request.calls k.calls h.calls k.prepares h.prepares) k.due)

  one_bytes_due : (bytes : List ℕ) → AreExecBytesDue request bytes reading s out line → AreExecBytesDue request bytes reading t out' line' → IsSame s t out out' line line'
  one_bytes_due bytes h k = chosen h.due k.due
    where
      chosen : IsRunDue request bytes reading s out line ⊎ IsRefusedDue request bytes reading s out line → IsRunDue request bytes reading t out' line' ⊎ IsRefusedDue request bytes reading t out' line' → IsSame s t out out' line line'
      chosen (inl a) (inl b) = one_module_due a.m a.due (subst (λ (m : Module). IsModuleDue m request reading t out' line') (one_module b.m a.m bytes b.spelled a.spelled) b.due)
      chosen (inl a) (inr b) = absurd (valid_or_refused bytes b.cause (a.m, a.spelled, a.valid) b.refuses)
      chosen (inr a) (inl b) = absurd (valid_or_refused bytes a.cause (b.m, b.spelled, b.valid) a.refuses)
      chosen (inr a) (inr b) =
          one_at_once request.path (denial.File a.cause) reading s t out out' line line' a.denied
          (subst (λ (r : Refusal). IsDeniedAtOnce request.path (denial.File r) reading t out' line') (one_refusal bytes b.cause a.cause b.refuses a.refuses) b.denied)

  one_file_due : (answer : Answer) → IsExecFileDue request answer reading s out line → IsExecFileDue request answer reading t out' line' → IsSame s t out out' line line'
  one_file_due answers.Absent h k = one_at_once request.path _ reading s t out out' line line' h k
  one_file_due (answers.TooLong limit) h k = one_at_once request.path _ reading s t out out' line line' h.1 k.1
  one_file_due (answers.Bytes bytes) h k = one_bytes_due bytes h k

pub one_exec : (request : Request) (files : List Handed) (reading : Reading) (s t : ℕ) (out out' line line' : List ℕ) → IsExecDue request files reading s out line → IsExecDue request files reading t out' line' → IsSame s t out out' line line'
one_exec request files reading s t out out' line line' h k =
    let same : k.answer ≡ h.answer = ap (λ (pairs : List Handed). first_of pairs h.answer) (sym k.files_are ∙ h.files_are) in
    one_file_due request reading s t out out' line line' h.answer h.due
    (subst (λ (a : Answer). IsExecFileDue request a reading t out' line') same k.due)
