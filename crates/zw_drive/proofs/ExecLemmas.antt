-- Running calls of a module's file ends as its parts end.
use Rattle.std.proofs.Common.{◌≡◌, ℕ, ◌≤◌, List, [], ◌∷◌, ◌++◌, take, length, Option, Result, Ok, Err, refl, sym, ◌∙◌, subst, inl, inr, lit≤}
use Rattle.std.proofs.lemmas.List.{append-nil}
use Rattle.std.specs.Io.KnownBytes.{IsAtEnd}
use Rattle.zw_base.specs.declared.files.Answer.{Answer}
use Rattle.zw_base.specs.declared.files.Answer.TheVariants as answers
use Rattle.zw_base.specs.declared.files.Handed.{Handed}
use Rattle.zw_calls.specs.Input.{IsFront, IsInput}
use Rattle.zw_calls.specs.Replies.{AreReplies}
use Rattle.zw_calls.specs.Requests.{Call, Request}
use Rattle.zw_calls.specs.declared.replies.ReplyErr.TheVariants as reply
use Rattle.zw_drive.specs.Exec.{AreExecBytesDue, AreReady, IsExecDue, IsInputDue, IsModuleDue, IsReady, told_of}
use Rattle.zw_drive.specs.ExecEnds.{BytesEnd, CallsEnd, CanBeCalled, Due, EndsWith, FileEnds, InputEnds, IsCutOut, IsPrepared, ModuleEnds, PreparationEnds, Runs, RunsFile, WritesSession, judged_end}
use Rattle.zw_drive.specs.Inputs.{IsUnread, Reading}
use Rattle.zw_drive.specs.Validate.{FileLoads, IsFileAtMost, IsNoFile, Judges}
use Rattle.zw_drive.specs.declared.denial.Denial.TheVariants as denial
use Rattle.zw_drive.specs.declared.exec.ExecErr.{ExecErr}
use Rattle.zw_drive.specs.declared.exec.ExecErr.TheVariants as exec
use Rattle.zw_drive.specs.declared.prepare.Prepared.{Prepared}
use Rattle.zw_drive.specs.declared.refusal.Refusal.{Refusal}
use Rattle.zw_drive.specs.declared.validate.TheConstants.{MODULE_LIMIT}
use Rattle.zw_drive.specs.declared.validate.ValidateErr.{ValidateErr}
use Rattle.zw_drive.specs.declared.validate.ValidateErr.TheVariants as validate
use Rattle.zw_exec.specs.Ends.{status_of}
use Rattle.zw_exec.specs.Runs.{IsIdle}
use Rattle.zw_exec.specs.declared.call.SessionCall.{SessionCall}
use Rattle.zw_exec.specs.declared.end.SessionEnd.{SessionEnd}
use Rattle.zw_wasm.specs.ModuleBytes.{ModuleBytes}
use Rattle.zw_wasm.specs.Validity.{IsValid}
use Rattle.zw_wasm.specs.declared.module.Module.{Module}
use Rattle.zw_drive.proofs.BuildLemmas.{Appends-none, Consumes-none}

-- what is due for a part is due for the whole
module _ (part whole : Due) (file : List ℕ) (load load' read read' early early' : Type 0)
    (is_due : (status : ℕ) (out line : List ℕ) → part status out line → whole status out line)
    (at_load : load → load') (at_read : read → read') (at_first : early → early') (out : List ℕ) where
  cut_whole : IsCutOut part out → IsCutOut whole out
  cut_whole h = record { status = h.status; text = h.text; is_due = is_due h.status h.text [] h.is_due; front = h.front }

  pub ends_whole : (r : Result SessionEnd ExecErr) → EndsWith part file load read early out r → EndsWith whole file load' read' early' out r
  ends_whole (Ok end) h = is_due _ _ _ h
  ends_whole (Err (exec.Denied d)) h = (h.0, is_due _ _ _ h.1)
  ends_whole (Err exec.TreeFault) h = (h.0, at_load h.1)
  ends_whole (Err exec.InputFault) h = (h.0, at_read h.1)
  ends_whole (Err exec.OutFault) h = cut_whole h
  ends_whole (Err exec.Oom) (inl h) = inl (h.0, at_first h.1)
  ends_whole (Err exec.Oom) (inr h) = inr (cut_whole h)

runs_whole : (part whole : Reading → List ℕ → Type 0) (left_before left_after before after : Option (List ℕ)) → ((reading : Reading) (out : List ℕ) → part reading out → whole reading out) → Runs part left_before left_after before after → Runs whole left_before left_after before after
runs_whole part whole left_before left_after before after ends w =
    record { input = w.input; out = w.out; reads = w.reads; within = w.within; writes = w.writes; ends = ends _ _ w.ends }

-- nothing was read or written
runs_none : (ends : Reading → List ℕ → Type 0) (left taken : Option (List ℕ)) → ends (record { bytes = []; left = left }) [] → Runs ends left left taken taken
runs_none ends left taken h =
    record { input = []; out = []; reads = Consumes-none left; within = lit≤ tt; writes = Appends-none taken; ends = h }

-- ---- a session with these replies

module _ (m : Module) (request : Request) (calls : List SessionCall) (bytes : List ℕ) (before after : Option (List ℕ)) where
  told_due : (replies : List ℕ) → AreReplies bytes (Ok replies) → (left : Option (List ℕ)) → (length bytes ≤ 16777216 → IsAtEnd left) → IsInputDue m request calls (record { bytes = bytes; left = left }) (status_of (told_of m request calls replies).end) (told_of m request calls replies).text []
  told_due replies gives left whole =
      record { replies = Ok replies; gives = gives; due = record { read = whole gives.0; status_is = refl; out_is = refl; line_is = refl } }

  told_front : (replies : List ℕ) (n : ℕ) → AreReplies bytes (Ok replies) → (left : Option (List ℕ)) → (length bytes ≤ 16777216 → IsAtEnd left) → IsCutOut (IsInputDue m request calls (record { bytes = bytes; left = left })) (take n (told_of m request calls replies).text)
  told_front replies n gives left whole =
      record {
        status = status_of (told_of m request calls replies).end;
        text = (told_of m request calls replies).text;
        is_due = told_due replies gives left whole;
        front = (n, refl);
      }

  pub ran : (replies : List ℕ) (r : Result SessionEnd ExecErr) → AreReplies bytes (Ok replies) → WritesSession (told_of m request calls replies) before after r → InputEnds m request calls bytes before after r
  ran replies (Ok end) gives w =
      record {
        out = (told_of m request calls replies).text;
        writes = w.0;
        ends = λ left whole. subst (λ (e : SessionEnd). IsInputDue m request calls (record { bytes = bytes; left = left }) (status_of e) (told_of m request calls replies).text []) (sym w.1) (told_due replies gives left whole);
      }
  ran replies (Err (exec.Denied d)) gives w = absurd w
  ran replies (Err exec.TreeFault) gives w = absurd w
  ran replies (Err exec.InputFault) gives w = absurd w
  ran replies (Err exec.OutFault) gives w = record { out = take w.0 (told_of m request calls replies).text; writes = w.1; ends = λ left whole. told_front replies w.0 gives left whole }
  ran replies (Err exec.Oom) gives w = record { out = take w.0 (told_of m request calls replies).text; writes = w.1; ends = λ left whole. inr (told_front replies w.0 gives left whole) }

module _ (m : Module) (request : Request) (calls : List SessionCall) (bytes : List ℕ) (taken : Option (List ℕ)) where
  pub bad_line : (line : ℕ) → AreReplies bytes (Err (reply.BadLine line)) → InputEnds m request calls bytes taken taken (Err (exec.Denied (denial.BadReply line)))
  bad_line line h =
      record {
        out = [];
        writes = Appends-none taken;
        ends = λ left whole. (refl, record { replies = Err (reply.BadLine line); gives = h; due = record { read = whole h.0; denied = record { status_is = refl; out_is = refl; line_is = refl } } });
      }

  pub too_long : AreReplies bytes (Err reply.TooLong) → InputEnds m request calls bytes taken taken (Err (exec.Denied denial.InputTooLong))
  too_long h =
      record {
        out = [];
        writes = Appends-none taken;
        ends = λ left whole. (refl, record { replies = Err reply.TooLong; gives = h; due = record { status_is = refl; out_is = refl; line_is = refl } });
      }

  pub unread_replies : InputEnds m request calls bytes taken taken (Err exec.Oom)
  unread_replies = record { out = []; writes = Appends-none taken; ends = λ left whole. inl (refl, tt) }

-- ---- prepared calls

module _ (m : Module) (request : Request) (calls : List SessionCall) (old new before after : Option (List ℕ)) where
  pub input_read : (bytes : List ℕ) (r : Result SessionEnd ExecErr) → IsInput old new bytes → InputEnds m request calls bytes before after r → Runs (CallsEnd m request calls r) old new before after
  input_read bytes r i e = record { input = bytes; out = e.out; reads = i.read; within = i.most; writes = e.writes; ends = e.ends new i.whole }

module _ (m : Module) (request : Request) (calls : List SessionCall) (old new taken : Option (List ℕ)) where
  pub input_failed_at : IsFront old new 16777217 → Runs (CallsEnd m request calls (Err exec.InputFault)) old new taken taken
  input_failed_at f = record { input = f.bytes; out = []; reads = f.read; within = f.within; writes = Appends-none taken; ends = (refl, tt) }

  pub input_short : IsFront old new 16777217 → Runs (CallsEnd m request calls (Err exec.Oom)) old new taken taken
  input_short f = record { input = f.bytes; out = []; reads = f.read; within = f.within; writes = Appends-none taken; ends = inl (refl, tt) }

-- ---- the run

pub own_code : (m : Module) (calls : List Call) (p : Prepared) → IsPrepared m calls p → IsPrepared p.machine.code calls p
own_code m calls p h = subst (λ (code : Module). IsPrepared code calls p) (sym h.begins.same) h

pub idle : (calls : List Call) (p : Prepared) → IsPrepared p.machine.code calls p → IsIdle p.machine
idle calls p h = record { goes_on = h.begins.runs; shows_none = h.begins.shown }

-- ---- a module

pub module_called : (m : Module) (request : Request) (p : Prepared) (old new before after : Option (List ℕ)) (r : Result SessionEnd ExecErr) → IsPrepared m request.calls p → Runs (CallsEnd p.machine.code request p.calls.items r) old new before after → Runs (ModuleEnds m request r) old new before after
module_called m request p old new before after r is w =
    runs_whole (CallsEnd m request p.calls.items r) (ModuleEnds m request r) old new before after
    (λ reading out h. ends_whole (IsInputDue m request p.calls.items reading) (IsModuleDue m request reading) request.path ⊥ ⊥ (Unit {0}) (CanBeCalled m request) (Unit {0}) (Unit {0})
    (λ status text line due. record { calls = Ok p.calls.items; prepares = is.prepares; due = due })
    (λ x. x) (λ x. (p.calls.items, is.prepares)) (λ x. x) out r h)
    (subst (λ (code : Module). Runs (CallsEnd code request p.calls.items r) old new before after) is.begins.same w)

module_denied : (m : Module) (request : Request) (left taken : Option (List ℕ)) (e : ExecErr) → PreparationEnds m request.calls (Err e) → Runs (ModuleEnds m request (Err e)) left left taken taken
module_denied m request left taken (exec.Denied d) h =
    runs_none (ModuleEnds m request (Err (exec.Denied d))) left taken
    (refl, record { calls = Err d; prepares = h; due = record { unread = refl; denied = record { status_is = refl; out_is = refl; line_is = refl } } })
module_denied m request left taken exec.TreeFault h = absurd h
module_denied m request left taken exec.InputFault h = absurd h
module_denied m request left taken exec.OutFault h = absurd h
module_denied m request left taken exec.Oom h = runs_none (ModuleEnds m request (Err exec.Oom)) left taken (inl (refl, tt))

pub module_denied_by : (m : Module) (request : Request) (calls : List Call) (left taken : Option (List ℕ)) (e : ExecErr) → calls ≡ request.calls → PreparationEnds m calls (Err e) → Runs (ModuleEnds m request (Err e)) left left taken taken
module_denied_by m request calls left taken e same h = module_denied m request left taken e (subst (λ (cs : List Call). PreparationEnds m cs (Err e)) same h)

-- ---- bytes

pub bytes_called : (m : Module) (request : Request) (bytes : List ℕ) (old new before after : Option (List ℕ)) (r : Result SessionEnd ExecErr) → length bytes ≤ MODULE_LIMIT → ModuleBytes m bytes × IsValid m → Runs (ModuleEnds m request r) old new before after → Runs (BytesEnd request bytes r) old new before after
bytes_called m request bytes old new before after r fits is w =
    runs_whole (ModuleEnds m request r) (BytesEnd request bytes r) old new before after
    (λ reading out h. ends_whole (IsModuleDue m request reading) (AreExecBytesDue request bytes reading) request.path ⊥ ⊥ (CanBeCalled m request) (AreReady request bytes) (Unit {0}) (Unit {0})
    (λ status text line due. record { fits = fits; due = inl (record { m = m; spelled = is.0; valid = is.1; due = due }) })
    (λ x. x) (λ x. record { fits = fits; m = m; spelled = is.0; valid = is.1; calls = x.0; prepares = x.1 }) (λ x. x) out r h)
    w

pub bytes_refused : (request : Request) (bytes : List ℕ) (left taken : Option (List ℕ)) (e : ValidateErr) → length bytes ≤ MODULE_LIMIT → Judges bytes (Err e) → Runs (BytesEnd request bytes (Err (judged_end e))) left left taken taken
bytes_refused request bytes left taken (validate.Refused r) fits h =
    runs_none (BytesEnd request bytes (Err (exec.Denied (denial.File r)))) left taken
    (refl, record { fits = fits; due = inr (record { cause = r; refuses = h; denied = record { unread = refl; denied = record { status_is = refl; out_is = refl; line_is = refl } } }) })
bytes_refused request bytes left taken validate.TreeFault fits h = absurd h
bytes_refused request bytes left taken validate.OutFault fits h = absurd h
bytes_refused request bytes left taken validate.Oom fits h = runs_none (BytesEnd request bytes (Err exec.Oom)) left taken (inl (refl, tt))

-- ---- a file

abbrev pair_of : List ℕ → Answer → List Handed
pair_of file answer = record { path = file; answer = answer } ∷ []

pub file_called : (request : Request) (loaded now : List Handed) (bytes : List ℕ) (old new before after : Option (List ℕ)) (r : Result SessionEnd ExecErr) → (now ≡ loaded ++ record { path = request.path; answer = answers.Bytes bytes } ∷ []) × (length bytes ≤ MODULE_LIMIT) → Runs (BytesEnd request bytes r) old new before after → RunsFile request loaded now old new before after r
file_called request loaded now bytes old new before after r adds w =
    let files : List Handed = pair_of request.path (answers.Bytes bytes) in
    record {
      files = pair_of request.path (answers.Bytes bytes);
      loads = adds.0;
      runs = runs_whole (BytesEnd request bytes r) (FileEnds request files r) old new before after
          (λ reading out h. ends_whole (AreExecBytesDue request bytes reading) (IsExecDue request files reading) request.path ⊥ (IsUnread reading × (files ≡ [])) (AreReady request bytes) (IsReady request files) (Unit {0}) (IsFileAtMost request.path files)
          (λ status text line due. record { answer = answers.Bytes bytes; files_are = refl; due = due })
          (λ x. absurd x) (λ x. record { bytes = bytes; files_are = refl; ready = x }) (λ x. inr (answers.Bytes bytes, refl, adds.1)) out r h)
          w;
    }

-- the file isn't there, or is too long
absent_due : (request : Request) (answer : Answer) (r : Refusal) (left : Option (List ℕ)) → IsNoFile answer r → FileEnds request (pair_of request.path answer) (Err (exec.Denied (denial.File r))) (record { bytes = []; left = left }) []
absent_due request answers.Absent r left h =
    subst (λ (q : Refusal). FileEnds request (pair_of request.path answers.Absent) (Err (exec.Denied (denial.File q))) (record { bytes = []; left = left }) []) (sym h)
    (refl, record { answer = answers.Absent; files_are = refl; due = record { unread = refl; denied = record { status_is = refl; out_is = refl; line_is = refl } } })
absent_due request (answers.TooLong limit) r left h =
    subst (λ (q : Refusal). FileEnds request (pair_of request.path (answers.TooLong limit)) (Err (exec.Denied (denial.File q))) (record { bytes = []; left = left }) []) (sym h.1)
    (refl, record { answer = answers.TooLong limit; files_are = refl; due = (h.0, record { unread = refl; denied = record { status_is = refl; out_is = refl; line_is = refl } }) })
absent_due request (answers.Bytes bytes) r left h = absurd h

pub file_unloaded : (request : Request) (loaded now : List Handed) (left taken : Option (List ℕ)) (e : ValidateErr) → FileLoads request.path loaded now (Err e) → RunsFile request loaded now left left taken taken (Err (judged_end e))
file_unloaded request loaded now left taken (validate.Refused r) h =
    record {
      files = pair_of request.path h.0;
      loads = h.1;
      runs = runs_none (FileEnds request (pair_of request.path h.0) (Err (exec.Denied (denial.File r)))) left taken (absent_due request h.0 r left h.2);
    }
file_unloaded request loaded now left taken validate.TreeFault h =
    record { files = []; loads = h ∙ sym (append-nil loaded); runs = runs_none (FileEnds request [] (Err exec.TreeFault)) left taken (refl, (refl, refl)) }
file_unloaded request loaded now left taken validate.OutFault h = absurd h
file_unloaded request loaded now left taken validate.Oom h =
    record { files = []; loads = h ∙ sym (append-nil loaded); runs = runs_none (FileEnds request [] (Err exec.Oom)) left taken (inl (refl, inl refl)) }
