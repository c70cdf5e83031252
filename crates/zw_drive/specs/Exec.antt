-- Running calls of a module's file: what is due for `exec FILE CALL.. [--steps N]`. This project's own.
use Rattle.std.specs.Prelude.{◌≡◌, ◌⊎◌, ℕ, ◌≤◌, List, [], ◌∷◌, length, map, Option, Some, None, Result, Ok, Err}
use Rattle.std.specs.Io.KnownBytes.{IsAtEnd}
use Rattle.zw_base.specs.declared.files.Answer.{Answer}
use Rattle.zw_base.specs.declared.files.Answer.TheVariants as answers
use Rattle.zw_base.specs.declared.files.Handed.{Handed}
use Rattle.zw_calls.specs.Arguments.{Fit, argument_of, typed_all}
use Rattle.zw_calls.specs.Replies.{AreReplies}
use Rattle.zw_calls.specs.Requests.{Call, Request}
use Rattle.zw_calls.specs.declared.replies.ReplyErr.{ReplyErr}
use Rattle.zw_calls.specs.declared.replies.ReplyErr.TheVariants as reply
use Rattle.zw_drive.specs.Denials.{denial_line, denial_status}
use Rattle.zw_drive.specs.Inputs.{IsUnread, Reading}
use Rattle.zw_drive.specs.Statuses.{code_of}
use Rattle.zw_drive.specs.Validate.{Refuses}
use Rattle.zw_drive.specs.declared.denial.Denial.{Denial}
use Rattle.zw_drive.specs.declared.denial.Denial.TheVariants as denial
use Rattle.zw_drive.specs.declared.refusal.Refusal.{Refusal}
use Rattle.zw_drive.specs.declared.refusal.Refusal.TheVariants as refusal
use Rattle.zw_drive.specs.declared.validate.TheConstants.{MODULE_LIMIT}
use Rattle.zw_exec.specs.Ends.{status_of}
use Rattle.zw_exec.specs.Sessions.{Told, session}
use Rattle.zw_exec.specs.declared.call.SessionCall.{SessionCall}
use Rattle.zw_wasm.specs.Functions.{func_type}
use Rattle.zw_wasm.specs.ModuleBytes.{ModuleBytes}
use Rattle.zw_wasm.specs.ModuleMachine.{export_in, first_store, param_types}
use Rattle.zw_wasm.specs.Validity.{IsValid}
use Rattle.zw_wasm.specs.declared.module.Module.{Module}
use Rattle.zw_wasm.specs.declared.module.TheConstants.ExportDef.{FUNC}
use Rattle.zw_wasm_words.specs.Segments.{first_outside}

-- a call of the function of this number, which the module exports under its name, with its arguments by the types of the parameters
abbrev pub session_call : Module → Call → ℕ → SessionCall
session_call m call func =
    record {
      name = call.name;
      func = func;
      args = map argument_of call.arguments;
      nums = typed_all (param_types (func_type m func)) call.arguments;
    }

-- the arguments of a call fit the parameters of the function that the module exports under its name
pub record IsCall (m : Module) (call : Call) (c : SessionCall) : Type 0 where
  pub func : ℕ
  pub exported : export_in FUNC call.name m.exports ≡ Some func
  pub fit : Fit (param_types (func_type m func)) call.arguments
  pub same : c ≡ session_call m call func

-- they don't fit
pub record IsUnfit (m : Module) (call : Call) : Type 0 where
  pub func : ℕ
  pub exported : export_in FUNC call.name m.exports ≡ Some func
  pub unfit : Fit (param_types (func_type m func)) call.arguments → ⊥

-- what is wrong with a call
abbrev pub IsDeniedCall : Module → Call → Denial → Type 0
IsDeniedCall m call (denial.File cause) = ⊥
IsDeniedCall m call denial.Start = ⊥
IsDeniedCall m call (denial.Segment number) = ⊥
IsDeniedCall m call (denial.NoExport name) = (export_in FUNC call.name m.exports ≡ None) × (name ≡ call.name)
IsDeniedCall m call (denial.BadArguments name) = IsUnfit m call × (name ≡ call.name)
IsDeniedCall m call (denial.BadReply line) = ⊥
IsDeniedCall m call denial.InputTooLong = ⊥

-- the calls of a session, or what is wrong with the first that isn't one
abbrev pub AreCalls : Module → List Call → Result (List SessionCall) Denial → Type 0
AreCalls m [] (Ok []) = Unit {0}
AreCalls m [] (Ok (c ∷ cs)) = ⊥
AreCalls m [] (Err d) = ⊥
AreCalls m (call ∷ calls) (Ok []) = ⊥
AreCalls m (call ∷ calls) (Ok (c ∷ cs)) = IsCall m call c × AreCalls m calls (Ok cs)
AreCalls m (call ∷ calls) (Err d) = IsDeniedCall m call d ⊎ ((c : SessionCall) × IsCall m call c × AreCalls m calls (Err d))

-- the same behind a start function and a first segment outside, where there is one
abbrev pub ArePrepared : Option ℕ → Option ℕ → Module → List Call → Result (List SessionCall) Denial → Type 0
ArePrepared (Some func) outside m calls r = r ≡ Err denial.Start
ArePrepared None (Some number) m calls r = r ≡ Err (denial.Segment number)
ArePrepared None None m calls r = AreCalls m calls r

-- The calls of a session of the module, or why there is none: first its start function, then its segments, then the calls in order.
abbrev pub Prepares : Module → List Call → Result (List SessionCall) Denial → Type 0
Prepares m calls r = ArePrepared m.start (first_outside m) m calls r

-- the calls are denied: the denial's status and line, and nothing to the output
pub record IsDenied (file : List ℕ) (d : Denial) (status : ℕ) (out line : List ℕ) : Type 0 where
  pub status_is : status ≡ code_of (denial_status d)
  pub out_is : out ≡ []
  pub line_is : line ≡ denial_line file d

-- they are denied before the input is read
pub record IsDeniedAtOnce (file : List ℕ) (d : Denial) (reading : Reading) (status : ℕ) (out line : List ℕ) : Type 0 where
  pub unread : IsUnread reading
  pub denied : IsDenied file d status out line

-- they are denied by the whole input
pub record IsDeniedByInput (file : List ℕ) (d : Denial) (reading : Reading) (status : ℕ) (out line : List ℕ) : Type 0 where
  pub read : IsAtEnd reading.left
  pub denied : IsDenied file d status out line

-- the session is run, with the whole input read: the status of its end, its text to the output, and no line
pub record IsTold (told : Told) (reading : Reading) (status : ℕ) (out line : List ℕ) : Type 0 where
  pub read : IsAtEnd reading.left
  pub status_is : status ≡ status_of told.end
  pub out_is : out ≡ told.text
  pub line_is : line ≡ []

-- the session of the module's calls from its first store on, with these replies
abbrev pub told_of : Module → Request → List SessionCall → List ℕ → Told
told_of m request calls replies = session m calls (record { store = first_store m; replies = replies; steps = request.steps })

-- what is due for calls, with what the input gives
abbrev pub AreRepliesDue : Module → Request → List SessionCall → Result (List ℕ) ReplyErr → Reading → ℕ → List ℕ → List ℕ → Type 0
AreRepliesDue m request calls (Ok replies) reading status out line = IsTold (told_of m request calls replies) reading status out line
AreRepliesDue m request calls (Err (reply.BadLine number)) reading status out line = IsDeniedByInput request.path (denial.BadReply number) reading status out line
AreRepliesDue m request calls (Err reply.TooLong) reading status out line = IsDenied request.path denial.InputTooLong status out line
AreRepliesDue m request calls (Err reply.Oom) reading status out line = ⊥

pub record IsInputDue (m : Module) (request : Request) (calls : List SessionCall) (reading : Reading) (status : ℕ) (out line : List ℕ) : Type 0 where
  pub replies : Result (List ℕ) ReplyErr
  pub gives : AreReplies reading.bytes replies
  pub due : AreRepliesDue m request calls replies reading status out line

-- what is due for the calls of a module, or a denial
abbrev pub AreCallsDue : Module → Request → Result (List SessionCall) Denial → Reading → ℕ → List ℕ → List ℕ → Type 0
AreCallsDue m request (Ok calls) reading status out line = IsInputDue m request calls reading status out line
AreCallsDue m request (Err d) reading status out line = IsDeniedAtOnce request.path d reading status out line

pub record IsModuleDue (m : Module) (request : Request) (reading : Reading) (status : ℕ) (out line : List ℕ) : Type 0 where
  pub calls : Result (List SessionCall) Denial
  pub prepares : Prepares m request.calls calls
  pub due : AreCallsDue m request calls reading status out line

-- the bytes spell a valid module, of which this is due
pub record IsRunDue (request : Request) (bytes : List ℕ) (reading : Reading) (status : ℕ) (out line : List ℕ) : Type 0 where
  pub m : Module
  pub spelled : ModuleBytes m bytes
  pub valid : IsValid m
  pub due : IsModuleDue m request reading status out line

-- the bytes spell no valid module
pub record IsRefusedDue (request : Request) (bytes : List ℕ) (reading : Reading) (status : ℕ) (out line : List ℕ) : Type 0 where
  pub cause : Refusal
  pub refuses : Refuses bytes cause
  pub denied : IsDeniedAtOnce request.path (denial.File cause) reading status out line

-- what is due for bytes, which are no more than a module's file may have
pub record AreExecBytesDue (request : Request) (bytes : List ℕ) (reading : Reading) (status : ℕ) (out line : List ℕ) : Type 0 where
  pub fits : length bytes ≤ MODULE_LIMIT
  pub due : IsRunDue request bytes reading status out line ⊎ IsRefusedDue request bytes reading status out line

-- what is due for an answer to the load of the file, of which no more bytes were asked for than a module's file may have
abbrev pub IsExecFileDue : Request → Answer → Reading → ℕ → List ℕ → List ℕ → Type 0
IsExecFileDue request answers.Absent reading status out line = IsDeniedAtOnce request.path (denial.File refusal.Absent) reading status out line
IsExecFileDue request (answers.TooLong limit) reading status out line =
    (limit ≡ MODULE_LIMIT) × IsDeniedAtOnce request.path (denial.File refusal.TooLong) reading status out line
IsExecFileDue request (answers.Bytes bytes) reading status out line = AreExecBytesDue request bytes reading status out line

-- what is due for `exec`: the tree hands over the file and nothing else
pub record IsExecDue (request : Request) (files : List Handed) (reading : Reading) (status : ℕ) (out line : List ℕ) : Type 0 where
  pub answer : Answer
  pub files_are : files ≡ record { path = request.path; answer = answer } ∷ []
  pub due : IsExecFileDue request answer reading status out line

-- the file's bytes, no more than a module's file may have, spell a valid module, and its calls aren't denied: the input is read next
pub record AreReady (request : Request) (bytes : List ℕ) : Type 0 where
  pub fits : length bytes ≤ MODULE_LIMIT
  pub m : Module
  pub spelled : ModuleBytes m bytes
  pub valid : IsValid m
  pub calls : List SessionCall
  pub prepares : Prepares m request.calls (Ok calls)

pub record IsReady (request : Request) (files : List Handed) : Type 0 where
  pub bytes : List ℕ
  pub files_are : files ≡ record { path = request.path; answer = answers.Bytes bytes } ∷ []
  pub ready : AreReady request bytes
