-- How the parts of running calls of a module's file end.
use Rattle.std.specs.Prelude.{◌≡◌, ◌⊎◌, ℕ, ◌≤◌, Bool, true, false, List, [], ◌++◌, length, Option, Result, Ok, Err, Vec}
use Rattle.std.specs.Io.KnownBytes.{Appends, Consumes, IsAtEnd}
use Rattle.std.specs.List.{AllByRecursion}
use Rattle.std.specs.declared.alloc.Global.{Global}
use Rattle.zw_base.specs.Outside.{AppendsFront}
use Rattle.zw_base.specs.declared.files.Handed.{Handed}
use Rattle.zw_calls.specs.Requests.{Call, Request}
use Rattle.zw_drive.specs.Denials.{denial_line, denial_status}
use Rattle.zw_drive.specs.Exec.{AreCalls, AreExecBytesDue, AreReady, IsCall, IsDeniedCall, IsExecDue, IsInputDue, IsModuleDue, IsReady, Prepares}
use Rattle.zw_drive.specs.Fronts.{IsFront}
use Rattle.zw_drive.specs.Inputs.{Reading, IsUnread}
use Rattle.zw_drive.specs.Statuses.{code_of}
use Rattle.zw_drive.specs.Validate.{IsFileAtMost}
use Rattle.zw_drive.specs.declared.denial.Denial.{Denial}
use Rattle.zw_drive.specs.declared.denial.Denial.TheVariants as denial
use Rattle.zw_drive.specs.declared.exec.ExecErr.{ExecErr}
use Rattle.zw_drive.specs.declared.exec.ExecErr.TheVariants as exec
use Rattle.zw_drive.specs.declared.prepare.Prepared.{Prepared}
use Rattle.zw_drive.specs.declared.validate.ValidateErr.{ValidateErr}
use Rattle.zw_drive.specs.declared.validate.ValidateErr.TheVariants as validate
use Rattle.zw_exec.specs.Ends.{status_of}
use Rattle.zw_exec.specs.Sessions.{IsCallOf, Told}
use Rattle.zw_exec.specs.declared.call.SessionCall.{SessionCall}
use Rattle.zw_exec.specs.declared.end.SessionEnd.{SessionEnd}
use Rattle.zw_wasm.specs.declared.module.Module.{Module}
use Rattle.zw_wasm_run.specs.Machines.{IsNew}

-- what is due, by the status, the bytes to the output and the line
abbrev pub Due : Type 1
Due = ℕ → List ℕ → List ℕ → Type 0

-- some bytes without a line are due, of which these are a front
pub record IsCutOut (due : Due) (out : List ℕ) : Type 0 where
  pub status : ℕ
  pub text : List ℕ
  pub is_due : due status text []
  pub front : IsFront out text

-- How running calls of this file ends, with these bytes taken by the output: what holds where the tree failed, where the input did, and
-- where there was no memory before the output took anything.
abbrev pub EndsWith : Due → List ℕ → Type 0 → Type 0 → Type 0 → List ℕ → Result SessionEnd ExecErr → Type 0
EndsWith due file at_load at_read early out (Ok end) = due (status_of end) out []
EndsWith due file at_load at_read early out (Err (exec.Denied d)) = (out ≡ []) × due (code_of (denial_status d)) [] (denial_line file d)
EndsWith due file at_load at_read early out (Err exec.TreeFault) = (out ≡ []) × at_load
EndsWith due file at_load at_read early out (Err exec.InputFault) = (out ≡ []) × at_read
EndsWith due file at_load at_read early out (Err exec.OutFault) = IsCutOut due out
EndsWith due file at_load at_read early out (Err exec.Oom) = ((out ≡ []) × early) ⊎ IsCutOut due out

-- bytes of the input were read, and the output took bytes, with which it ended so
pub record Runs (part : Reading → List ℕ → Type 0) (left_before left_after taken_before taken_after : Option (List ℕ)) : Type 0 where
  pub input : List ℕ
  pub out : List ℕ
  pub reads : Consumes left_before left_after input
  pub within : length input ≤ 16777217
  pub writes : Appends taken_before taken_after out
  pub ends : part (record { bytes = input; left = left_after }) out

-- how running prepared calls ends
abbrev pub CallsEnd : Module → Request → List SessionCall → Result SessionEnd ExecErr → Reading → List ℕ → Type 0
CallsEnd m request calls r reading out = EndsWith (IsInputDue m request calls reading) request.path ⊥ (Unit {0}) (Unit {0}) out r

-- the output took a session's text, or a front of it
abbrev pub WritesSession : Told → Option (List ℕ) → Option (List ℕ) → Result SessionEnd ExecErr → Type 0
WritesSession told old new (Ok end) = Appends old new told.text × (end ≡ told.end)
WritesSession told old new (Err (exec.Denied d)) = ⊥
WritesSession told old new (Err exec.TreeFault) = ⊥
WritesSession told old new (Err exec.InputFault) = ⊥
WritesSession told old new (Err exec.OutFault) = AppendsFront old new told.text
WritesSession told old new (Err exec.Oom) = AppendsFront old new told.text

-- how running prepared calls ends with these bytes of the input, whatever is left of it
pub record InputEnds (m : Module) (request : Request) (calls : List SessionCall) (bytes : List ℕ) (taken_before taken_after : Option (List ℕ)) (result : Result SessionEnd ExecErr) : Type 0 where
  pub out : List ℕ
  pub writes : Appends taken_before taken_after out
  pub ends : (left : Option (List ℕ)) → (length bytes ≤ 16777216 → IsAtEnd left) → CallsEnd m request calls result (record { bytes = bytes; left = left }) out

-- how running calls of a module ends
abbrev pub CanBeCalled : Module → Request → Type 0
CanBeCalled m request = (calls : List SessionCall) × Prepares m request.calls (Ok calls)

abbrev pub ModuleEnds : Module → Request → Result SessionEnd ExecErr → Reading → List ℕ → Type 0
ModuleEnds m request r reading out = EndsWith (IsModuleDue m request reading) request.path ⊥ (CanBeCalled m request) (Unit {0}) out r

-- how running calls of a file's bytes ends
abbrev pub BytesEnd : Request → List ℕ → Result SessionEnd ExecErr → Reading → List ℕ → Type 0
BytesEnd request bytes r reading out = EndsWith (AreExecBytesDue request bytes reading) request.path ⊥ (AreReady request bytes) (Unit {0}) out r

-- how running calls of a file ends, with these files handed over
abbrev pub FileEnds : Request → List Handed → Result SessionEnd ExecErr → Reading → List ℕ → Type 0
FileEnds request files r reading out =
    EndsWith (IsExecDue request files reading) request.path (IsUnread reading × (files ≡ [])) (IsReady request files) (IsFileAtMost request.path files) out r

-- the tree handed over files, with which it ended so
pub record RunsFile (request : Request) (loaded_before loaded_after : List Handed) (left_before left_after taken_before taken_after : Option (List ℕ)) (result : Result SessionEnd ExecErr) : Type 0 where
  pub files : List Handed
  pub loads : loaded_after ≡ loaded_before ++ files
  pub runs : Runs (FileEnds request files result) left_before left_after taken_before taken_after

-- a machine as the module begins, with the calls of the session
pub record IsPrepared (m : Module) (calls : List Call) (p : Prepared) : Type 0 where
  pub prepares : Prepares m calls (Ok p.calls.items)
  pub begins : IsNew m [] p.machine
  pub are_calls : AllByRecursion (IsCallOf m) p.calls.items

-- how preparing calls of a module ends
abbrev pub PreparationEnds : Module → List Call → Result Prepared ExecErr → Type 0
PreparationEnds m calls (Ok p) = IsPrepared m calls p
PreparationEnds m calls (Err (exec.Denied d)) = Prepares m calls (Err d)
PreparationEnds m calls (Err exec.TreeFault) = ⊥
PreparationEnds m calls (Err exec.InputFault) = ⊥
PreparationEnds m calls (Err exec.OutFault) = ⊥
PreparationEnds m calls (Err exec.Oom) = Unit {0}

-- how finding the calls of a session ends, and how finding one does
abbrev pub CallsAreFound : Module → List Call → Result (Vec SessionCall Global) ExecErr → Type 0
CallsAreFound m calls (Ok found) = AreCalls m calls (Ok found.items)
CallsAreFound m calls (Err (exec.Denied d)) = AreCalls m calls (Err d)
CallsAreFound m calls (Err exec.TreeFault) = ⊥
CallsAreFound m calls (Err exec.InputFault) = ⊥
CallsAreFound m calls (Err exec.OutFault) = ⊥
CallsAreFound m calls (Err exec.Oom) = Unit {0}

abbrev pub CallEnds : Module → Call → Result SessionCall ExecErr → Type 0
CallEnds m call (Ok c) = IsCall m call c
CallEnds m call (Err (exec.Denied d)) = IsDeniedCall m call d
CallEnds m call (Err exec.TreeFault) = ⊥
CallEnds m call (Err exec.InputFault) = ⊥
CallEnds m call (Err exec.OutFault) = ⊥
CallEnds m call (Err exec.Oom) = Unit {0}

-- a denial with this name, or there was no memory for the name
abbrev pub IsNamedDenial : (List ℕ → Denial) → List ℕ → ExecErr → Type 0
IsNamedDenial denial_of name (exec.Denied d) = d ≡ denial_of name
IsNamedDenial denial_of name exec.TreeFault = ⊥
IsNamedDenial denial_of name exec.InputFault = ⊥
IsNamedDenial denial_of name exec.OutFault = ⊥
IsNamedDenial denial_of name exec.Oom = Unit {0}

-- how running calls ends where the file isn't there, or isn't valid
abbrev pub judged_end : ValidateErr → ExecErr
judged_end (validate.Refused r) = exec.Denied (denial.File r)
judged_end validate.TreeFault = exec.TreeFault
judged_end validate.OutFault = exec.OutFault
judged_end validate.Oom = exec.Oom

abbrev pub tree_fault : {T : Type 0} → Result T ExecErr → Bool
tree_fault (Ok x) = false
tree_fault (Err (exec.Denied d)) = false
tree_fault (Err exec.TreeFault) = true
tree_fault (Err exec.InputFault) = false
tree_fault (Err exec.OutFault) = false
tree_fault (Err exec.Oom) = false

abbrev pub input_fault : {T : Type 0} → Result T ExecErr → Bool
input_fault (Ok x) = false
input_fault (Err (exec.Denied d)) = false
input_fault (Err exec.TreeFault) = false
input_fault (Err exec.InputFault) = true
input_fault (Err exec.OutFault) = false
input_fault (Err exec.Oom) = false

abbrev pub out_fault : {T : Type 0} → Result T ExecErr → Bool
out_fault (Ok x) = false
out_fault (Err (exec.Denied d)) = false
out_fault (Err exec.TreeFault) = false
out_fault (Err exec.InputFault) = false
out_fault (Err exec.OutFault) = true
out_fault (Err exec.Oom) = false
