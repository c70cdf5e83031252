-- How the parts of a command end: by cases on what each answers.
use Rattle.std.specs.Prelude.{◌≡◌, ◌⊎◌, ℕ, ◌<◌, Bool, true, false, List, [], ◌++◌, length, Result, Ok, Err, Option}
use Rattle.std.specs.Io.KnownBytes.{Appends}
use Rattle.zw_base.specs.declared.files.Handed.{Handed}
use Rattle.zw_base.specs.declared.stop.Refused.{Refused}
use Rattle.zw_base.specs.declared.stop.Refused.TheVariants as refused
use Rattle.zw_base.specs.declared.stop.Stop.{Stop}
pub use Rattle.zw_drive.specs.Statuses.{code_of}
use Rattle.zw_drive.specs.Due.{IsCheckDue, IsFront, IsTreeDue, TreeDue}
use Rattle.zw_drive.specs.Lines.{tree_fault_line, out_fault_line}
use Rattle.zw_drive.specs.Meaning.{Means, Builds}
use Rattle.zw_drive.specs.declared.build.BuildErr.{BuildErr}
use Rattle.zw_drive.specs.declared.build.BuildErr.TheVariants as build
use Rattle.zw_drive.specs.declared.status.Status.{Status}
use Rattle.zw_drive.specs.declared.status.Status.TheVariants as statuses
use Rattle.zw_files.specs.Gathering.{IsCutOff, IsBegun}
use Rattle.zw_files.specs.declared.err.GatherErr.{GatherErr}
use Rattle.zw_files.specs.declared.err.GatherErr.TheVariants as gather
use Rattle.zw_form.specs.Form.{HasForm, IsStopOf}
use Rattle.zw_form.specs.Trees.{Tree}
use Rattle.zw_report.specs.StopLines.{IsNamed, stop_line}
use Rattle.zw_wasm.specs.WellFormed.{IsWellFormed}
use Rattle.zw_wasm.specs.declared.module.Module.{Module}

-- a module that does what the text says, and has bytes
abbrev pub IsCompiled : List ℕ → Module → Type 0
IsCompiled text m = Means text m × IsWellFormed m

-- a text is compiled to such a module, or has a stop
abbrev pub Compiles : List ℕ → Result Module Refused → Type 0
Compiles text (Ok m) = IsCompiled text m
Compiles text (Err (refused.Stop stop)) = IsStopOf text stop
Compiles text (Err refused.Oom) = Unit {0}

abbrev pub tree_failed : {T : Type 0} → Result T BuildErr → Bool
tree_failed (Ok x) = false
tree_failed (Err (build.Stop stop path)) = false
tree_failed (Err build.TreeFault) = true
tree_failed (Err build.OutFault) = false
tree_failed (Err build.Oom) = false

abbrev pub out_failed : {T : Type 0} → Result T BuildErr → Bool
out_failed (Ok x) = false
out_failed (Err (build.Stop stop path)) = false
out_failed (Err build.TreeFault) = false
out_failed (Err build.OutFault) = true
out_failed (Err build.Oom) = false

-- how a command ends where the files of its tree weren't gathered
abbrev pub ungathered : GatherErr → BuildErr
ungathered (gather.Stop stop path) = build.Stop stop path
ungathered gather.Failed = build.TreeFault
ungathered gather.Oom = build.Oom

-- a stop in the root, with the root's path, or there was no memory for the path
abbrev pub IsInRoot : List ℕ → Stop → BuildErr → Type 0
IsInRoot root stop (build.Stop other path) = (other ≡ stop) × (path ≡ root)
IsInRoot root stop build.TreeFault = ⊥
IsInRoot root stop build.OutFault = ⊥
IsInRoot root stop build.Oom = Unit {0}

-- how building a text ends, with these bytes taken by the output; a stop is told with the path of the root
abbrev pub TextEnds : List ℕ → List ℕ → List ℕ → Result (Unit {0}) BuildErr → Type 0
TextEnds root text out (Ok x) = Builds text out
TextEnds root text out (Err (build.Stop stop path)) = (out ≡ []) × (path ≡ root) × IsStopOf text stop
TextEnds root text out (Err build.TreeFault) = ⊥
TextEnds root text out (Err build.OutFault) = (due : List ℕ) × Builds text due × IsFront out due
TextEnds root text out (Err build.Oom) = (out ≡ []) ⊎ ((due : List ℕ) × Builds text due × IsFront out due)

-- the output took bytes with which building the text ended so
abbrev pub WritesText : List ℕ → List ℕ → Option (List ℕ) → Option (List ℕ) → Result (Unit {0}) BuildErr → Type 0
WritesText root text old new result = (out : List ℕ) × Appends old new out × TextEnds root text out result

-- how checking a text ends
abbrev pub TextChecks : List ℕ → List ℕ → Result (Unit {0}) BuildErr → Type 0
TextChecks root text (Ok x) = (trees : List Tree) × HasForm text trees
TextChecks root text (Err (build.Stop stop path)) = (path ≡ root) × IsStopOf text stop
TextChecks root text (Err build.TreeFault) = ⊥
TextChecks root text (Err build.OutFault) = ⊥
TextChecks root text (Err build.Oom) = Unit {0}

-- how a command on a tree of files ends, with these files handed over and these bytes taken
abbrev pub TreeEnds : TreeDue → List ℕ → List Handed → List ℕ → Result (Unit {0}) BuildErr → Type 0
TreeEnds due root files out (Ok x) = IsTreeDue due root files 0 out []
TreeEnds due root files out (Err (build.Stop stop path)) = (out ≡ []) × IsNamed stop.kind × IsTreeDue due root files 1 [] (stop_line path stop)
TreeEnds due root files out (Err build.TreeFault) = (out ≡ []) × IsCutOff root files
TreeEnds due root files out (Err build.OutFault) = (written : List ℕ) × IsTreeDue due root files 0 written [] × IsFront out written
TreeEnds due root files out (Err build.Oom) = ((out ≡ []) × IsBegun root files) ⊎ ((written : List ℕ) × IsTreeDue due root files 0 written [] × IsFront out written)

-- the tree handed over files, and the output took bytes, with which the command ended so
pub record WritesTree (due : TreeDue) (root : List ℕ) (loaded_before loaded_after : List Handed) (taken_before taken_after : Option (List ℕ)) (result : Result (Unit {0}) BuildErr) : Type 0 where
  pub files : List Handed
  pub out : List ℕ
  pub loads : loaded_after ≡ loaded_before ++ files
  pub writes : Appends taken_before taken_after out
  pub ends : TreeEnds due root files out result

-- the tree handed over files with which checking ended so, where any output stays as it is
abbrev pub ChecksTree : List ℕ → List Handed → List Handed → Result (Unit {0}) BuildErr → Type 0
ChecksTree root before after result = (taken : Option (List ℕ)) → WritesTree IsCheckDue root before after taken taken result

-- a line that isn't empty wasn't put whole by the diagnostics, or there was no memory
abbrev pub IsUnsaid : List ℕ → Status → Type 0
IsUnsaid line status = ((status ≡ statuses.DiagFault) × (0 < length line)) ⊎ (status ≡ statuses.OutOfMemory)

-- a line was said: it was put whole and the status is its own, or a front of it was put and the status is 10 or 11
pub record Says (own : Status) (line : List ℕ) (taken_before taken_after : Option (List ℕ)) (status : Status) : Type 0 where
  pub said : List ℕ
  pub puts : Appends taken_before taken_after said
  pub ends : ((said ≡ line) × (status ≡ own)) ⊎ (IsFront said line × IsUnsaid line status)

-- nothing was said
pub record IsSilent (own : Status) (taken_before taken_after : Option (List ℕ)) (status : Status) : Type 0 where
  pub same : taken_after ≡ taken_before
  pub own_status : status ≡ own

-- how the end of a command on a tree was reported
abbrev pub Reports : Result (Unit {0}) BuildErr → Option (List ℕ) → Option (List ℕ) → Status → Type 0
Reports (Ok x) before after status = IsSilent statuses.Done before after status
Reports (Err (build.Stop stop path)) before after status = Says statuses.Stopped (stop_line path stop) before after status
Reports (Err build.TreeFault) before after status = Says statuses.TreeFault tree_fault_line before after status
Reports (Err build.OutFault) before after status = Says statuses.OutFault out_fault_line before after status
Reports (Err build.Oom) before after status = IsSilent statuses.OutOfMemory before after status

-- the stop of an end is one that has a name
abbrev pub HasNamedStop : Result (Unit {0}) BuildErr → Type 0
HasNamedStop (Ok x) = Unit {0}
HasNamedStop (Err (build.Stop stop path)) = IsNamed stop.kind
HasNamedStop (Err build.TreeFault) = Unit {0}
HasNamedStop (Err build.OutFault) = Unit {0}
HasNamedStop (Err build.Oom) = Unit {0}
