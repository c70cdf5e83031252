-- What is due: for the words of a command line, what the tree handed over and what was read of the input, the status, the bytes to
-- the output and the line to the diagnostics. A command is one case, and so is a stop. This project's own.
use Rattle.std.specs.Prelude.{◌≡◌, ◌⊎◌, ℕ, ◌<◌, ◌≤◌, List, [], ◌∷◌, ◌++◌, length, Option, Some, None, Result, Ok, Err, Contains}
use Rattle.std.specs.Io.KnownBytes.{Appends, Consumes}
use Rattle.zw_base.specs.Faults.{Rose}
use Rattle.zw_base.specs.declared.files.Handed.{Handed}
use Rattle.zw_base.specs.declared.stop.Stop.{Stop}
pub use Rattle.zw_drive.specs.Fronts.{IsFront}
use Rattle.zw_calls.specs.Requests.{Request}
use Rattle.zw_drive.specs.Commands.{Asks, AsksExec, CommandLine, Check, Build, Validate, Exec}
use Rattle.zw_drive.specs.Exec.{IsExecDue, IsReady}
use Rattle.zw_drive.specs.Inputs.{IsUnread, Reading}
use Rattle.zw_drive.specs.Lines.{usage_line, tree_fault_line, input_fault_line, out_fault_line}
use Rattle.zw_drive.specs.Meaning.{Builds}
use Rattle.zw_drive.specs.Validate.{IsFileAtMost, IsValidateDue}
use Rattle.zw_exec.specs.Ends.{status_of}
use Rattle.zw_exec.specs.declared.end.SessionEnd.{SessionEnd}
use Rattle.zw_files.specs.Discovery.{Discovery, Found, Located, root_text}
use Rattle.zw_files.specs.Gathering.{IsBegun, IsCutOff}
use Rattle.zw_form.specs.Form.{HasForm, IsStopOf}
use Rattle.zw_form.specs.Trees.{Tree}
use Rattle.zw_report.specs.StopLines.{stop_line}

-- a stop in the file at this path is due: status 1, its line, and nothing to the output
pub record IsStop (path : List ℕ) (stop : Stop) (status : ℕ) (out line : List ℕ) : Type 0 where
  pub status_is : status ≡ 1
  pub out_is : out ≡ []
  pub line_is : line ≡ stop_line path stop

-- a module is due: status 0, its bytes, and no line
pub record IsModule (status : ℕ) (line : List ℕ) : Type 0 where
  pub status_is : status ≡ 0
  pub line_is : line ≡ []

-- nothing is due: status 0, nothing to the output, and no line
pub record IsPassed (status : ℕ) (out line : List ℕ) : Type 0 where
  pub status_is : status ≡ 0
  pub out_is : out ≡ []
  pub line_is : line ≡ []

-- the stop of the root's text is due
abbrev pub IsStopDue : List ℕ → List ℕ → ℕ → List ℕ → List ℕ → Type 0
IsStopDue root text status out line = (stop : Stop) × IsStopOf text stop × IsStop root stop status out line

-- What is due for a command on a tree of files, all of which were found: by the root's path, the root's text, the status, the bytes
-- and the line.
abbrev pub TreeDue : Type 1
TreeDue = List ℕ → List ℕ → ℕ → List ℕ → List ℕ → Type 0

-- for `check`: nothing where the root's text is of the form that is built
abbrev pub IsCheckDue : TreeDue
IsCheckDue root text status out line = (((trees : List Tree) × HasForm text trees) × IsPassed status out line) ⊎ IsStopDue root text status out line

-- for `build`: a module that does what the root's text says
abbrev pub IsBuildDue : TreeDue
IsBuildDue root text status out line = (Builds text out × IsModule status line) ⊎ IsStopDue root text status out line

-- what is due where the discovery of the files below a root ended so: the stop is told with the path of the file in which it stands
abbrev pub IsEndDue : TreeDue → List ℕ → Result Found Located → ℕ → List ℕ → List ℕ → Type 0
IsEndDue due root (Ok found) status out line = due root (root_text found) status out line
IsEndDue due root (Err (stop, path)) status out line = IsStop path stop status out line

-- what is due for a command on the tree of files below a root: the tree handed over the files of a discovery
pub record IsTreeDue (due : TreeDue) (root : List ℕ) (files : List Handed) (status : ℕ) (out line : List ℕ) : Type 0 where
  pub end : Result Found Located
  pub discovery : Discovery root files end
  pub end_due : IsEndDue due root end status out line

-- the words are no command: status 2, the line of the usage, and nothing is loaded or written
pub record IsUsage (files : List Handed) (status : ℕ) (out line : List ℕ) : Type 0 where
  pub files_are : files ≡ []
  pub status_is : status ≡ 2
  pub out_is : out ≡ []
  pub line_is : line ≡ usage_line

-- what is due for what was asked for; `exec` alone reads input
abbrev pub IsCommandDue : Option CommandLine → List Handed → Reading → ℕ → List ℕ → List ℕ → Type 0
IsCommandDue None files reading status out line = IsUnread reading × IsUsage files status out line
IsCommandDue (Some (Check root)) files reading status out line = IsUnread reading × IsTreeDue IsCheckDue root files status out line
IsCommandDue (Some (Build root)) files reading status out line = IsUnread reading × IsTreeDue IsBuildDue root files status out line
IsCommandDue (Some (Validate file)) files reading status out line = IsUnread reading × IsValidateDue file files status out line
IsCommandDue (Some (Exec request)) files reading status out line = IsExecDue request files reading status out line

-- for these words, with these files handed over and this read of the input, this status, these bytes and this line are due
pub record IsDue (words : List (List ℕ)) (files : List Handed) (reading : Reading) (status : ℕ) (out line : List ℕ) : Type 0 where
  pub asked : Option CommandLine
  pub asks : Asks words asked
  pub due : IsCommandDue asked files reading status out line

-- the load of a file follows these, which the tree handed over: the next file of the tree, or the module's file
abbrev pub IsBeforeLoad : Option CommandLine → List Handed → Type 0
IsBeforeLoad None files = ⊥
IsBeforeLoad (Some (Check root)) files = IsCutOff root files
IsBeforeLoad (Some (Build root)) files = IsCutOff root files
IsBeforeLoad (Some (Validate file)) files = files ≡ []
IsBeforeLoad (Some (Exec request)) files = files ≡ []

-- the input is read next, behind these files: those of a module with the calls that are asked for
abbrev pub IsBeforeRead : Option CommandLine → List Handed → Type 0
IsBeforeRead None files = ⊥
IsBeforeRead (Some (Check root)) files = ⊥
IsBeforeRead (Some (Build root)) files = ⊥
IsBeforeRead (Some (Validate file)) files = ⊥
IsBeforeRead (Some (Exec request)) files = IsReady request files

-- what the tree may have handed over when a command ends early: some of the first files of a discovery, or the module's file at most
abbrev pub AreFirst : Option CommandLine → List Handed → Type 0
AreFirst None files = files ≡ []
AreFirst (Some (Check root)) files = IsBegun root files
AreFirst (Some (Build root)) files = IsBegun root files
AreFirst (Some (Validate file)) files = IsFileAtMost file files
AreFirst (Some (Exec request)) files = IsFileAtMost request.path files

-- none, or those of what the words ask for
abbrev pub AreBegun : List (List ℕ) → List Handed → Type 0
AreBegun words files = (files ≡ []) ⊎ ((asked : Option CommandLine) × Asks words asked × AreFirst asked files)

-- the tree failed as a file was to be loaded: status 7, its line, and nothing is read or written
pub record IsTreeFault (words : List (List ℕ)) (files : List Handed) (reading : Reading) (status : ℕ) (out line : List ℕ) : Type 0 where
  pub asked : Option CommandLine
  pub asks : Asks words asked
  pub at_load : IsBeforeLoad asked files
  pub unread : IsUnread reading
  pub status_is : status ≡ 7
  pub out_is : out ≡ []
  pub line_is : line ≡ tree_fault_line

-- the input failed as it was read: status 8, its line, and nothing is written
pub record IsInputFault (words : List (List ℕ)) (files : List Handed) (status : ℕ) (out line : List ℕ) : Type 0 where
  pub asked : Option CommandLine
  pub asks : Asks words asked
  pub at_read : IsBeforeRead asked files
  pub status_is : status ≡ 8
  pub out_is : out ≡ []
  pub line_is : line ≡ input_fault_line

-- the output failed: status 9, its line, and a front of bytes that were due without a line
pub record IsOutFault (words : List (List ℕ)) (files : List Handed) (reading : Reading) (status : ℕ) (out line : List ℕ) : Type 0 where
  pub due_status : ℕ
  pub due : List ℕ
  pub is_due : IsDue words files reading due_status due []
  pub status_is : status ≡ 9
  pub out_is : IsFront out due
  pub line_is : line ≡ out_fault_line

-- an end that was written whole
abbrev pub IsWhole : List (List ℕ) → List Handed → Reading → ℕ → List ℕ → List ℕ → Type 0
IsWhole words files reading status out line =
    IsDue words files reading status out line ⊎ IsTreeFault words files reading status out line ⊎ IsInputFault words files status out line
    ⊎ IsOutFault words files reading status out line

-- the diagnostics failed: status 10, and of an end that was to be written whole, with a line that isn't empty, the bytes and a front of the line
pub record IsDiagFault (words : List (List ℕ)) (files : List Handed) (reading : Reading) (status : ℕ) (out line : List ℕ) : Type 0 where
  pub due_status : ℕ
  pub due_line : List ℕ
  pub whole : IsWhole words files reading due_status out due_line
  pub some : 0 < length due_line
  pub status_is : status ≡ 10
  pub line_is : IsFront line due_line

-- there was no memory: status 11, and of an end that was to be written whole a front of the bytes and a front of the line, or nothing at all
pub record IsMemoryOut (words : List (List ℕ)) (files : List Handed) (reading : Reading) (status : ℕ) (out line : List ℕ) : Type 0 where
  pub status_is : status ≡ 11
  pub written : ((out ≡ []) × (line ≡ []) × AreBegun words files) ⊎ ((due_status : ℕ) × (due_out due_line : List ℕ) × IsWhole words files reading due_status due_out due_line × IsFront out due_out × IsFront line due_line)

-- an end that wasn't written whole
abbrev pub IsCutShort : List (List ℕ) → List Handed → Reading → ℕ → List ℕ → List ℕ → Type 0
IsCutShort words files reading status out line = IsDiagFault words files reading status out line ⊎ IsMemoryOut words files reading status out line

-- how a command ends
abbrev pub Ends : List (List ℕ) → List Handed → Reading → ℕ → List ℕ → List ℕ → Type 0
Ends words files reading status out line = IsWhole words files reading status out line ⊎ IsCutShort words files reading status out line

-- Between two counts of faults of an object: the status is the object's only where the count rose, and where the count
-- is greater the status is one of these.
pub record IsBlamed (before now status code : ℕ) (excuses : List ℕ) : Type 0 where
  pub not_fallen : before ≤ now
  pub cause : status ≡ code → Rose before now
  pub told : before < now → Contains (code ∷ excuses) status

-- From before to after a call with these words, the tree handed over files, bytes of the input were read, the output took bytes and the
-- diagnostics took a line, with which the command ended so. No more than 16,777,217 bytes are read.
pub record Serves (words : List (List ℕ)) (loaded_before loaded_after : List Handed) (left_before left_after out_before out_after diag_before diag_after : Option (List ℕ)) (status : ℕ) : Type 0 where
  pub files : List Handed
  pub input : List ℕ
  pub out : List ℕ
  pub line : List ℕ
  pub loads : loaded_after ≡ loaded_before ++ files
  pub reads : Consumes left_before left_after input
  pub within : length input ≤ 16777217
  pub writes : Appends out_before out_after out
  pub says : Appends diag_before diag_after line
  pub ends : Ends words files (record { bytes = input; left = left_after }) status out line

-- the words ask for calls of a module's file, and the status is that of a session that was run: 0, 3, 4, 5 or 12
pub record RanSession (words : List (List ℕ)) (status : ℕ) : Type 0 where
  pub request : Request
  pub asks : AsksExec words request
  pub end : SessionEnd
  pub status_is : status ≡ status_of end
