-- A command ends as its build and its report end.
use Rattle.std.proofs.Common.{◌≡◌, ◌⊎◌, ℕ, List, [], length, lit≤, Option, Some, None, Result, Ok, Err, refl, sym, ap, subst, inl, inr}
use Rattle.std.proofs.lemmas.List.{append-nil}
use Rattle.std.proofs.Math.Seq.{take-length}
use Rattle.std.specs.Io.KnownBytes.{Appends}
use Rattle.zw_base.specs.declared.files.Handed.{Handed}
use Rattle.zw_drive.specs.Commands.{Asks, CommandLine, Build, Check}
use Rattle.zw_drive.specs.Due.{AreFirst, IsDue, IsBeforeLoad, IsBuildDue, IsCheckDue, IsCommandDue, IsFront, IsTreeDue, IsWhole, Ends, Serves, TreeDue}
use Rattle.zw_drive.specs.Ends.{IsUnsaid, WritesTree, Reports, Says, code_of}
use Rattle.zw_drive.specs.Inputs.{Reading}
use Rattle.zw_drive.specs.Lines.{usage_line, tree_fault_line, out_fault_line}
use Rattle.zw_drive.specs.declared.build.BuildErr.{BuildErr}
use Rattle.zw_drive.specs.declared.build.BuildErr.TheVariants as build
use Rattle.zw_drive.specs.declared.status.Status.{Status}
use Rattle.zw_drive.specs.declared.status.Status.TheVariants as statuses
use Rattle.zw_files.specs.Gathering.{IsBegun, IsCutOff}
use Rattle.zw_report.specs.StopLines.{stop_line}
use Rattle.zw_drive.proofs.BuildLemmas.{Appends-none, Consumes-none}

-- all of the bytes are a front of them
pub front_all : (bytes : List ℕ) → IsFront bytes bytes
front_all bytes = (length bytes, sym (take-length bytes))

-- nothing was read of the input
abbrev pub unread : Option (List ℕ) → Reading
unread left = record { bytes = []; left = left }

-- a line that was to end a command was cut short
unsaid_ends : (words : List (List ℕ)) (files : List Handed) (reading : Reading) (out line said : List ℕ) (own status : Status) → IsWhole words files reading (code_of own) out line → IsFront said line → IsUnsaid line status → Ends words files reading (code_of status) out said
unsaid_ends words files reading out line said own status whole front (inl e) =
    inr (inl (record { due_status = code_of own; due_line = line; whole = whole; some = e.1; status_is = ap code_of e.0; line_is = front }))
unsaid_ends words files reading out line said own status whole front (inr e) =
    inr (inr (record { status_is = ap code_of e; written = inr (code_of own, out, line, whole, front_all out, front) }))

-- it was said, or cut short
pub said_ends : (words : List (List ℕ)) (files : List Handed) (reading : Reading) (out line said : List ℕ) (own status : Status) → IsWhole words files reading (code_of own) out line → ((said ≡ line) × (status ≡ own)) ⊎ (IsFront said line × IsUnsaid line status) → Ends words files reading (code_of status) out said
said_ends words files reading out line said own status whole (inl h) = inl (rw (h.0, h.1) whole)
said_ends words files reading out line said own status whole (inr h) = unsaid_ends words files reading out line said own status whole h.0 h.1

-- there was no memory to read the words
pub serves_nothing : (words : List (List ℕ)) (loaded : List Handed) (left out diag : Option (List ℕ)) → Serves words loaded loaded left left out out diag diag 11
serves_nothing words loaded left out diag =
    record {
      files = [];
      input = [];
      out = [];
      line = [];
      loads = sym (append-nil loaded);
      reads = Consumes-none left;
      within = lit≤ tt;
      writes = Appends-none out;
      says = Appends-none diag;
      ends = inr (inr (record { status_is = refl; written = inl (refl, refl, inl refl) }));
    }

-- words that are no command
pub serves_usage : (words : List (List ℕ)) (loaded : List Handed) (left out before after : Option (List ℕ)) (status : Status) → Asks words None → Says statuses.Usage usage_line before after status → Serves words loaded loaded left left out out before after (code_of status)
serves_usage words loaded left out before after status asks says =
    let due : IsDue words [] (unread left) 2 [] usage_line = record { asked = None; asks = asks; due = (refl, record { files_are = refl; status_is = refl; out_is = refl; line_is = refl }) } in
    record {
      files = [];
      input = [];
      out = [];
      line = says.said;
      loads = sym (append-nil loaded);
      reads = Consumes-none left;
      within = lit≤ tt;
      writes = Appends-none out;
      says = says.puts;
      ends = said_ends words [] (unread left) [] usage_line says.said statuses.Usage status (inl due) says.ends;
    }

-- A command on a tree ended, and that was reported. What is due for its tree is due for what was asked, where its tree fails theirs does,
-- and first files of its tree are first ones for it.
module _ (words : List (List ℕ)) (asked : Option CommandLine) (asks : Asks words asked) (left : Option (List ℕ)) (due : TreeDue) (root : List ℕ)
    (tree_due : (files : List Handed) (status : ℕ) (out line : List ℕ) → IsTreeDue due root files status out line → IsCommandDue asked files (unread left) status out line)
    (at_load : (files : List Handed) → IsCutOff root files → IsBeforeLoad asked files)
    (first : (files : List Handed) → IsBegun root files → AreFirst asked files)
    (old new : List Handed) (out_before out_after before after : Option (List ℕ)) where
  is_due : (files : List Handed) (status : ℕ) (out line : List ℕ) → IsTreeDue due root files status out line → IsDue words files (unread left) status out line
  is_due files status out line h = record { asked = asked; asks = asks; due = tree_due files status out line h }

  pub serves_tree : (ended : Result (Unit {0}) BuildErr) (status : Status) → WritesTree due root old new out_before out_after ended → Reports ended before after status → Serves words old new left left out_before out_after before after (code_of status)
  serves_tree (Ok x) status w says =
      record {
        files = w.files;
        input = [];
        out = w.out;
        line = [];
        loads = w.loads;
        reads = Consumes-none left;
        within = lit≤ tt;
        writes = w.writes;
        says = subst (λ (t : Option (List ℕ)). Appends before t []) (sym says.same) (Appends-none before);
        ends = inl (inl (rw says.own_status (is_due w.files 0 w.out [] w.ends)));
      }
  serves_tree (Err (build.Stop stop path)) status w says =
      record {
        files = w.files;
        input = [];
        out = w.out;
        line = says.said;
        loads = w.loads;
        reads = Consumes-none left;
        within = lit≤ tt;
        writes = w.writes;
        says = says.puts;
        ends = said_ends words w.files (unread left) w.out (stop_line path stop) says.said statuses.Stopped status
            (inl (rw w.ends.0 (is_due w.files 1 [] (stop_line path stop) w.ends.2))) says.ends;
      }
  serves_tree (Err build.TreeFault) status w says =
      record {
        files = w.files;
        input = [];
        out = w.out;
        line = says.said;
        loads = w.loads;
        reads = Consumes-none left;
        within = lit≤ tt;
        writes = w.writes;
        says = says.puts;
        ends = said_ends words w.files (unread left) w.out tree_fault_line says.said statuses.TreeFault status
            (inr (inl (record { asked = asked; asks = asks; at_load = at_load w.files w.ends.1; unread = refl; status_is = refl; out_is = w.ends.0; line_is = refl }))) says.ends;
      }
  serves_tree (Err build.OutFault) status w says =
      record {
        files = w.files;
        input = [];
        out = w.out;
        line = says.said;
        loads = w.loads;
        reads = Consumes-none left;
        within = lit≤ tt;
        writes = w.writes;
        says = says.puts;
        ends = said_ends words w.files (unread left) w.out out_fault_line says.said statuses.OutFault status
            (inr (inr (inr (record { due_status = 0; due = w.ends.0; is_due = is_due w.files 0 w.ends.0 [] w.ends.1; status_is = refl; out_is = w.ends.2; line_is = refl })))) says.ends;
      }
  serves_tree (Err build.Oom) status w says =
      record {
        files = w.files;
        input = [];
        out = w.out;
        line = [];
        loads = w.loads;
        reads = Consumes-none left;
        within = lit≤ tt;
        writes = w.writes;
        says = subst (λ (t : Option (List ℕ)). Appends before t []) (sym says.same) (Appends-none before);
        ends = inr (inr (record {
          status_is = ap code_of says.own_status;
          written = elim w.ends [ inl h ↦ inl (h.0, refl, inr (asked, asks, first w.files h.1)) | inr h ↦ inr (0, h.0, [], inl (is_due w.files 0 h.0 [] h.1), h.2, front_all []) ];
        }));
      }

module _ (words : List (List ℕ)) (root : List ℕ) (old new : List Handed) (left out_before out_after before after : Option (List ℕ)) (ended : Result (Unit {0}) BuildErr) (status : Status) where
  pub serves_build : Asks words (Some (Build root)) → WritesTree IsBuildDue root old new out_before out_after ended → Reports ended before after status → Serves words old new left left out_before out_after before after (code_of status)
  serves_build asks =
      serves_tree words (Some (Build root)) asks left IsBuildDue root (λ files status out line h. (refl, h)) (λ files h. h) (λ files h. h)
      old new out_before out_after before after ended status

  pub serves_check : Asks words (Some (Check root)) → WritesTree IsCheckDue root old new out_before out_after ended → Reports ended before after status → Serves words old new left left out_before out_after before after (code_of status)
  serves_check asks =
      serves_tree words (Some (Check root)) asks left IsCheckDue root (λ files status out line h. (refl, h)) (λ files h. h) (λ files h. h)
      old new out_before out_after before after ended status
