-- The commands on a tree of files end as gathering it, and then as the command on the root's text.
use Rattle.std.proofs.Common.{◌≡◌, ℕ, ◌≤◌, List, [], Option, Some, None, Result, Ok, Err, refl, sym, ◌∙◌, ap, subst, inl, inr, slice_index_or, length}
use Rattle.std.proofs.lemmas.List.{append-nil}
use Rattle.std.specs.Io.KnownBytes.{Appends, Consumes}
use Rattle.zw_base.specs.declared.files.Handed.{Handed}
use Rattle.zw_base.specs.declared.stop.Stop.{Stop}
use Rattle.zw_drive.specs.Due.{IsBuildDue, IsCheckDue, IsTreeDue, TreeDue}
use Rattle.zw_drive.specs.Ends.{ChecksTree, HasNamedStop, IsInRoot, TextChecks, TextEnds, TreeEnds, WritesText, WritesTree, ungathered}
use Rattle.zw_drive.specs.Meaning.{Builds}
use Rattle.zw_drive.specs.declared.build.BuildErr.{BuildErr}
use Rattle.zw_drive.specs.declared.build.BuildErr.TheVariants as build
use Rattle.zw_files.specs.Discovery.{Discovery, Found, Located, root_text, refused, whole, stopped}
use Rattle.zw_files.specs.Gathering.{Gathers, IsBegun, begun, past}
use Rattle.zw_files.specs.declared.err.GatherErr.{GatherErr}
use Rattle.zw_files.specs.declared.err.GatherErr.TheVariants as gather
use Rattle.zw_files.specs.declared.file_set.FileSet.{FileSet}
use Rattle.zw_files.specs.declared.stops.TheConstants.{FILE_LIMIT}
use Rattle.zw_files.proofs.RootLemmas.{root-short}
use Rattle.zw_form.specs.Form.{IsStopOf}
use Rattle.zw_report.specs.StopLines.{stop_line}
use Rattle.zw_drive.proofs.NamedLemmas.{discovery_named, stop_named}

-- known bytes that stay grow by nothing
pub Appends-none : (taken : Option (List ℕ)) → Appends taken taken []
Appends-none None = tt
Appends-none (Some xs) = sym (append-nil xs)

-- of known bytes none were read
pub Consumes-none : (left : Option (List ℕ)) → Consumes left left []
Consumes-none None = tt
Consumes-none (Some xs) = refl

-- the files of a whole discovery are its first ones
whole_begun : (root : List ℕ) (files : List Handed) (found : Found) (end : Result Found Located) → Discovery root files end → end ≡ Ok found → IsBegun root files
whole_begun root files found end (refused no_zig) e = absurd (cc)
whole_begun root files found end (whole zig leads none_left) e = begun zig (past leads)
whole_begun root files found end (stopped zig leads turn) e = absurd (cc)

-- ---- all files were found, and the root's text is one that a function answers
module _ (root : List ℕ) (old new : List Handed) (set : FileSet) (text : List ℕ) (g : Gathers root old new (Ok set)) (is : text ≡ slice_index_or set.texts 0 []) where
  abbrev found : Found
  found = g.ends.0

  text_is : text ≡ root_text found
  text_is = is ∙ ap (λ texts. slice_index_or texts 0 []) g.ends.2.texts

  pub text_fits : length text ≤ FILE_LIMIT
  text_fits = subst (λ (t : List ℕ). length t ≤ FILE_LIMIT) (sym text_is) (root-short root g.files (Ok found) found g.ends.1 refl)

  -- what is due for the text is due for the tree
  whole_due : (due : TreeDue) (status : ℕ) (out line : List ℕ) → due root text status out line → IsTreeDue due root g.files status out line
  whole_due due status out line h =
      record { end = Ok found; discovery = g.ends.1; end_due = subst (λ (t : List ℕ). due root t status out line) text_is h }

  module_due : (out : List ℕ) → Builds text out → IsTreeDue IsBuildDue root g.files 0 out []
  module_due out builds = whole_due IsBuildDue 0 out [] (inl (builds, record { status_is = refl; line_is = refl }))

  built_stop : (stop : Stop) (path : List ℕ) → path ≡ root → IsStopOf text stop → IsTreeDue IsBuildDue root g.files 1 [] (stop_line path stop)
  built_stop stop path there stops =
      whole_due IsBuildDue 1 [] (stop_line path stop) (inr (stop, stops, record { status_is = refl; out_is = refl; line_is = ap (λ (p : List ℕ). stop_line p stop) there }))

  checked_stop : (stop : Stop) (path : List ℕ) → path ≡ root → IsStopOf text stop → IsTreeDue IsCheckDue root g.files 1 [] (stop_line path stop)
  checked_stop stop path there stops =
      whole_due IsCheckDue 1 [] (stop_line path stop) (inr (stop, stops, record { status_is = refl; out_is = refl; line_is = ap (λ (p : List ℕ). stop_line p stop) there }))

  build_ends : (out : List ℕ) (r : Result (Unit {0}) BuildErr) → TextEnds root text out r → TreeEnds IsBuildDue root g.files out r
  build_ends out (Ok x) h = module_due out h
  build_ends out (Err (build.Stop stop path)) h = (h.0, stop_named text stop h.2, built_stop stop path h.1 h.2)
  build_ends out (Err build.TreeFault) h = absurd h
  build_ends out (Err build.OutFault) h = (h.0, module_due h.0 h.1, h.2)
  build_ends out (Err build.Oom) (inl h) = inl (h, whole_begun root g.files found (Ok found) g.ends.1 refl)
  build_ends out (Err build.Oom) (inr h) = inr (h.0, module_due h.0 h.1, h.2)

  pub builds_text : (before after : Option (List ℕ)) (r : Result (Unit {0}) BuildErr) → WritesText root text before after r → WritesTree IsBuildDue root old new before after r
  builds_text before after r w = record { files = g.files; out = w.0; loads = g.loads; writes = w.1; ends = build_ends w.0 r w.2 }

  check_ends : (r : Result (Unit {0}) BuildErr) → TextChecks root text r → TreeEnds IsCheckDue root g.files [] r
  check_ends (Ok x) h = whole_due IsCheckDue 0 [] [] (inl (h, record { status_is = refl; out_is = refl; line_is = refl }))
  check_ends (Err (build.Stop stop path)) h = (refl, stop_named text stop h.1, checked_stop stop path h.0 h.1)
  check_ends (Err build.TreeFault) h = absurd h
  check_ends (Err build.OutFault) h = absurd h
  check_ends (Err build.Oom) h = inl (refl, whole_begun root g.files found (Ok found) g.ends.1 refl)

  pub checks_text : (r : Result (Unit {0}) BuildErr) → TextChecks root text r → ChecksTree root old new r
  checks_text r h = λ taken. record { files = g.files; out = []; loads = g.loads; writes = Appends-none taken; ends = check_ends r h }

-- ---- the files weren't found
module _ (due : TreeDue) (root : List ℕ) (old new : List Handed) (taken : Option (List ℕ)) where
  pub tree_ungathered : (e : GatherErr) → Gathers root old new (Err e) → WritesTree due root old new taken taken (Err (ungathered e))
  tree_ungathered (gather.Stop stop path) g =
      record {
        files = g.files;
        out = [];
        loads = g.loads;
        writes = Appends-none taken;
        ends = (
          refl,
          discovery_named root g.files (Err (stop, path)) stop path g.ends refl,
          record { end = Err (stop, path); discovery = g.ends; end_due = record { status_is = refl; out_is = refl; line_is = refl } },
        );
      }
  tree_ungathered gather.Failed g = record { files = g.files; out = []; loads = g.loads; writes = Appends-none taken; ends = (refl, g.ends) }
  tree_ungathered gather.Oom g = record { files = g.files; out = []; loads = g.loads; writes = Appends-none taken; ends = inl (refl, g.ends) }

-- the stop of an end has a name
named_end : (due : TreeDue) (root : List ℕ) (files : List Handed) (out : List ℕ) (r : Result (Unit {0}) BuildErr) → TreeEnds due root files out r → HasNamedStop r
named_end due root files out (Ok x) h = tt
named_end due root files out (Err (build.Stop stop path)) h = h.1
named_end due root files out (Err build.TreeFault) h = tt
named_end due root files out (Err build.OutFault) h = tt
named_end due root files out (Err build.Oom) h = tt

pub named_checked : (root : List ℕ) (before after : List Handed) (r : Result (Unit {0}) BuildErr) → ChecksTree root before after r → HasNamedStop r
named_checked root before after r h = let w = h None in named_end IsCheckDue root w.files w.out r w.ends

-- ---- the text of the root

pub check_stop : (root text : List ℕ) (stop : Stop) (e : BuildErr) → IsStopOf text stop → IsInRoot root stop e → TextChecks root text (Err e)
check_stop root text stop (build.Stop other path) stops h = (h.1, subst (λ (s : Stop). IsStopOf text s) (sym h.0) stops)
check_stop root text stop build.TreeFault stops h = h
check_stop root text stop build.OutFault stops h = h
check_stop root text stop build.Oom stops h = tt

pub build_stop : (root text : List ℕ) (taken : Option (List ℕ)) (stop : Stop) (e : BuildErr) → IsStopOf text stop → IsInRoot root stop e → WritesText root text taken taken (Err e)
build_stop root text taken stop (build.Stop other path) stops h = ([], Appends-none taken, (refl, h.1, subst (λ (s : Stop). IsStopOf text s) (sym h.0) stops))
build_stop root text taken stop build.TreeFault stops h = absurd h
build_stop root text taken stop build.OutFault stops h = absurd h
build_stop root text taken stop build.Oom stops h = ([], Appends-none taken, inl refl)
