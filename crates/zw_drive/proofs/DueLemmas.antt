-- No two statuses and no two lines are due for the same words and files, and no two outputs but for a build.
use Rattle.std.proofs.Common.{◌≡◌, ℕ, List, [], Option, Some, None, Result, Ok, Err, sym, ◌∙◌, subst, inl, inr}
use Rattle.zw_base.specs.declared.files.Handed.{Handed}
use Rattle.zw_base.specs.declared.stop.Stop.{Stop}
use Rattle.zw_drive.specs.Commands.{Asks, CommandLine, Check, Build, Validate, Exec, command_of}
use Rattle.zw_drive.specs.Due.{IsBuildDue, IsCheckDue, IsCommandDue, IsDue, IsEndDue, IsModule, IsStop, IsStopDue, IsTreeDue, TreeDue}
use Rattle.zw_drive.specs.Inputs.{Reading}
use Rattle.zw_files.specs.Discovery.{Found, Located, root_text}
use Rattle.zw_files.proofs.DiscoveryLemmas.{one-end}
use Rattle.zw_form.proofs.FormLemmas.{one_stop-of, stop_or_form}
use Rattle.zw_form.specs.Form.{HasForm, IsStopOf}
use Rattle.zw_form.specs.Trees.{Tree}
use Rattle.zw_parse.proofs.SyntaxLemmas.{tree_once, stop_once, tree_not_stop}
use Rattle.zw_drive.proofs.CommandLemmas.{one_asked}
use Rattle.zw_drive.proofs.ExecDueLemmas.{one_exec}
use Rattle.zw_drive.proofs.ValidateDueLemmas.{one_validate}

-- the same status and the same line
abbrev pub IsSame : ℕ → ℕ → List ℕ → List ℕ → Type 0
IsSame status status' line line' = (status ≡ status') × (line ≡ line')

one_stop : (root : List ℕ) (stop : Stop) (s t : ℕ) (out out' line line' : List ℕ) → IsStop root stop s out line → IsStop root stop t out' line' → IsSame s t line line'
one_stop root stop s t out out' line line' h k = (h.status_is ∙ sym k.status_is, h.line_is ∙ sym k.line_is)

one_module : (s t : ℕ) (line line' : List ℕ) → IsModule s line → IsModule t line' → IsSame s t line line'
one_module s t line line' h k = (h.status_is ∙ sym k.status_is, h.line_is ∙ sym k.line_is)

-- a text of the form has no stop
no_stop : (text : List ℕ) (stop : Stop) (trees : List Tree) → IsStopOf text stop → HasForm text trees → ⊥
no_stop text = stop_or_form tree_once stop_once tree_not_stop text

-- a text has one stop
same_stop : (text : List ℕ) (a b : Stop) → IsStopOf text a → IsStopOf text b → a ≡ b
same_stop text = one_stop-of tree_once stop_once tree_not_stop text

module _ (root text : List ℕ) (s t : ℕ) (out out' line line' : List ℕ) where
  -- a text that passes or is built, or has a stop
  one_stop-due : IsStopDue root text s out line → IsStopDue root text t out' line' → IsSame s t line line'
  one_stop-due h k = one_stop root h.0 s t out out' line line' h.2 (subst (λ (stop : Stop). IsStop root stop t out' line') (same_stop text k.0 h.0 k.1 h.1) k.2)

  one_check : IsCheckDue root text s out line → IsCheckDue root text t out' line' → IsSame s t line line'
  one_check (inl h) (inl k) = (h.1.status_is ∙ sym k.1.status_is, h.1.line_is ∙ sym k.1.line_is)
  one_check (inl h) (inr k) = absurd (no_stop text k.0 h.0.0 k.1 h.0.1)
  one_check (inr h) (inl k) = absurd (no_stop text h.0 k.0.0 h.1 k.0.1)
  one_check (inr h) (inr k) = one_stop-due h k

  one_build : IsBuildDue root text s out line → IsBuildDue root text t out' line' → IsSame s t line line'
  one_build (inl h) (inl k) = one_module s t line line' h.1 k.1
  one_build (inl h) (inr k) = absurd (no_stop text k.0 h.0.means.trees k.1 h.0.means.form)
  one_build (inr h) (inl k) = absurd (no_stop text h.0 k.0.means.trees h.1 k.0.means.form)
  one_build (inr h) (inr k) = one_stop-due h k

-- one status and one line are due for a text
abbrev IsOne : TreeDue → Type 0
IsOne due = (root text : List ℕ) (s t : ℕ) (out out' line line' : List ℕ) → due root text s out line → due root text t out' line' → IsSame s t line line'

module _ (due : TreeDue) (one : IsOne due) (root : List ℕ) where
  one_end_due : (end : Result Found Located) (s t : ℕ) (out out' line line' : List ℕ) → IsEndDue due root end s out line → IsEndDue due root end t out' line' → IsSame s t line line'
  one_end_due (Ok found) s t out out' line line' h k = one root (root_text found) s t out out' line line' h k
  one_end_due (Err (stop, path)) s t out out' line line' h k = one_stop path stop s t out out' line line' h k

  one_tree_due : (files : List Handed) (s t : ℕ) (out out' line line' : List ℕ) → IsTreeDue due root files s out line → IsTreeDue due root files t out' line' → IsSame s t line line'
  one_tree_due files s t out out' line line' h k =
      one_end_due h.end s t out out' line line' h.end_due
      (subst (λ (end : Result Found Located). IsEndDue due root end t out' line') (one-end root files k.end h.end k.discovery h.discovery) k.end_due)

one_command : (asked : Option CommandLine) (files : List Handed) (reading : Reading) (s t : ℕ) (out out' line line' : List ℕ) → IsCommandDue asked files reading s out line → IsCommandDue asked files reading t out' line' → IsSame s t line line'
one_command None files reading s t out out' line line' h k = (h.1.status_is ∙ sym k.1.status_is, h.1.line_is ∙ sym k.1.line_is)
one_command (Some (Check root)) files reading s t out out' line line' h k = one_tree_due IsCheckDue one_check root files s t out out' line line' h.1 k.1
one_command (Some (Build root)) files reading s t out out' line line' h k = one_tree_due IsBuildDue one_build root files s t out out' line line' h.1 k.1
one_command (Some (Validate file)) files reading s t out out' line line' h k =
    let same = one_validate file files s t out out' line line' h.1 k.1 in (same.0, same.2)
one_command (Some (Exec request)) files reading s t out out' line line' h k =
    let same = one_exec request files reading s t out out' line line' h k in (same.0, same.2)

-- for the same words, files and input
pub one_due_lem : (words : List (List ℕ)) (files : List Handed) (reading : Reading) (s t : ℕ) (out out' line line' : List ℕ) → IsDue words files reading s out line → IsDue words files reading t out' line' → IsSame s t line line'
one_due_lem words files reading s t out out' line line' h k =
    one_command h.asked files reading s t out out' line line' h.due
    (subst (λ (asked : Option CommandLine). IsCommandDue asked files reading t out' line') (one_asked words k.asked h.asked k.asks h.asks) k.due)

-- ---- outputs

-- nothing goes to the output where a tree is checked
check_unwritten : (root text : List ℕ) (s : ℕ) (out line : List ℕ) → IsCheckDue root text s out line → out ≡ []
check_unwritten root text s out line (inl h) = h.1.out_is
check_unwritten root text s out line (inr h) = h.2.out_is

end_unwritten : (root : List ℕ) (end : Result Found Located) (s : ℕ) (out line : List ℕ) → IsEndDue IsCheckDue root end s out line → out ≡ []
end_unwritten root (Ok found) s out line h = check_unwritten root (root_text found) s out line h
end_unwritten root (Err (stop, path)) s out line h = h.out_is

tree_unwritten : (root : List ℕ) (files : List Handed) (s : ℕ) (out line : List ℕ) → IsTreeDue IsCheckDue root files s out line → out ≡ []
tree_unwritten root files s out line h = end_unwritten root h.end s out line h.end_due

-- the words don't ask for a build
abbrev Unbuilt : List (List ℕ) → Type 0
Unbuilt words = (root : List ℕ) → command_of words ≡ Some (Build root) → ⊥

command_output : (words : List (List ℕ)) (asked : Option CommandLine) (files : List Handed) (reading : Reading) (s t : ℕ) (out out' line line' : List ℕ) → Unbuilt words → Asks words asked → IsCommandDue asked files reading s out line → IsCommandDue asked files reading t out' line' → out ≡ out'
command_output words None files reading s t out out' line line' unbuilt asks h k = h.1.out_is ∙ sym k.1.out_is
command_output words (Some (Check root)) files reading s t out out' line line' unbuilt asks h k = tree_unwritten root files s out line h.1 ∙ sym (tree_unwritten root files t out' line' k.1)
command_output words (Some (Build root)) files reading s t out out' line line' unbuilt asks h k = absurd (unbuilt root asks)
command_output words (Some (Validate file)) files reading s t out out' line line' unbuilt asks h k = (one_validate file files s t out out' line line' h.1 k.1).1
command_output words (Some (Exec request)) files reading s t out out' line line' unbuilt asks h k = (one_exec request files reading s t out out' line line' h k).1

pub one_output : (words : List (List ℕ)) (files : List Handed) (reading : Reading) (s t : ℕ) (out out' line line' : List ℕ) → ((root : List ℕ) → command_of words ≡ Some (Build root) → ⊥) → IsDue words files reading s out line → IsDue words files reading t out' line' → out ≡ out'
one_output words files reading s t out out' line line' unbuilt h k =
    command_output words h.asked files reading s t out out' line line' unbuilt h.asks h.due
    (subst (λ (asked : Option CommandLine). IsCommandDue asked files reading t out' line') (one_asked words k.asked h.asked k.asks h.asks) k.due)
