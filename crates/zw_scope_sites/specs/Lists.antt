-- Lists: lists that share their ends, each known by its head, or 0 where it is empty. A list of labels is known by the number of its first
-- link from 1, a list of bindings by the head of the table that leads from the number of a name to that of its innermost link from 1.
use Rattle.std.specs.Prelude.{◌≡◌, ℕ, suc, ◌≤◌, false, List, [], ◌∷◌, length, Option, Some, None, slice_get}
use Rattle.std.specs.List.{list_any}
use Rattle.zw_names.specs.NameSets.{names_in, number_in}
use Rattle.zw_scope_sites.specs.Scopes.{is_visible_local, innermost}
use Rattle.zw_scope_sites.specs.Tables.{Leads}
use Rattle.zw_scope_sites.specs.declared.lists.Binding.{Binding}
use Rattle.zw_scope_sites.specs.declared.lists.OpenLabel.{OpenLabel}
use Rattle.zw_scope_sites.specs.declared.lists.BindingLink.{BindingLink}
use Rattle.zw_scope_sites.specs.declared.lists.LabelLink.{LabelLink}
use Rattle.zw_scope_sites.specs.declared.lists.Lists.{Lists}
use Rattle.zw_scope_sites.specs.declared.tables.Fork.{Fork}

-- the link with this number from 1
pub data IsAt {L : Type 0} (links : List L) : ℕ → Option L → Type 0 where
  at_none : IsAt links 0 None
  at_some : (n : ℕ) (l : L) → slice_get links n ≡ Some l → IsAt links (suc n) (Some l)

-- the innermost link of a name in a list
abbrev pub IsFound : Option BindingLink → List ℕ → List Binding → Type 0
IsFound None name bs = (innermost bs name ≡ None) × (list_any (is_visible_local name) bs ≡ false)
IsFound (Some l) name bs = (innermost bs name ≡ Some l.item) × (list_any (is_visible_local name) bs ≡ l.sees_local)

-- a table leads from the number of a name to its innermost link
pub record Finds (names : List (List ℕ)) (forks : List Fork) (links : List BindingLink) (head : ℕ) (bs : List Binding) (name : List ℕ) : Type 0 where
  pub link : ℕ
  pub found : Option BindingLink
  pub leads : Leads forks head (number_in names name) link
  pub at : IsAt links link found
  pub is : IsFound found name bs

-- a table stands for a list: it finds each name, and leads from no other number to a link
pub record IsTable (names : List (List ℕ)) (forks : List Fork) (links : List BindingLink) (head : ℕ) (bs : List Binding) : Type 0 where
  pub each : (name : List ℕ) → Finds names forks links head bs name
  pub unnamed : (name : List ℕ) → number_in names name ≡ length names → IsFound None name bs
  pub past : (k : ℕ) → length names ≤ k → Leads forks head k 0

abbrev pub IsBindings : Lists → ℕ → List Binding → Type 0
IsBindings lists head bs = IsTable (names_in lists.names) lists.forks.items lists.bindings.items head bs

pub data IsList {L T : Type 0} (item : L → T) (next : L → ℕ) (links : List L) : ℕ → List T → Type 0 where
  at_end : IsList item next links 0 []
  at_link : (n : ℕ) (l : L) (ts : List T) → slice_get links n ≡ Some l → next l ≤ n → IsList item next links (next l) ts → IsList item next links (suc n) (item l ∷ ts)

abbrev pub IsLabels : Lists → ℕ → List OpenLabel → Type 0
IsLabels lists head ls = IsList (λ (l : LabelLink). l.item) (λ (l : LabelLink). l.next) lists.labels.items head ls

-- each list is still there
pub record Grows (old new : Lists) : Type 0 where
  pub bindings : (head : ℕ) (bs : List Binding) → IsBindings old head bs → IsBindings new head bs
  pub labels : (head : ℕ) (ls : List OpenLabel) → IsLabels old head ls → IsLabels new head ls
