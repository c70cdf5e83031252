-- MembersOf: what a tree's identifiers name and its containers declare.
use Rattle.std.specs.Prelude.{◌≡◌, ℕ, suc, ◌<◌, Option, Some, slice_get}
use Rattle.std.specs.Option.{option_to_list}
use Rattle.zw_tree.specs.Numbering.{below}
use Rattle.zw_tree.specs.Trees.{Forest, count}
use Rattle.zw_tree.specs.declared.ast.Entry.{Entry}
use Rattle.zw_scope_sites.specs.Lists.{IsBindings}
use Rattle.zw_scope.specs.NameRules.{mentioned_by}
use Rattle.zw_scope_sites.specs.Scopes.{Standing, all_standing, declared}
use Rattle.zw_scope_sites.specs.declared.lists.Lists.{Lists}
use Rattle.zw_scope.specs.declared.members.Members.{Members}

-- the node with this number, where it stands, names this one, if any
abbrev pub Names : Forest Entry → ℕ → Option ℕ → Type 0
Names file n o = (s : Standing) → slice_get (all_standing file) n ≡ Some s → mentioned_by s ≡ option_to_list o

-- the list with this head is what the children of the node with this number declare
abbrev pub Declares : Forest Entry → Lists → ℕ → ℕ → Type 0
Declares file lists n head = IsBindings lists head (declared (suc n) (below file n))

pub record AreMembers (file : Forest Entry) (m : Members) : Type 0 where
  pub named : (n : ℕ) → n < count file → (o : Option ℕ) × (slice_get m.named.items n ≡ Some o) × Names file n o
  pub declared : (n : ℕ) → n < count file → (head : ℕ) × (slice_get m.heads.items n ≡ Some head) × Declares file m.lists n head
