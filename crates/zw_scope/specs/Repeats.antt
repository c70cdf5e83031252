-- Repeats: the names that a form may have once each, read from its children.
use Rattle.std.specs.Prelude.{ℕ, List, ◌∷◌, ◌≡◌, Option, Some, None, if◌then◌else◌}
use Rattle.std.specs.List.{flat_map, list_any}
use Rattle.std.specs.Str.{bytes_eq}
use Rattle.zw_scope_sites.specs.Firsts.{text_at}
use Rattle.zw_tree.specs.Numbering.{first_root, from}
use Rattle.zw_tree.specs.Trees.{Forest}
use Rattle.zw_tree.specs.declared.ast.Entry.{Entry}
use Rattle.zw_scope_sites.specs.Scopes.{is_initialiser, is_named_member, is_parameter_kind}
use Rattle.zw_scope.specs.NameRules.{listed, names_of, own_names}
use Rattle.zw_scope.specs.declared.repeats.Named.{Named}
use Rattle.zw_scope.specs.declared.repeats.Named.TheVariants.{Members, Parameters, Initialisers, Errors}

-- what the nodes with these numbers say
abbrev pub entries : Forest Entry → List ℕ → List Entry
entries file nodes = flat_map (λ c. listed (first_root (from file c))) nodes

-- the names of these children
abbrev pub names_by : Named → Forest Entry → List Entry
names_by Members below = names_of is_named_member below
names_by Parameters below = names_of is_parameter_kind below
names_by Initialisers below = names_of is_initialiser below
names_by Errors below = own_names below

-- a name is among these where it is in the set
abbrev pub Passes : List (List ℕ) → List (List ℕ) → Type 0
Passes before seen = (x : List ℕ) → list_any (bytes_eq x) before ≡ list_any (bytes_eq x) seen

-- the node is told where its name is among these, and then is among them too
pub record Repeats (file : Forest Entry) (before : List (List ℕ)) (name : ℕ) (o : Option ℕ) (seen : List (List ℕ)) : Type 0 where
  pub node : o ≡ (if list_any (bytes_eq (text_at (from file name))) before then Some name else None)
  pub passes : Passes (text_at (from file name) ∷ before) seen
