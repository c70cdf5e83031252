-- What reading the members of a file gives, by the numbers of their nodes: the functions, and which members they are.
use Rattle.std.specs.Prelude.{◌≡◌, ℕ, Bool, true, List, [], ◌∷◌, ◌++◌, map, All, Option, Some, slice_get}
use Rattle.std.specs.List.{flat_map}
use Rattle.std.specs.Option.{option_map, option_to_list}
use Rattle.zw_token.specs.declared.token.Token.{Token}
use Rattle.zw_tree.specs.Numbering.{from}
use Rattle.zw_tree.specs.Trees.{Forest}
use Rattle.zw_tree.specs.declared.ast.Entry.{Entry}
use Rattle.zw_form.specs.Members.{Member, is_new, members_behind, new_among}
use Rattle.zw_names.specs.NameSets.{names_in}
use Rattle.zw_form.specs.Nodes.{member_of}
use Rattle.zw_form.specs.Rules.{KeepsNames, KeepsSteps, name_of, externs_of, export_of}
use Rattle.zw_form.specs.Trees.{declaration_of}
use Rattle.zw_form.specs.declared.members.Functions.{Functions}
use Rattle.zw_form.specs.declared.source.Declaration.{Declaration}

-- the members that the nodes with these numbers are, behind so many nodes of bodies and these names
abbrev pub members_at : List ℕ → List Token → Forest Entry → List ℕ → ℕ → List (List ℕ) → List Member
members_at text tokens file members nodes names = members_behind text tokens (map (from file) members) nodes names

-- what these nodes declare, in steps
abbrev pub declared_at : List ℕ → List Token → Forest Entry → List ℕ → List (Option Declaration)
declared_at text tokens file members = map (λ n. option_map declaration_of (member_of text tokens (from file n))) members

-- the functions among these that have new names
abbrev pub functions_among : List (List ℕ) → List (Option Declaration) → List Declaration
functions_among names declared = new_among names (flat_map option_to_list declared)

-- the names behind one of these
abbrev pub names_past : List (List ℕ) → Option Declaration → List (List ℕ)
names_past names declared = names ++ map name_of (new_among names (option_to_list declared))

-- which of these are functions that have new names
abbrev pub marks_of : List (List ℕ) → List (Option Declaration) → List Bool
marks_of names [] = []
marks_of names (d ∷ ds) = is_new names d ∷ marks_of (names_past names d) ds

-- the functions of members that declare this
pub record AreFunctions (declared : List (Option Declaration)) (functions : Functions) : Type 0 where
  pub list : functions.list ≡ functions_among [] declared
  pub names : names_in functions.names ≡ map name_of functions.list
  pub marks : functions.marks ≡ marks_of [] declared

-- the member of this number is the function of this number, and keeps the rules among all
pub record IsKept (functions : Functions) (index : ℕ) : Type 0 where
  pub mark : slice_get functions.marks index ≡ Some true
  pub function : Declaration
  pub there : slice_get functions.list index ≡ Some function
  pub names : KeepsNames (map name_of functions.list) function
  pub steps : All (KeepsSteps (externs_of functions.list)) (export_of function)
