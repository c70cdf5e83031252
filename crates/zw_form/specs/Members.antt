-- The members of a file in the order of the text, and the first stop that they have.
use Rattle.std.specs.Prelude.{◌≡◌, ◌⊎◌, ◌&&◌, ◌||◌, ℕ, ◌+◌, ◌-◌, ◌*◌, ◌≤◌, List, [], ◌∷◌, ◌++◌, length, map, Bool, false, not, All, Contains, Option, Some, None, slice_get, if◌then◌else◌}
use Rattle.std.specs.List.{filter, flat_map, list_any}
use Rattle.std.specs.Option.{option_map, option_to_list}
use Rattle.std.specs.Str.{bytes_eq, is_utf8}
use Rattle.zw_base.specs.declared.stop.Place.{Place}
use Rattle.zw_base.specs.declared.stop.Stop.{Stop}
use Rattle.zw_token.specs.declared.token.Token.{Token}
use Rattle.zw_tree.specs.Numbering.{inside_first, siblings}
use Rattle.zw_tree.specs.Trees.{Forest, none, tree}
use Rattle.zw_tree.specs.declared.ast.Entry.{Entry}
use Rattle.zw_form.specs.Nodes.{member_of, body_nodes, is_unit}
use Rattle.zw_form.specs.Rules.{KeepsNames, KeepsSteps, is_reserved, name_of, externs_of, export_of}
use Rattle.zw_form.specs.Trees.{Tree, declaration_of}
use Rattle.zw_form.specs.declared.members.TheConstants.{NOT_BUILT, NODES, FRAME_WEIGHT, NODE_LIMIT, WEIGHT_LIMIT, PARAMETER_WEIGHT}
use Rattle.zw_form.specs.declared.source.Declaration.{Declaration}
use Rattle.zw_form.specs.declared.source.Declaration.TheVariants.{Extern, Export}

-- A member of a file that counts: where it begins, what it declares where it is of the form, the nodes of its body, how many nodes of bodies
-- stand before it, and the names of the functions that are declared before it.
pub record Member : Type 0 where
  pub place : Place
  pub declares : Option Tree
  pub nodes : List Entry
  pub nodes_before : ℕ
  pub names_before : List (List ℕ)

-- what a member declares, in steps
abbrev pub declared_by : Option Tree → List Declaration
declared_by declares = option_to_list (option_map declaration_of declares)

-- what is declared under names that none before has
abbrev pub new_among : List (List ℕ) → List Declaration → List Declaration
new_among names [] = []
new_among names (d ∷ ds) = if list_any (bytes_eq (name_of d)) names then new_among names ds else d ∷ new_among (names ++ name_of d ∷ []) ds

-- the names of functions behind a member, where these stand before it
abbrev pub names_behind : List (List ℕ) → Option Tree → List (List ℕ)
names_behind names declares = names ++ map name_of (new_among names (declared_by declares))

-- the place of the first root
abbrev pub place_in : Forest Entry → Place
place_in none = record { file = 0; line = 0; column = 0 }
place_in (tree root below behind) = root.node.place

-- A function of the host is declared where its name is UTF-8, and isn't of what a module exports beside functions.
abbrev pub is_named : Option Declaration → Bool
is_named None = false
is_named (Some d) = is_utf8 (name_of d) && not (is_reserved (name_of d))

-- A tree below the root of a file counts as a member where it is a unit, or declares a function of the host. Any other is
-- nothing to the form: it is no stop, and declares nothing.
abbrev pub counts : List ℕ → List Token → Forest Entry → Bool
counts text tokens t = is_unit t || is_named (option_map declaration_of (member_of text tokens t))

-- the members that the first of these trees each are, behind so many nodes and these names
abbrev pub members_behind : List ℕ → List Token → List (Forest Entry) → ℕ → List (List ℕ) → List Member
members_behind text tokens [] nodes names = []
members_behind text tokens (t ∷ ts) nodes names =
    record {
      place = place_in t;
      declares = member_of text tokens t;
      nodes = body_nodes t;
      nodes_before = nodes;
      names_before = names;
    } ∷ members_behind text tokens ts (nodes + length (body_nodes t)) (names_behind names (member_of text tokens t))

-- the members of a file with this tree: those trees that count
abbrev pub members_of : List ℕ → List Token → Forest Entry → List Member
members_of text tokens file = members_behind text tokens (filter (counts text tokens) (siblings (inside_first file))) 0 []

-- whether a declaration has a name that none before has
abbrev pub is_new : List (List ℕ) → Option Declaration → Bool
is_new names None = false
is_new names (Some d) = not (list_any (bytes_eq (name_of d)) names)

-- the functions of a file: of two of one name, the first
abbrev pub functions_of : List Member → List Declaration
functions_of members = new_among [] (flat_map (λ (m : Member). declared_by m.declares) members)

-- A member keeps the conditions among the functions of its file: it is of the form, has a name that none before it has, and keeps
-- the rules on names and on what it does.
pub record Keeps (functions : List Declaration) (m : Member) : Type 0 where
  pub declared : Tree
  pub declares : m.declares ≡ Some declared
  pub is_new : ¬ Contains m.names_before (name_of (declaration_of declared))
  pub names : KeepsNames (map name_of functions) (declaration_of declared)
  pub steps : All (KeepsSteps (externs_of functions)) (export_of (declaration_of declared))

-- a member that has no stop: with its nodes there are no more than there may be
pub record Passes (functions : List Declaration) (m : Member) : Type 0 where
  pub keeps : Keeps functions m
  pub few : m.nodes_before + length m.nodes ≤ NODE_LIMIT

-- the node past the number of those that there may be
pub record IsNodePast (m : Member) (stop : Stop) : Type 0 where
  pub node : Entry
  pub there : slice_get m.nodes (NODE_LIMIT - m.nodes_before) ≡ Some node
  pub told : stop ≡ record { kind = NODES; place = node.node.place }

-- the stop of a member: error 36 where it doesn't keep the conditions, and else limit 5 where it has such a node
abbrev pub IsMemberStop : List Declaration → Member → Stop → Type 0
IsMemberStop functions m stop =
    ((¬ Keeps functions m) × (stop ≡ record { kind = NOT_BUILT; place = m.place })) ⊎ (Keeps functions m × IsNodePast m stop)

-- the first member that has a stop, and the stop
pub record IsFirstStop (members : List Member) (stop : Stop) : Type 0 where
  pub passed : List Member
  pub member : Member
  pub others : List Member
  pub split : members ≡ passed ++ member ∷ others
  pub pass : All (Passes (functions_of members)) passed
  pub stops : IsMemberStop (functions_of members) member stop

-- the weight of the frame of an exported function
abbrev pub weight_of : Declaration → ℕ
weight_of (Extern f) = 0
weight_of (Export f) = PARAMETER_WEIGHT * length f.params

abbrev pub IsLight : Member → Type 0
IsLight m = All (λ (d : Declaration). weight_of d ≤ WEIGHT_LIMIT) (declared_by m.declares)

-- limit 11: no member has a stop, and this is the first whose weight is too great
pub record IsWeightStop (members : List Member) (stop : Stop) : Type 0 where
  pub all_pass : All (Passes (functions_of members)) members
  pub passed : List Member
  pub member : Member
  pub others : List Member
  pub split : members ≡ passed ++ member ∷ others
  pub light : All IsLight passed
  pub heavy : ¬ IsLight member
  pub told : stop ≡ record { kind = FRAME_WEIGHT; place = member.place }
