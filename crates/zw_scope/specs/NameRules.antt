-- NameRules: which names, labels and jumps of a tree break a rule, and the first one that does (Zig Language Reference 0.13.0,
-- Identifiers, Shadowing, Blocks, Labeled while, defer; that locals are mentioned is this project's own rule as Zig's compiler has it).
use Rattle.std.specs.Prelude.{◌≡◌, ◌⊎◌, ℕ, ◌<◌, ◌≤◌, Bool, true, false, not, ◌&&◌, ◌||◌, nat_eq, All, Contains, List, [], ◌∷◌, ◌++◌, Option, Some, None, if◌then◌else◌}
use Rattle.std.specs.List.{list_any, flat_map}
use Rattle.std.specs.Str.{bytes_eq}
use Rattle.zw_base.specs.declared.stop.Stop.{Stop}
use Rattle.zw_base.specs.declared.stop.StopKind.TheVariants.{Error}
use Rattle.zw_token.specs.Names.{is_primitive}
use Rattle.zw_tree.specs.Trees.{Forest, none, tree}
use Rattle.zw_tree.specs.declared.ast.Entry.{Entry}
use Rattle.zw_tree.specs.declared.kind.NodeKind.{NodeKind}
use Rattle.zw_tree.specs.declared.kind.NodeKind.TheVariants.{Function, Break, Continue, Return, Try, StructLiteral, AnonymousStruct, ErrorSet, Struct, Enum, Union, Root}
use Rattle.zw_scope_sites.specs.declared.lists.Binding.{Binding}
use Rattle.zw_scope_sites.specs.declared.lists.OpenLabel.{OpenLabel}
use Rattle.zw_scope_sites.specs.Scopes.{Scope, Standing, kind_of, is_name, is_capture, is_label, is_variable, is_inside_container, is_declaration, name_in, label_in, binds, innermost, all_standing, is_unquoted, is_parameter_kind, is_identifier, is_named_member, is_initialiser, is_visible_local, ends_in_body, is_inside_function, open_label, is_open, opens_label}

-- a broken rule: the number of the error, and the node at which it is told
pub record Violation : Type 0 where
  pub error : ℕ
  pub at : Entry

abbrev pub told : Bool → ℕ → Entry → List Violation
told false error at = []
told true error at = record { error = error; at = at } ∷ []

abbrev pub told_at_name : Bool → ℕ → Option Entry → List Violation
told_at_name broken error None = []
told_at_name broken error (Some name) = told broken error name

-- the name is written without quotes, and is that of a primitive
abbrev pub names_primitive : Entry → Bool
names_primitive entry = is_unquoted (kind_of entry) && is_primitive entry.name

abbrev pub is_parameter : Standing → Bool
is_parameter s = is_parameter_kind (kind_of s.entry)

-- a local constant or variable, a parameter or a capture
abbrev pub is_local : Standing → Bool
is_local s =
    is_parameter s || is_capture (kind_of s.entry) || (is_variable (kind_of s.entry) && not (is_inside_container s.parent))

-- a parameter with the name of an earlier one
abbrev pub is_repeated : Standing → List ℕ → Bool
is_repeated s name = is_parameter s && binds s.siblings name

-- a declaration of a container
abbrev pub is_declared : Standing → Bool
is_declared s = is_inside_container s.parent && is_declaration (kind_of s.entry)

-- Shadow (error 8): a local has the name of what is visible, or of a primitive; a declaration has that of a visible local, or of a
-- primitive. Two parameters of one function are told as repeated alone.
abbrev pub is_shadow : Standing → Entry → Bool
is_shadow s name =
    names_primitive name
    || (is_local s && not (is_repeated s name.name) && binds s.scope.visible name.name)
    || (is_declared s && list_any (is_visible_local name.name) s.scope.visible)

abbrev pub shadow_at : Standing → Option Entry → List Violation
shadow_at s None = []
shadow_at s (Some name) = told (is_shadow s name) 8 name

abbrev pub shadows : Standing → List Violation
shadows s = if is_local s || is_declared s then shadow_at s (name_in s.below) else []

-- what an identifier names, which is no primitive
abbrev pub named_by : Standing → Option Binding
named_by s = if names_primitive s.entry then None else innermost s.scope.visible s.entry.name

abbrev pub is_nothing : Option Binding → Bool
is_nothing None = true
is_nothing (Some binding) = false

-- UnknownName (error 9): an identifier names nothing visible
abbrev pub unknowns : Standing → List Violation
unknowns s = told (is_identifier (kind_of s.entry) && not (names_primitive s.entry) && is_nothing (named_by s)) 9 s.entry

abbrev pub node_named : Option Binding → List ℕ
node_named None = []
node_named (Some binding) = binding.node ∷ []

-- the nodes that are mentioned
abbrev pub mentioned_by : Standing → List ℕ
mentioned_by s = if is_identifier (kind_of s.entry) then node_named (named_by s) else []

abbrev pub mentioned : List Standing → List ℕ
mentioned all = flat_map mentioned_by all

abbrev pub is_mentioned : List ℕ → ℕ → Bool
is_mentioned nodes node = list_any (nat_eq node) nodes

-- the function that a parameter stands in has a body
abbrev pub has_body : Standing → Bool
has_body s = is_inside_function s.parent && ends_in_body s.behind

-- a local that has to be mentioned: a parameter only where its function has a body
abbrev pub is_to_be_mentioned : Standing → Bool
is_to_be_mentioned s = is_local s && (not (is_parameter s) || has_body s)

-- Unused (error 10): a local is never mentioned
abbrev pub unused_at : List ℕ → Standing → Option Entry → List Violation
unused_at nodes s None = []
unused_at nodes s (Some name) = told (not (is_repeated s name.name) && not (is_mentioned nodes s.node)) 10 name

abbrev pub unused : List ℕ → Standing → List Violation
unused nodes s = if is_to_be_mentioned s then unused_at nodes s (name_in s.below) else []

-- the names of the children of one of these kinds
abbrev pub listed : Option Entry → List Entry
listed None = []
listed (Some entry) = entry ∷ []

abbrev pub names_of : (NodeKind → Bool) → Forest Entry → List Entry
names_of is_kind none = []
names_of is_kind (tree root below behind) = (if is_kind (kind_of root) then listed (name_in below) else []) ++ names_of is_kind behind

abbrev pub own_names : Forest Entry → List Entry
own_names none = []
own_names (tree root below behind) = (if is_name (kind_of root) then root ∷ [] else []) ++ own_names behind

-- the names that a form may have once each
abbrev pub names_once : NodeKind → Forest Entry → List Entry
names_once Root below = names_of is_named_member below
names_once Struct below = names_of is_named_member below
names_once Enum below = names_of is_named_member below
names_once Union below = names_of is_named_member below
names_once Function below = names_of is_parameter_kind below
names_once StructLiteral below = names_of is_initialiser below
names_once AnonymousStruct below = names_of is_initialiser below
names_once ErrorSet below = own_names below
names_once _ below = []

-- Duplicate (error 11): a name that an earlier one of the same form has
abbrev pub repeated : List (List ℕ) → List Entry → List Violation
repeated before [] = []
repeated before (entry ∷ others) = told (list_any (bytes_eq entry.name) before) 11 entry ++ repeated (entry.name ∷ before) others

abbrev pub duplicates : Standing → List Violation
duplicates s = repeated [] (names_once (kind_of s.entry) s.below)

-- Label (error 12): a label that isn't open is named, or one that is open is opened once more
abbrev pub breaks_label_rule : Bool → Bool → Bool
breaks_label_rule true is_open = is_open
breaks_label_rule false is_open = not is_open

abbrev pub label_at : Standing → Option Entry → List Violation
label_at s None = []
label_at s (Some name) = told (breaks_label_rule (opens_label s.parent) (is_open s.scope.labels name.name)) 12 name

abbrev pub labels : Standing → List Violation
labels s = if is_label (kind_of s.entry) then label_at s (name_in s.below) else []

abbrev pub is_here : ℕ → Option ℕ → Bool
is_here defers None = false
is_here defers (Some other) = nat_eq other defers

-- the innermost loop takes a jump: it doesn't leave a deferred statement
abbrev pub loop_takes : Scope → Bool
loop_takes scope = is_here scope.defers scope.loop

abbrev pub label_takes : Bool → ℕ → Option OpenLabel → Bool
label_takes wants_loop defers None = true
label_takes wants_loop defers (Some label) = nat_eq label.defers defers && (label.is_loop || not wants_loop)

-- the target of a `break`, or of a `continue`, which wants a loop, takes it; a label that isn't there is told at the label alone
abbrev pub takes_jump : Bool → Scope → Option Entry → Bool
takes_jump wants_loop scope None = loop_takes scope
takes_jump wants_loop scope (Some label) = label_takes wants_loop scope.defers (open_label scope.labels label.name)

-- a function or a test takes a `return` or a `try` that doesn't leave a deferred statement
abbrev pub takes_return : Scope → Bool
takes_return scope = scope.in_function && nat_eq scope.defers 0

-- what surrounds a form of this kind takes where it goes, if it goes anywhere
abbrev pub takes : Scope → Forest Entry → NodeKind → Bool
takes scope below Break = takes_jump false scope (label_in below)
takes scope below Continue = takes_jump true scope (label_in below)
takes scope below Return = takes_return scope
takes scope below Try = takes_return scope
takes scope below _ = true

-- FlowPlace (error 13): nothing takes a jump, or it leaves a deferred statement
abbrev pub flows : Standing → List Violation
flows s = told (not (takes s.scope s.below (kind_of s.entry))) 13 s.entry

-- all broken rules of a tree
abbrev pub violations_at : List ℕ → Standing → List Violation
violations_at nodes s = shadows s ++ unknowns s ++ unused nodes s ++ duplicates s ++ labels s ++ flows s

abbrev pub violations_among : List Standing → List Violation
violations_among all = flat_map (violations_at (mentioned all)) all

abbrev pub violations : Forest Entry → List Violation
violations forest = violations_among (all_standing forest)

-- one violation isn't behind another: its token is earlier, or the same one and its number isn't greater
abbrev pub NotBehind : Violation → Violation → Type 0
NotBehind v other = (v.at.node.first < other.at.node.first) ⊎ ((v.at.node.first ≡ other.at.node.first) × (v.error ≤ other.error))

-- the first violation by place, and at one place by number
pub record IsFirstViolation (forest : Forest Entry) (v : Violation) : Type 0 where
  pub broken : Contains (violations forest) v
  pub first : All (NotBehind v) (violations forest)

-- the stop of a tree by its names
abbrev pub IsNameStop : Forest Entry → Stop → Type 0
IsNameStop forest stop =
    (v : Violation) × IsFirstViolation forest v × (stop ≡ record { kind = Error v.error; place = v.at.node.place })

-- the names of a tree keep all rules
abbrev pub AreNamed : Forest Entry → Type 0
AreNamed forest = violations forest ≡ []
