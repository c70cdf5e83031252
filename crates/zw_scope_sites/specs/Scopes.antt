-- Scopes: what surrounds each node of a tree: the names that are visible there, the labels, and what takes a `break`, a `return`
-- (Zig Language Reference 0.13.0, Shadowing, Blocks, Labeled while, defer).
use Rattle.std.specs.Prelude.{ℕ, suc, ◌+◌, Bool, true, false, not, ◌&&◌, ◌||◌, List, [], ◌∷◌, ◌++◌, Option, Some, None, if◌then◌else◌}
use Rattle.std.specs.List.{list_any}
use Rattle.std.specs.Str.{bytes_eq}
use Rattle.zw_scope_sites.specs.declared.lists.Binding.{Binding}
use Rattle.zw_scope_sites.specs.declared.lists.OpenLabel.{OpenLabel}
use Rattle.zw_tree.specs.Trees.{Forest, none, tree, count}
use Rattle.zw_tree.specs.declared.ast.Entry.{Entry}
use Rattle.zw_tree.specs.declared.kind.NodeKind.{NodeKind}
use Rattle.zw_tree.specs.declared.kind.NodeKind.TheVariants.{Root, Test, ComptimeBlock, Function, PubWord, ExportWord, ExternWord, NoinlineWord, InferredErrorsWord, Parameter, Const, Var, Field, Name, QuotedName, Identifier, QuotedIdentifier, FieldInit, Label, Capture, PointerCapture, Defer, ErrDefer, Block, Else, While, ContinueExpression, For, Struct, Enum, Union}

-- what surrounds a node: the visible names and the open labels, from the inside out; in how many deferred statements the innermost
-- loop stands, where there is one; whether a function or a test surrounds it, and how many deferred statements of that
pub record Scope : Type 0 where
  pub visible : List Binding
  pub labels : List OpenLabel
  pub loop : Option ℕ
  pub in_function : Bool
  pub defers : ℕ

abbrev pub nowhere : Scope
nowhere = record { visible = []; labels = []; loop = None; in_function = false; defers = 0 }

abbrev pub kind_of : Entry → NodeKind
kind_of entry = entry.node.kind

abbrev pub is_name : NodeKind → Bool
is_name Name = true
is_name QuotedName = true
is_name _ = false

abbrev pub is_unquoted : NodeKind → Bool
is_unquoted Name = true
is_unquoted Identifier = true
is_unquoted _ = false

abbrev pub is_identifier : NodeKind → Bool
is_identifier Identifier = true
is_identifier QuotedIdentifier = true
is_identifier _ = false

abbrev pub is_container : NodeKind → Bool
is_container Root = true
is_container Struct = true
is_container Enum = true
is_container Union = true
is_container _ = false

abbrev pub is_declaration : NodeKind → Bool
is_declaration Const = true
is_declaration Var = true
is_declaration Function = true
is_declaration _ = false

abbrev pub is_named_member : NodeKind → Bool
is_named_member Field = true
is_named_member kind = is_declaration kind

abbrev pub is_member : NodeKind → Bool
is_member Test = true
is_member ComptimeBlock = true
is_member Field = true
is_member kind = is_declaration kind

abbrev pub is_capture : NodeKind → Bool
is_capture Capture = true
is_capture PointerCapture = true
is_capture _ = false

abbrev pub is_variable : NodeKind → Bool
is_variable Const = true
is_variable Var = true
is_variable _ = false

abbrev pub is_parameter_kind : NodeKind → Bool
is_parameter_kind Parameter = true
is_parameter_kind _ = false

abbrev pub is_initialiser : NodeKind → Bool
is_initialiser FieldInit = true
is_initialiser _ = false

-- the name among the children of a node: `_` is none
abbrev pub name_in : Forest Entry → Option Entry
name_in none = None
name_in (tree root below behind) = if is_name (kind_of root) then Some root else name_in behind

abbrev pub is_label : NodeKind → Bool
is_label Label = true
is_label _ = false

-- a node with this parent stands in the head or is the body of a function
abbrev pub is_inside_function : Option NodeKind → Bool
is_inside_function (Some Function) = true
is_inside_function _ = false

-- what a label does where it stands: it names an open one, or opens one
abbrev pub opens_label : Option NodeKind → Bool
opens_label (Some Block) = true
opens_label (Some While) = true
opens_label (Some For) = true
opens_label _ = false

-- the label among the children of a node
abbrev pub label_in : Forest Entry → Option Entry
label_in none = None
label_in (tree root below behind) = if is_label (kind_of root) then name_in below else label_in behind

abbrev pub bound : ℕ → Bool → Option Entry → List Binding
bound node is_local None = []
bound node is_local (Some entry) = record { name = entry.name; node = node; is_local = is_local } ∷ []

-- what the members of a container declare, where the first of them has this number
abbrev pub declared : ℕ → Forest Entry → List Binding
declared n none = []
declared n (tree root below behind) =
    (if is_declaration (kind_of root) then bound n false (name_in below) else []) ++ declared (suc n + count below) behind

abbrev pub has_name : List ℕ → Binding → Bool
has_name name binding = bytes_eq binding.name name

abbrev pub binds : List Binding → List ℕ → Bool
binds bindings name = list_any (has_name name) bindings

abbrev pub is_visible_local : List ℕ → Binding → Bool
is_visible_local name binding = binding.is_local && has_name name binding

-- of two parameters of one function, or two captures of one form, with one name the second binds nothing
abbrev pub first_bound : List Binding → List Binding → List Binding
first_bound siblings [] = []
first_bound siblings (binding ∷ others) = if binds siblings binding.name then [] else binding ∷ []

-- what a child of this kind binds for those behind it below a parent that is no container
abbrev pub binds_local : NodeKind → ℕ → Forest Entry → List Binding → List Binding
binds_local Const n below siblings = bound n true (name_in below)
binds_local Var n below siblings = bound n true (name_in below)
binds_local Capture n below siblings = first_bound siblings (bound n true (name_in below))
binds_local PointerCapture n below siblings = first_bound siblings (bound n true (name_in below))
binds_local Parameter n below siblings = first_bound siblings (bound n true (name_in below))
binds_local _ n below siblings = []

abbrev pub is_inside_container : Option NodeKind → Bool
is_inside_container None = false
is_inside_container (Some parent) = is_container parent

abbrev pub labelled : Bool → Option Entry → Scope → Scope
labelled is_loop None scope = scope
labelled is_loop (Some entry) scope =
    record scope { labels = record { name = entry.name; is_loop = is_loop; defers = scope.defers } ∷ scope.labels }

-- The members of a container see its declarations. No label, loop or function outside is open for them.
abbrev pub in_container : List Binding → Scope → Scope
in_container declarations scope =
    record { visible = declarations ++ scope.visible; labels = []; loop = None; in_function = false; defers = 0 }

abbrev pub in_body : Scope → Scope
in_body scope = record { visible = scope.visible; labels = []; loop = None; in_function = true; defers = 0 }

abbrev pub in_loop : Option Entry → Scope → Scope
in_loop label scope = labelled true label (record scope { loop = Some scope.defers })

abbrev pub in_defer : Scope → Scope
in_defer scope = record scope { defers = suc scope.defers }

abbrev pub is_block : NodeKind → Bool
is_block Block = true
is_block _ = false

-- what stands in a function before the type of its result
abbrev pub is_before_result : NodeKind → Bool
is_before_result PubWord = true
is_before_result ExportWord = true
is_before_result ExternWord = true
is_before_result NoinlineWord = true
is_before_result Name = true
is_before_result QuotedName = true
is_before_result Parameter = true
is_before_result InferredErrorsWord = true
is_before_result _ = false

-- the last of a function's children, or of those behind a parameter, is the body: a block behind the type of the result
abbrev pub ends_in_body : Forest Entry → Bool
ends_in_body none = false
ends_in_body (tree root below none) = false
ends_in_body (tree root below (tree next inside none)) = not (is_before_result (kind_of root)) && is_block (kind_of next)
ends_in_body (tree root below (tree next inside (tree third within behind))) = ends_in_body (tree next inside (tree third within behind))

-- what surrounds the part of a form that it takes: the members of a container, the body of a function, a test or a loop, the
-- statements of a block, a deferred statement
abbrev pub taken_scope : NodeKind → ℕ → Forest Entry → Scope → Scope
taken_scope Root n below scope = in_container (declared (suc n) below) scope
taken_scope Struct n below scope = in_container (declared (suc n) below) scope
taken_scope Enum n below scope = in_container (declared (suc n) below) scope
taken_scope Union n below scope = in_container (declared (suc n) below) scope
taken_scope Function n below scope = if ends_in_body below then in_body scope else scope
taken_scope Test n below scope = in_body scope
taken_scope Block n below scope = labelled false (label_in below) scope
taken_scope While n below scope = in_loop (label_in below) scope
taken_scope For n below scope = in_loop (label_in below) scope
taken_scope Defer n below scope = in_defer scope
taken_scope ErrDefer n below scope = in_defer scope
taken_scope _ n below scope = scope

abbrev pub is_else : NodeKind → Bool
is_else Else = true
is_else _ = false

abbrev pub is_step : NodeKind → Bool
is_step ContinueExpression = true
is_step _ = false

-- nothing stands behind but an `else`
abbrev pub is_last : Forest Entry → Bool
is_last none = true
is_last (tree root below behind) = is_else (kind_of root)

abbrev pub is_loop_part : NodeKind → Forest Entry → Bool
is_loop_part kind behind = is_step kind || (not (is_else kind) && is_last behind)

-- a child of this kind, with these behind it, belongs to the part that the form takes
abbrev pub is_taken : NodeKind → NodeKind → Forest Entry → Bool
is_taken Root kind behind = is_member kind
is_taken Struct kind behind = is_member kind
is_taken Enum kind behind = is_member kind
is_taken Union kind behind = is_member kind
is_taken Function kind behind = is_block kind && is_last behind
is_taken Test kind behind = is_block kind
is_taken Block kind behind = not (is_label kind)
is_taken While kind behind = is_loop_part kind behind
is_taken For kind behind = is_loop_part kind behind
is_taken Defer kind behind = true
is_taken ErrDefer kind behind = true
is_taken _ kind behind = false

-- what surrounds the children of a node: the parent's kind, what surrounds the parent, what surrounds the part that it takes, and what
-- the children so far bind
pub record Around : Type 0 where
  pub parent : Option NodeKind
  pub plain : Scope
  pub taken : Scope
  pub siblings : List Binding

abbrev pub around_file : Around
around_file = record { parent = None; plain = nowhere; taken = nowhere; siblings = [] }

abbrev pub around_of : ℕ → Entry → Forest Entry → Scope → Around
around_of n root below scope =
    record { parent = Some (kind_of root); plain = scope; taken = taken_scope (kind_of root) n below scope; siblings = [] }

abbrev pub is_taken_by : Option NodeKind → NodeKind → Forest Entry → Bool
is_taken_by None kind behind = false
is_taken_by (Some parent) kind behind = is_taken parent kind behind

-- what surrounds a child without what its siblings bind
abbrev pub base_of : Around → NodeKind → Forest Entry → Scope
base_of around kind behind = if is_taken_by around.parent kind behind then around.taken else around.plain

abbrev pub seen : List Binding → Scope → Scope
seen siblings scope = record scope { visible = siblings ++ scope.visible }

-- an `else` sees no capture, and nothing that the statement before it binds
abbrev pub scope_of : Around → NodeKind → Forest Entry → Scope
scope_of around kind behind = if is_else kind then base_of around kind behind else seen around.siblings (base_of around kind behind)

abbrev pub behind_child : Around → ℕ → NodeKind → Forest Entry → Around
behind_child around n kind below =
    record around { siblings = (if is_inside_container around.parent then [] else binds_local kind n below around.siblings) ++ around.siblings }

-- a node where it stands: its number, what is below and behind it, its parent's kind, what surrounds it, and of that what its siblings bind
pub record Standing : Type 0 where
  pub node : ℕ
  pub entry : Entry
  pub below : Forest Entry
  pub behind : Forest Entry
  pub parent : Option NodeKind
  pub scope : Scope
  pub siblings : List Binding

abbrev pub stands : Around → ℕ → Entry → Forest Entry → Forest Entry → Standing
stands around n root below behind =
    record { node = n; entry = root; below = below; behind = behind; parent = around.parent; scope = scope_of around (kind_of root) behind; siblings = around.siblings }

-- all nodes of these trees in preorder, where the first one has this number
abbrev pub standing : Around → ℕ → Forest Entry → List Standing
standing around n none = []
standing around n (tree root below behind) =
    stands around n root below behind
    ∷ (standing (around_of n root below (scope_of around (kind_of root) behind)) (suc n) below
    ++ standing (behind_child around n (kind_of root) below) (suc n + count below) behind)

abbrev pub all_standing : Forest Entry → List Standing
all_standing forest = standing around_file 0 forest

-- the innermost binding of a name
abbrev pub innermost : List Binding → List ℕ → Option Binding
innermost [] name = None
innermost (binding ∷ others) name = if has_name name binding then Some binding else innermost others name

-- the innermost open label of a name
abbrev pub open_label : List OpenLabel → List ℕ → Option OpenLabel
open_label [] name = None
open_label (label ∷ others) name = if bytes_eq label.name name then Some label else open_label others name

abbrev pub is_open : List OpenLabel → List ℕ → Bool
is_open labels name = list_any (λ (label : OpenLabel). bytes_eq label.name name) labels
