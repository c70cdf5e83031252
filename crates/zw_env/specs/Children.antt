-- The tree of a node, and its children by what they are for.
use Rattle.std.specs.Prelude.{ℕ, suc, ◌+◌, Bool, true, false, nat_eq, List, [], ◌∷◌, if◌then◌else◌, Option, Some, None}
use Rattle.zw_base.specs.declared.stop.Place.{Place}
use Rattle.zw_tree.specs.Trees.{Forest, none, tree, count}
use Rattle.zw_tree.specs.Numbering.{from, first_root, inside_first, children}
use Rattle.zw_tree.specs.declared.ast.Entry.{Entry}
use Rattle.zw_tree.specs.declared.kind.NodeKind.{NodeKind}
use Rattle.zw_tree.specs.declared.kind.NodeKind.TheVariants as kind

-- ---- the tree of a node

-- the first tree alone
abbrev pub first_tree : Forest Entry → Forest Entry
first_tree none = none
first_tree (tree root inside behind) = tree root inside none

-- the tree of the node with this number
abbrev pub tree_at : Forest Entry → ℕ → Forest Entry
tree_at forest n = first_tree (from forest n)

-- the node with this number
abbrev pub entry_at : Forest Entry → ℕ → Option Entry
entry_at forest n = first_root (tree_at forest n)

-- the kind of the first root
abbrev pub kind_of : Forest Entry → NodeKind
kind_of here = elim (first_root here) [ None ↦ kind.Root | Some entry ↦ entry.node.kind ]

-- where the first root begins
abbrev pub place_of : Forest Entry → Place
place_of here = elim (first_root here) [ None ↦ record { file = 0; line = 1; column = 1 } | Some entry ↦ entry.node.place ]

-- ---- kinds of words

abbrev pub is_name : NodeKind → Bool
is_name kind.Name = true
is_name kind.QuotedName = true
is_name kind.Blank = true
is_name _ = false

-- names and words, which aren't visited
abbrev pub is_word : NodeKind → Bool
is_word kind.PubWord = true
is_word kind.ExportWord = true
is_word kind.ExternWord = true
is_word kind.NoinlineWord = true
is_word kind.ComptimeWord = true
is_word kind.InferredErrorsWord = true
is_word found = is_name found

abbrev pub is_export_word : NodeKind → Bool
is_export_word kind.ExportWord = true
is_export_word _ = false

abbrev pub is_extern_word : NodeKind → Bool
is_extern_word kind.ExternWord = true
is_extern_word _ = false

abbrev pub is_inferred_word : NodeKind → Bool
is_inferred_word kind.InferredErrorsWord = true
is_inferred_word _ = false

abbrev pub is_comptime_word : NodeKind → Bool
is_comptime_word kind.ComptimeWord = true
is_comptime_word _ = false

-- ---- what stands below the first root

-- whether one of the roots is of such a kind
abbrev pub any_is : (NodeKind → Bool) → Forest Entry → Bool
any_is is none = false
any_is is (tree root inside behind) = if is root.node.kind then true else any_is is behind

abbrev pub has : Forest Entry → (NodeKind → Bool) → Bool
has here is = any_is is (inside_first here)

-- the name that a declaration or parameter introduces
abbrev pub first_name : Forest Entry → List ℕ
first_name none = []
first_name (tree root inside behind) = if is_name root.node.kind then root.name else first_name behind

abbrev pub declared_name : Forest Entry → List ℕ
declared_name here = first_name (inside_first here)

-- ---- the children of the first root, which has a number

-- the trees from the root with this number on; none where no root has it
abbrev pub root_numbered : Forest Entry → ℕ → ℕ → Forest Entry
root_numbered none first n = none
root_numbered (tree root inside behind) first n =
    elim (nat_eq first n) [ true ↦ tree root inside behind | false ↦ root_numbered behind (suc (first + count inside)) n ]

-- the trees from a child of the first root on
abbrev pub child_tree : Forest Entry → ℕ → ℕ → Forest Entry
child_tree here n child = root_numbered (inside_first here) (suc n) child

-- the roots that are forms
abbrev pub form_roots : Forest Entry → ℕ → List ℕ
form_roots none first = []
form_roots (tree root inside behind) first =
    if is_word root.node.kind then form_roots behind (suc (first + count inside)) else first ∷ form_roots behind (suc (first + count inside))

-- the children of the first root that are forms, in order
abbrev pub forms_below : Forest Entry → ℕ → List ℕ
forms_below here n = form_roots (inside_first here) (suc n)

-- ---- the members of a file

abbrev pub members : Forest Entry → List ℕ
members forest = children forest 0

abbrev pub is_among : List ℕ → ℕ → Bool
is_among [] n = false
is_among (m ∷ ms) n = if nat_eq m n then true else is_among ms n

-- the name of the member with this number
abbrev pub member_name : Forest Entry → ℕ → List ℕ
member_name forest n = if is_among (members forest) n then declared_name (tree_at forest n) else []
