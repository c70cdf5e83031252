-- The imports of a file, in the order of the text (Zig Language Reference 0.13.0, @import).
use Rattle.std.specs.Prelude.{ℕ, suc, Bool, true, false, ◌&&◌, List, [], ◌∷◌, ◌++◌, codes, if◌then◌else◌}
use Rattle.std.specs.Str.{bytes_eq}
use Rattle.zw_base.specs.declared.stop.Place.{Place}
use Rattle.zw_tree.specs.Trees.{Forest, preorder}
use Rattle.zw_tree.specs.declared.ast.Entry.{Entry}
use Rattle.zw_tree.specs.declared.kind.NodeKind.{NodeKind}
use Rattle.zw_tree.specs.declared.kind.NodeKind.TheVariants as kind

-- an import: the number of its node, and what its literal stands for, with the place of that
pub record Import : Type 0 where
  pub node : ℕ
  pub literal : List ℕ
  pub place : Place

abbrev pub is_builtin : NodeKind → Bool
is_builtin kind.Builtin = true
is_builtin _ = false

abbrev pub is_import : Entry → Bool
is_import entry = is_builtin entry.node.kind && bytes_eq entry.name (codes "import")

abbrev pub import_at : ℕ → Entry → Entry → List Import
import_at n entry next = if is_import entry then record { node = n; literal = next.name; place = next.node.place } ∷ [] else []

-- the imports among nodes in preorder, of which the first has this number: the literal is the node behind, since an import has
-- nothing else below it
abbrev pub imports_from : ℕ → List Entry → List Import
imports_from n [] = []
imports_from n (entry ∷ []) = []
imports_from n (entry ∷ (next ∷ entries)) = import_at n entry next ++ imports_from (suc n) (next ∷ entries)

abbrev pub imports : Forest Entry → List Import
imports file = imports_from 0 (preorder file)
