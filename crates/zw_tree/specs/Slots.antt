-- A tree as a list of nodes, each with the numbers of its parent and of its children.
use Rattle.std.specs.Prelude.{◌≡◌, ℕ, zero, suc, List, [], ◌∷◌, ◌++◌, length, slice_get, Option, Some, None}
use Rattle.std.specs.List.{fold}
use Rattle.zw_tree.specs.Growth.{grown}
use Rattle.zw_tree.specs.Numbering.{node_at, children, parent}
use Rattle.zw_tree.specs.Trees.{Forest, none, count}
use Rattle.zw_tree.specs.declared.ast.Entry.{Entry}
use Rattle.zw_tree.specs.declared.ast.Slot.{Slot}

-- the forest that grows by these nodes, each below its parent
abbrev pub grown_by : Forest Entry → List Slot → Forest Entry
grown_by forest slots = fold (λ (so_far : Forest Entry) (slot : Slot). grown so_far slot.parent slot.entry) forest slots

abbrev pub forest_of : List Slot → Forest Entry
forest_of slots = grown_by none slots

-- the slot is that of the node with this number
pub record IsSlot (forest : Forest Entry) (n : ℕ) (slot : Slot) : Type 0 where
  pub entry : node_at forest n ≡ Some slot.entry
  pub parent : slot.parent ≡ parent forest n
  pub children : slot.children ≡ children forest n

-- the slots are those of the forest's nodes, in preorder
pub record AreSlots (slots : List Slot) (forest : Forest Entry) : Type 0 where
  pub sized : length slots ≡ count forest
  pub each : (n : ℕ) (slot : Slot) → slice_get slots n ≡ Some slot → IsSlot forest n slot

-- a node with one more child, behind its others
abbrev pub with_child : ℕ → Slot → Slot
with_child child slot = record slot { children = slot.children ++ child ∷ [] }

-- the node with this number has one more child
abbrev pub adopted : List Slot → ℕ → ℕ → List Slot
adopted [] n child = []
adopted (slot ∷ slots) zero child = with_child child slot ∷ slots
adopted (slot ∷ slots) (suc n) child = slot ∷ adopted slots n child

abbrev pub adopted_by : List Slot → Option ℕ → ℕ → List Slot
adopted_by slots None child = slots
adopted_by slots (Some n) child = adopted slots n child

-- one node more, behind all others and among the children of its parent
abbrev pub joined : List Slot → Slot → List Slot
joined slots slot = adopted_by (slots ++ slot ∷ []) slot.parent (length slots)
