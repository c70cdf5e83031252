-- The slots of a tree that grows.
use Rattle.std.proofs.Common.{◌≡◌, ◌≢◌, ℕ, zero, suc, ◌<◌, ◌≤◌, ◌-◌, ◌^◌, ◌⊎◌, inl, inr, List, [], ◌∷◌, ◌++◌, length, Option, Some, None, slice_get, get_or, set, refl, sym, ap, ◌∙◌, subst, arith, length-append}
use Rattle.std.specs.Option.{option_map}
use Rattle.std.proofs.lemmas.Bool.{cases_eq, cases_lt}
use Rattle.std.proofs.lemmas.List.Sums.{fold-append}
use Rattle.std.proofs.lemmas.Option.{slice_get_within, slice_get-get_or}
use Rattle.zw_tree.specs.Trees.{Forest, none, tree, leaf, beside, count, preorder}
use Rattle.zw_tree.specs.Numbering.{node_at, children, parent}
use Rattle.zw_tree.specs.Growth.{under, grown, IsOpen, MayGrow}
use Rattle.zw_tree.specs.Slots.{grown_by, forest_of, IsSlot, AreSlots, with_child, adopted, adopted_by, joined}
use Rattle.zw_tree.specs.declared.ast.Entry.{Entry}
use Rattle.zw_tree.specs.declared.ast.Slot.{Slot}
use Rattle.zw_tree.proofs.Nodes.{count-preorder}
use Rattle.zw_tree.proofs.Growing.{count-under, preorder-under, parent-under-new, parent-under-other, children-under-new, children-under-same, children-under-other}

-- what the code writes for a child more
pub adopted-set : (slots : List Slot) (n child : ℕ) (slot : Slot) → n < length slots → set slots n (with_child child (get_or slots n slot)) ≡ adopted slots n child
adopted-set [] n child slot lt = refl
adopted-set (first ∷ slots) zero child slot lt = refl
adopted-set (first ∷ slots) (suc n) child slot lt = let less : n < length slots = omega arith in ap (λ list. first ∷ list) (adopted-set slots n child slot less)

-- a child more changes no entry and no parent
pub grown_by-adopted : (slots : List Slot) (n child : ℕ) (forest : Forest Entry) → grown_by forest (adopted slots n child) ≡ grown_by forest slots
grown_by-adopted [] n child forest = refl
grown_by-adopted (first ∷ slots) zero child forest = refl
grown_by-adopted (first ∷ slots) (suc n) child forest = grown_by-adopted slots n child (grown forest first.parent first.entry)

pub length-adopted : (slots : List Slot) (n child : ℕ) → length (adopted slots n child) ≡ length slots
length-adopted [] n child = refl
length-adopted (first ∷ slots) zero child = refl
length-adopted (first ∷ slots) (suc n) child = ap suc (length-adopted slots n child)

slice_get-adopted_same : (slots : List Slot) (n child : ℕ) → slice_get (adopted slots n child) n ≡ option_map (with_child child) (slice_get slots n)
slice_get-adopted_same [] n child = refl
slice_get-adopted_same (first ∷ slots) zero child = refl
slice_get-adopted_same (first ∷ slots) (suc n) child = slice_get-adopted_same slots n child

slice_get-adopted_other : (slots : List Slot) (n child m : ℕ) → m ≢ n → slice_get (adopted slots n child) m ≡ slice_get slots m
slice_get-adopted_other [] n child m ne = refl
slice_get-adopted_other (first ∷ slots) zero child zero ne = absurd (ne refl)
slice_get-adopted_other (first ∷ slots) zero child (suc m) ne = refl
slice_get-adopted_other (first ∷ slots) (suc n) child zero ne = refl
slice_get-adopted_other (first ∷ slots) (suc n) child (suc m) ne = slice_get-adopted_other slots n child m (λ e. ne (ap suc e))

module _ {X : Type 0} where
  slice_get-front : (xs : List X) (x : X) (m : ℕ) → m < length xs → slice_get (xs ++ x ∷ []) m ≡ slice_get xs m
  slice_get-front [] x m lt = absurd (omega arith)
  slice_get-front (y ∷ xs) x zero lt = refl
  slice_get-front (y ∷ xs) x (suc m) lt = slice_get-front xs x m (omega arith)

  slice_get-end : (xs : List X) (x : X) → slice_get (xs ++ x ∷ []) (length xs) ≡ Some x
  slice_get-end [] x = refl
  slice_get-end (y ∷ xs) x = slice_get-end xs x

-- the forest grows by the node
pub forest_of-joined : (slots : List Slot) (slot : Slot) → forest_of (joined slots slot) ≡ grown (forest_of slots) slot.parent slot.entry
forest_of-joined slots slot = by slot.parent ∙ fold-append _ none slots (slot ∷ [])
  where
    by : (parent : Option ℕ) → forest_of (adopted_by (slots ++ slot ∷ []) parent (length slots)) ≡ forest_of (slots ++ slot ∷ [])
    by None = refl
    by (Some n) = grown_by-adopted (slots ++ slot ∷ []) n (length slots) none

pub length-joined : (slots : List Slot) (slot : Slot) → length (joined slots slot) ≡ suc (length slots)
length-joined slots slot = by slot.parent ∙ more
  where
    by : (parent : Option ℕ) → length (adopted_by (slots ++ slot ∷ []) parent (length slots)) ≡ length (slots ++ slot ∷ [])
    by None = refl
    by (Some n) = length-adopted (slots ++ slot ∷ []) n (length slots)

    more : length (slots ++ slot ∷ []) ≡ suc (length slots)
    more = omega (arith, length-append slots (slot ∷ []))

-- the code writes the parent's slot anew
pub joined-set : (slots all : List Slot) (slot at : Slot) (n child : ℕ) (children : List ℕ) → all ≡ slots ++ slot ∷ [] → slot.parent ≡ Some n → n < length slots → at ≡ get_or all n at → children ≡ at.children ++ child ∷ [] → child ≡ length slots → set all n (record { entry = at.entry; parent = at.parent; children = children }) ≡ joined slots slot
joined-set slots all slot at n child children is parent lt found more number =
    ap (λ list. set all n (record { entry = at.entry; parent = at.parent; children = list })) more
    ∙ ap (λ (s : Slot). set all n (with_child child s)) found
    ∙ adopted-set all n child at within
    ∙ ap (λ list. adopted list n child) is
    ∙ ap (λ k. adopted (slots ++ slot ∷ []) n k) number
    ∙ sym (ap (λ o. adopted_by (slots ++ slot ∷ []) o (length slots)) parent)
  where
    within : n < length all
    within = rw is (omega (arith, length-append slots (slot ∷ [])))

-- the first node
AreSlots-first : (slots : List Slot) (forest : Forest Entry) (slot : Slot) → AreSlots slots forest → count forest ≡ 0 → slot.parent ≡ None → slot.children ≡ [] → AreSlots (slots ++ slot ∷ []) (beside forest (leaf slot.entry))
AreSlots-first [] none slot are empty parent children = record { sized = refl; each = at }
  where
    at : (n : ℕ) (other : Slot) → slice_get (slot ∷ []) n ≡ Some other → IsSlot (leaf slot.entry) n other
    at zero other is = let same : slot ≡ other = cc in subst (λ s. IsSlot (leaf slot.entry) zero s) same (record { entry = refl; parent = parent; children = children })
    at (suc n) other is = cc
AreSlots-first [] (tree root inside behind) slot are empty parent children = absurd (omega arith)
AreSlots-first (first ∷ slots) none slot are empty parent children = let sized = are.sized in absurd (omega arith)
AreSlots-first (first ∷ slots) (tree root inside behind) slot are empty parent children = absurd (omega arith)

-- each other one
module _ (slots : List Slot) (forest : Forest Entry) (slot : Slot) (n : ℕ) (are : AreSlots slots forest) (open_ : IsOpen forest n) (parent_is : slot.parent ≡ Some n) (no_children : slot.children ≡ []) where
  abbrev grows : Forest Entry
  grows = under forest n slot.entry

  n_within : n < length slots
  n_within = omega (arith, open_.within, are.sized)

  node_at-old : (m : ℕ) → m < length slots → node_at grows m ≡ node_at forest m
  node_at-old m lt =
      let fits : m < length (preorder forest) = omega (arith, are.sized, count-preorder forest) in
      rw (preorder-under slot.entry forest n open_) (slice_get-front (preorder forest) slot.entry m fits)

  old_slot : (m : ℕ) (other : Slot) → m < length slots → m ≢ n → IsSlot forest m other → IsSlot grows m other
  old_slot m other lt ne is =
      let fits : m < count forest = omega (arith, are.sized) in
      record {
        entry = node_at-old m lt ∙ is.entry;
        parent = is.parent ∙ sym (parent-under-other slot.entry forest n open_ m fits);
        children = is.children ∙ sym (children-under-other slot.entry forest n open_ m fits ne (suc m));
      }

  parent_slot : (other : Slot) → IsSlot forest n other → IsSlot grows n (with_child (length slots) other)
  parent_slot other is = record {
    entry = node_at-old n n_within ∙ is.entry;
    parent = is.parent ∙ sym (parent-under-other slot.entry forest n open_ n open_.within);
    children = rw (is.children, are.sized) (sym (children-under-same slot.entry forest n open_));
  }

  new_slot : IsSlot grows (length slots) slot
  new_slot = rw are.sized (record {
    entry = rw (preorder-under slot.entry forest n open_, ← count-preorder forest) (slice_get-end (preorder forest) slot.entry);
    parent = parent_is ∙ sym (parent-under-new slot.entry forest n open_);
    children = no_children ∙ sym (children-under-new slot.entry forest n open_);
  })

  slot_at : (m : ℕ) (other : Slot) → slice_get (adopted (slots ++ slot ∷ []) n (length slots)) m ≡ Some other → (m ≡ n) ⊎ (m ≢ n) → (m < length slots) ⊎ (length slots ≤ m) → IsSlot grows m other
  slot_at m other is (inl same) side =
      let old : Slot = get_or slots n slot in
      let found : slice_get slots n ≡ Some old = slice_get-get_or slots n slot n_within in
      let now = slice_get-adopted_same (slots ++ slot ∷ []) n (length slots) ∙ ap (option_map (with_child (length slots))) (slice_get-front slots slot n n_within ∙ found) in
      let here = rw same at is in
      let it : with_child (length slots) old ≡ other = cc in
      rw same (subst (λ s. IsSlot grows n s) it (parent_slot old (are.each n old found)))
  slot_at m other is (inr ne) (inl lt) =
      let now = slice_get-adopted_other (slots ++ slot ∷ []) n (length slots) m ne ∙ slice_get-front slots slot m lt in
      old_slot m other lt ne (are.each m other (sym now ∙ is))
  slot_at m other is (inr ne) (inr ge) =
      let within = slice_get_within (adopted (slots ++ slot ∷ []) n (length slots)) m other is in
      let long = length-adopted (slots ++ slot ∷ []) n (length slots) in
      let longer = length-append slots (slot ∷ []) in
      let e : m ≡ length slots = omega arith in
      let now = slice_get-adopted_other (slots ++ slot ∷ []) n (length slots) m ne ∙ ap (slice_get (slots ++ slot ∷ [])) e ∙ slice_get-end slots slot in
      let it : slot ≡ other = cc in
      rw e (subst (λ s. IsSlot grows (length slots) s) it new_slot)

  AreSlots-under : AreSlots (adopted (slots ++ slot ∷ []) n (length slots)) grows
  AreSlots-under = record {
    sized = omega (arith, length-adopted (slots ++ slot ∷ []) n (length slots), length-append slots (slot ∷ []), are.sized, count-under slot.entry forest n open_.within);
    each = λ m other is. slot_at m other is (cases_eq m n) (cases_lt m (length slots));
  }

AreSlots-grown : (slots : List Slot) (forest : Forest Entry) (slot : Slot) (parent : Option ℕ) → AreSlots slots forest → MayGrow forest parent → slot.parent ≡ parent → slot.children ≡ [] → AreSlots (adopted_by (slots ++ slot ∷ []) parent (length slots)) (grown forest parent slot.entry)
AreSlots-grown slots forest slot None are grows parent children = AreSlots-first slots forest slot are grows parent children
AreSlots-grown slots forest slot (Some n) are grows parent children = AreSlots-under slots forest slot n are grows parent children

pub AreSlots-joined : (slots : List Slot) (slot : Slot) → AreSlots slots (forest_of slots) → MayGrow (forest_of slots) slot.parent → slot.children ≡ [] → AreSlots (joined slots slot) (forest_of (joined slots slot))
AreSlots-joined slots slot are grows children = rw (forest_of-joined slots slot) (AreSlots-grown slots (forest_of slots) slot slot.parent are grows refl children)

-- what the slots are after a node more
pub one-more : (before after : List Slot) (slot : Slot) (forest : Forest Entry) → forest ≡ forest_of before → AreSlots before (forest_of before) → count forest < 2 ^ 32 - 1 → MayGrow forest slot.parent → slot.children ≡ [] → after ≡ joined before slot → AreSlots after (forest_of after) × (length after < 2 ^ 32)
one-more before after slot forest is are room grows children now =
    rw now (AreSlots-joined before slot are (subst (λ f. MayGrow f slot.parent) is grows) children, omega (arith, length-joined before slot, are.sized, ap count is))
