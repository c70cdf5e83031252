-- What a node says, by its number.
use Rattle.std.proofs.Common.{◌≡◌, ℕ, zero, suc, ◌+◌, ◌<◌, ◌≤◌, List, [], Option, Some, None, MatchOption, Bool, true, false, not, ◌&&◌, length, slice_get, get_or, add-one, ◌-◌, refl, sym, ap, ◌∙◌, subst, arith}
use Rattle.std.specs.Option.{option_map}
use Rattle.std.proofs.lemmas.Option.{slice_get_past, slice_get-get_or}
use Rattle.zw_tree.specs.Trees.{Forest, none, tree, count}
use Rattle.zw_tree.specs.Numbering.{from, first_root, inside_first, node_at, below, roots, children, after, behind_first}
use Rattle.zw_tree.specs.declared.ast.Entry.{Entry}
use Rattle.zw_tree.specs.declared.ast.Node.{Node}
use Rattle.zw_tree.proofs.Subtrees.{node-root}
use Rattle.zw_scope_sites.specs.Firsts.{kind_at, text_at, token_at}
use Rattle.zw_scope_sites.specs.Scopes.{ends_in_body, is_before_result, is_block, is_label, is_name, kind_of, label_in, name_in}
use Rattle.zw_tree.specs.declared.kind.NodeKind.{NodeKind}
use Rattle.zw_tree.specs.declared.kind.NodeKind.TheVariants.{Unreachable}
use Rattle.zw_tree.proofs.Standing.{Stands, from-past, from-there, inside-past, child-stands, below-stands, stands-behind}

root-kind : (f : Forest Entry) (node : Node) → option_map (λ (e : Entry). e.node) (first_root f) ≡ Some node → node.kind ≡ kind_at f
root-kind none node h = absurd (cc)
root-kind (tree root below behind) node h = let same : root.node ≡ node = cc in ap (λ (n : Node). n.kind) (sym same)

root-token : (f : Forest Entry) (node : Node) → option_map (λ (e : Entry). e.node) (first_root f) ≡ Some node → node.first ≡ token_at f
root-token none node h = absurd (cc)
root-token (tree root below behind) node h = let same : root.node ≡ node = cc in ap (λ (n : Node). n.first) (sym same)

root-text : (f : Forest Entry) (name : List ℕ) → option_map (λ (e : Entry). e.name) (first_root f) ≡ Some name → name ≡ text_at f
root-text none name h = absurd (cc)
root-text (tree root below behind) name h = cc

module _ (forest : Forest Entry) (n : ℕ) where
  pub kind-is : n < count forest → (node : Node) → option_map (λ (e : Entry). e.node) (node_at forest n) ≡ Some node → node.kind ≡ kind_at (from forest n)
  kind-is lt node h = root-kind (from forest n) node (ap (option_map (λ (e : Entry). e.node)) (sym (node-root forest n lt)) ∙ h)

  pub token-is : n < count forest → (node : Node) → option_map (λ (e : Entry). e.node) (node_at forest n) ≡ Some node → node.first ≡ token_at (from forest n)
  token-is lt node h = root-token (from forest n) node (ap (option_map (λ (e : Entry). e.node)) (sym (node-root forest n lt)) ∙ h)

  pub text-is : n < count forest → (name : List ℕ) → option_map (λ (e : Entry). e.name) (node_at forest n) ≡ Some name → name ≡ text_at (from forest n)
  text-is lt name h = root-text (from forest n) name (ap (option_map (λ (e : Entry). e.name)) (sym (node-root forest n lt)) ∙ h)

  -- a number past the last node says nothing
  pub kind-past : count forest ≤ n → Unreachable ≡ kind_at (from forest n)
  kind-past past = ap kind_at (sym (from-past forest n past))

  pub token-past : count forest ≤ n → 0 ≡ token_at (from forest n)
  token-past past = ap token_at (sym (from-past forest n past))

  pub text-past : count forest ≤ n → [] ≡ text_at (from forest n)
  text-past past = ap text_at (sym (from-past forest n past))

  pub children-past : count forest ≤ n → [] ≡ children forest n
  children-past past = ap (λ f. roots f (suc n)) (sym (inside-past forest n past))

pub after-suc : {A : Type 0} (i : ℕ) (f : Forest A) → after (suc i) f ≡ behind_first (after i f)
after-suc zero f = refl
after-suc (suc i) f = after-suc i (behind_first f)

-- the child of an index: the trees from it on
pub record IsChildAt (forest : Forest Entry) (n i c : ℕ) : Type 0 where
  pub root : Entry
  pub inside : Forest Entry
  pub behind : Forest Entry
  pub here : after i (below forest n) ≡ tree root inside behind
  pub from_here : from forest c ≡ tree root inside behind
  pub next : after (suc i) (below forest n) ≡ behind

child-parts : (forest : Forest Entry) (n i c : ℕ) → (f : Forest Entry) → f ≡ after i (below forest n) → from forest c ≡ f → 0 < count f → IsChildAt forest n i c
child-parts forest n i c none is at some = absurd (omega arith)
child-parts forest n i c (tree root inside behind) is at some = record { root = root; inside = inside; behind = behind; here = sym is; from_here = at; next = after-suc i (below forest n) ∙ ap behind_first (sym is) }

module _ (forest : Forest Entry) (n i c : ℕ) (at : slice_get (children forest n) i ≡ Some c) where
  stands-child : (from forest c ≡ after i (below forest n)) × (0 < count (from forest c))
  stands-child = rw at at (child-stands forest (below forest n) (suc n) i (below-stands forest n))

  pub child-at : IsChildAt forest n i c
  child-at = child-parts forest n i c (from forest c) stands-child.0 refl stands-child.1

  pub child-within : c < count forest
  child-within = from-there forest c stands-child.1

-- the item of a loop over the children
pub item-at : (xs : List ℕ) (i x : ℕ) → i < length xs → x ≡ get_or xs i x → slice_get xs i ≡ Some x
item-at xs i x within is = slice_get-get_or xs i x within ∙ ap Some (sym is)

-- behind the last child nothing stands
pub children-end : (forest : Forest Entry) (n i : ℕ) → length (children forest n) ≤ i → after i (below forest n) ≡ none
children-end forest n i past = rw (slice_get_past (children forest n) i past) at (child-stands forest (below forest n) (suc n) i (below-stands forest n))

-- the name among children, from an index on
module _ (forest : Forest Entry) (n i c : ℕ) (child : IsChildAt forest n i c) where
  pub name-there : is_name (kind_at (from forest c)) ≡ true → name_in (after i (below forest n)) ≡ first_root (from forest c)
  name-there is =
      let named = ap (λ f. is_name (kind_at f)) (sym child.from_here) ∙ is in
      ap name_in child.here ∙ rw named refl ∙ ap first_root (sym child.from_here)

  pub name-not : is_name (kind_at (from forest c)) ≡ false → name_in (after (suc i) (below forest n)) ≡ name_in (after i (below forest n))
  name-not is =
      let named = ap (λ f. is_name (kind_at f)) (sym child.from_here) ∙ is in
      ap name_in child.next ∙ sym (ap name_in child.here ∙ rw named refl)

  pub label-there : is_label (kind_at (from forest c)) ≡ true → label_in (after i (below forest n)) ≡ name_in (below forest c)
  label-there is =
      let named = ap (λ f. is_label (kind_at f)) (sym child.from_here) ∙ is in
      ap label_in child.here ∙ rw named refl ∙ ap (λ f. name_in (inside_first f)) (sym child.from_here)

  pub label-not : is_label (kind_at (from forest c)) ≡ false → label_in (after (suc i) (below forest n)) ≡ label_in (after i (below forest n))
  label-not is =
      let named = ap (λ f. is_label (kind_at f)) (sym child.from_here) ∙ is in
      ap label_in child.next ∙ sym (ap label_in child.here ∙ rw named refl)

module _ (forest : Forest Entry) (n : ℕ) (items : List ℕ) (are : items ≡ children forest n) (i : ℕ) (within : i < length items) where
  -- the child of a loop over the children
  pub child-item : slice_get (children forest n) i ≡ Some (get_or items i 0)
  child-item = ap (λ (xs : List ℕ). slice_get xs i) (sym are) ∙ slice_get-get_or items i 0 within

  item-child : IsChildAt forest n i (get_or items i 0)
  item-child = child-at forest n i (get_or items i 0) child-item

  pub item-within : get_or items i 0 < count forest
  item-within = child-within forest n i (get_or items i 0) child-item

  pub name-found : is_name (kind_at (from forest (get_or items i 0))) ≡ true → name_in (after i (below forest n)) ≡ first_root (from forest (get_or items i 0))
  name-found = name-there forest n i (get_or items i 0) item-child

  pub name-passed : is_name (kind_at (from forest (get_or items i 0))) ≡ false → name_in (after (i + 1) (below forest n)) ≡ name_in (after i (below forest n))
  name-passed is = rw add-one (name-not forest n i (get_or items i 0) item-child is)

  pub label-found : is_label (kind_at (from forest (get_or items i 0))) ≡ true → label_in (after i (below forest n)) ≡ name_in (below forest (get_or items i 0))
  label-found = label-there forest n i (get_or items i 0) item-child

  pub label-passed : is_label (kind_at (from forest (get_or items i 0))) ≡ false → label_in (after (i + 1) (below forest n)) ≡ label_in (after i (below forest n))
  label-passed is = rw add-one (label-not forest n i (get_or items i 0) item-child is)

pub items-end : (forest : Forest Entry) (n i : ℕ) (items : List ℕ) → items ≡ children forest n → length items ≤ i → after i (below forest n) ≡ none
items-end forest n i items are past = children-end forest n i (let size = ap length are in omega arith)

-- a name that is found elsewhere under another name
pub found-through : (o : Option ℕ) (x y : Option Entry) (forest : Forest Entry) → x ≡ y → MatchOption o (y ≡ None) (λ c. (c < count forest) × (y ≡ first_root (from forest c))) → MatchOption o (x ≡ None) (λ c. (c < count forest) × (x ≡ first_root (from forest c)))
found-through None x y forest same h = same ∙ h
found-through (Some c) x y forest same h = (h.0, same ∙ h.1)

-- the last two of trees side by side
ends-pair : (forest f : Forest Entry) (k c d : ℕ) → Stands forest k f → (j : ℕ) → j + 2 ≡ length (roots f k) → slice_get (roots f k) j ≡ Some c → slice_get (roots f k) (suc j) ≡ Some d
    → (not (is_before_result (kind_at (from forest c))) && is_block (kind_at (from forest d))) ≡ ends_in_body f
ends-pair forest none k c d h j e at at' = absurd (omega arith)
ends-pair forest (tree root inside none) k c d h j e at at' = absurd (omega arith)
ends-pair forest (tree root inside (tree next within none)) k c d h zero e at at' =
    let first : k ≡ c = cc in
    let second : suc (k + count inside) ≡ d = cc in
    let here : kind_at (from forest k) ≡ kind_of root = ap kind_at h in
    let there : kind_at (from forest (suc (k + count inside))) ≡ kind_of next = ap kind_at (stands-behind forest k root inside (tree next within none) h) in
    ap (λ m. not (is_before_result (kind_at (from forest m))) && is_block (kind_at (from forest d))) (sym first)
    ∙ ap (λ m. not (is_before_result (kind_at (from forest k))) && is_block (kind_at (from forest m))) (sym second)
    ∙ ap (λ m. not (is_before_result m) && is_block (kind_at (from forest (suc (k + count inside))))) here
    ∙ ap (λ m. not (is_before_result (kind_of root)) && is_block m) there
ends-pair forest (tree root inside (tree next within none)) k c d h (suc j) e at at' = absurd (omega arith)
ends-pair forest (tree root inside (tree next within (tree r x b))) k c d h zero e at at' = absurd (omega arith)
ends-pair forest (tree root inside (tree next within (tree r x b))) k c d h (suc j) e at at' =
    ends-pair forest (tree next within (tree r x b)) (suc (k + count inside)) c d (stands-behind forest k root inside (tree next within (tree r x b)) h) j (omega arith) at at'

ends-two : (forest : Forest Entry) (n c d j : ℕ) → j + 2 ≡ length (children forest n) → slice_get (children forest n) j ≡ Some c → slice_get (children forest n) (suc j) ≡ Some d
    → (not (is_before_result (kind_at (from forest c))) && is_block (kind_at (from forest d))) ≡ ends_in_body (below forest n)
ends-two forest n c d j e at at' = ends-pair forest (below forest n) (suc n) c d (below-stands forest n) j e at at'

-- the last two children of a node
module _ (forest : Forest Entry) (n : ℕ) (items : List ℕ) (are : items ≡ children forest n) (two : 2 ≤ length items) where
  last-two : (not (is_before_result (kind_at (from forest (get_or items (length items - 2) 0)))) && is_block (kind_at (from forest (get_or items (length items - 1) 0)))) ≡ ends_in_body (below forest n)
  last-two =
      let j = length items - 2 in
      let size = ap length are in
      let next : length items - 1 ≡ suc j = omega arith in
      let first : slice_get (children forest n) j ≡ Some (get_or items j 0) = ap (λ (xs : List ℕ). slice_get xs j) (sym are) ∙ slice_get-get_or items j 0 (omega arith) in
      let second : slice_get (children forest n) (suc j) ≡ Some (get_or items (length items - 1) 0) =
      ap (λ (xs : List ℕ). slice_get xs (suc j)) (sym are) ∙ ap (slice_get items) (sym next) ∙ slice_get-get_or items (length items - 1) 0 (omega arith) in
      ends-two forest n (get_or items j 0) (get_or items (length items - 1) 0) j (omega (arith, size)) first second

  pub body-last : (k : NodeKind) → k ≡ kind_at (from forest (get_or items (length items - 2) 0)) → is_before_result k ≡ false → is_block (kind_at (from forest (get_or items (length items - 1) 0))) ≡ ends_in_body (below forest n)
  body-last k is before =
      let b = is_block (kind_at (from forest (get_or items (length items - 1) 0))) in
      let e : is_before_result (kind_at (from forest (get_or items (length items - 2) 0))) ≡ false = ap is_before_result (sym is) ∙ before in
      sym (ap (λ (t : Bool). not t && b) e) ∙ last-two

  pub no-body : (k : NodeKind) → k ≡ kind_at (from forest (get_or items (length items - 2) 0)) → is_before_result k ≡ true → false ≡ ends_in_body (below forest n)
  no-body k is before =
      let b = is_block (kind_at (from forest (get_or items (length items - 1) 0))) in
      let e : is_before_result (kind_at (from forest (get_or items (length items - 2) 0))) ≡ true = ap is_before_result (sym is) ∙ before in
      sym (ap (λ (t : Bool). not t && b) e) ∙ last-two

pub ends-short : (forest : Forest Entry) (n : ℕ) (items : List ℕ) → items ≡ children forest n → length items < 2 → false ≡ ends_in_body (below forest n)
ends-short forest n items are few = by (below forest n) (subst (λ (xs : List ℕ). length xs < 2) are few)
  where
    by : (f : Forest Entry) → length (roots f (suc n)) < 2 → false ≡ ends_in_body f
    by none few = refl
    by (tree root inside none) few = refl
    by (tree root inside (tree next within behind)) few = absurd (omega arith)
