-- A tree that grows by its nodes in preorder.
use Rattle.std.proofs.Common.{◌≡◌, ℕ, zero, suc, ◌+◌, ◌-◌, ◌<◌, ◌≤◌, ◌^◌, List, [], ◌∷◌, ◌++◌, length, get_or, All, Option, Some, None, slice_get, refl, sym, ap, ◌∙◌, subst, arith, length-append, zero-add}
use Rattle.std.specs.Option.{option_map}
use Rattle.std.proofs.lemmas.List.{get_or_append_left, get_or-append-add}
use Rattle.std.proofs.lemmas.Option.{slice_get-get_or, slice_get-map}
use Rattle.zw_tree.specs.Trees.{Forest, none, tree, count, trees, preorder, map_forest}
use Rattle.zw_tree.specs.Numbering.{node_at, from, first_root, below, or_root, parent}
use Rattle.zw_tree.specs.Growth.{grown, MayGrow, first_nodes}
use Rattle.zw_tree.specs.declared.ast.Entry.{Entry}
use Rattle.zw_tree.proofs.Nodes.{node_ind, from-inside, from-behind, parent-inside, parent-behind}
use Rattle.zw_tree.proofs.Subtrees.{node-root, count-map, preorder-map, parent-map}
use Rattle.zw_tree.proofs.Regrown.{first_nodes-all, count-first_nodes, grows-next, may_grow-next}
use Rattle.zw_grammar.specs.Building.{Span}
use Rattle.zw_grammar.specs.Nodes.{built, nodes}
use Rattle.zw_grammar.specs.declared.builder.Built.{Built}
use Rattle.zw_parse.specs.declared.order.Next.{Next}
use Rattle.zw_parse.specs.Order.{in_order, IsTree}
use Rattle.zw_parse.proofs.OrderLemmas.{length-nodes, length-in_order}

module _ {X : Type 0} where
  slice_get-left : (xs ys : List X) (m : ℕ) → m < length xs → slice_get (xs ++ ys) m ≡ slice_get xs m
  slice_get-left [] ys m lt = absurd (omega arith)
  slice_get-left (x ∷ xs) ys zero lt = refl
  slice_get-left (x ∷ xs) ys (suc m) lt = slice_get-left xs ys m (omega arith)

  slice_get-right : (xs ys : List X) (m j : ℕ) → j ≡ length xs + m → slice_get (xs ++ ys) j ≡ slice_get ys m
  slice_get-right [] ys m j e = let same : j ≡ m = omega arith in ap (slice_get ys) same
  slice_get-right (x ∷ xs) ys m zero e = absurd (omega arith)
  slice_get-right (x ∷ xs) ys m (suc j) e = slice_get-right xs ys m j (omega arith)

  All-left : (P : X → Type 0) (xs ys : List X) → All P (xs ++ ys) → All P xs
  All-left P xs ys all = λ k d lt. subst P (get_or_append_left xs ys d k lt) (all k d (omega (arith, length-append xs ys)))

  All-right : (P : X → Type 0) (xs ys : List X) → All P (xs ++ ys) → All P ys
  All-right P xs ys all = λ k d lt. subst P (get_or-append-add xs ys k d) (all (length xs + k) d (omega (arith, length-append xs ys)))

-- the parent in a list that begins with this number and these roots' parent
abbrev up : Option ℕ → ℕ → Option ℕ → Option ℕ
up parent number None = parent
up parent number (Some q) = Some (number + q)

up-inside : (parent : Option ℕ) (number : ℕ) (o : Option ℕ) → up (Some number) (suc number) o ≡ up parent number (Some (or_root o))
up-inside parent number None = let e : number ≡ number + 0 = omega arith in ap Some e
up-inside parent number (Some q) = let e : suc number + q ≡ number + suc q = omega arith in ap Some e

up-behind : (parent : Option ℕ) (number k : ℕ) (o : Option ℕ) → up parent (suc number + k) o ≡ up parent number (option_map (λ m. suc (k + m)) o)
up-behind parent number k None = refl
up-behind parent number k (Some q) = let e : suc number + k + q ≡ number + suc (k + q) = omega arith in ap Some e

up-whole : (o : Option ℕ) → up None 0 o ≡ o
up-whole None = refl
up-whole (Some q) = ap Some (zero-add q)

-- a node of the list, in preorder
record NextAt (P : Built → Type 0) (forest : Forest Span) (n : ℕ) : Type 0 where
  item : Span
  is : first_root (from forest n) ≡ Some item
  next : (up_to : Option ℕ) (number : ℕ) → slice_get (in_order forest up_to number) n ≡ Some (record { node = built item (suc (count (below forest n))); parent = up up_to number (parent forest n) })
  holds : All P (nodes forest) → P (built item (suc (count (below forest n))))

next_at : (P : Built → Type 0) (forest : Forest Span) (n : ℕ) → n < count forest → NextAt P forest n
next_at P = node_ind (NextAt P) top within after
  where
    top : (root : Span) (inside behind : Forest Span) → NextAt P (tree root inside behind) zero
    top root inside behind = record {
      item = root;
      is = refl;
      next = λ up_to number. refl;
      holds = λ all. All-right P (nodes inside) (built root (suc (count inside)) ∷ nodes behind) all 0 (built root 0) (omega arith);
    }

    within : (root : Span) (inside behind : Forest Span) (n : ℕ) → n < count inside → NextAt P inside n → NextAt P (tree root inside behind) (suc n)
    within root inside behind n lt ih =
        let eq = from-inside root inside behind n lt in
        record {
          item = ih.item;
          is = rw eq ih.is;
          next = λ up_to number.
              let long : n < length (in_order inside (Some number) (suc number)) = omega (arith, length-in_order inside (Some number) (suc number)) in
              rw (eq, parent-inside root inside behind n lt, ← up-inside up_to number (parent inside n)) (slice_get-left (in_order inside (Some number) (suc number)) (in_order behind up_to (suc number + count inside)) n long ∙ ih.next (Some number) (suc number));
          holds = λ all. rw eq (ih.holds (All-left P (nodes inside) (built root (suc (count inside)) ∷ nodes behind) all));
        }

    after : (root : Span) (inside behind : Forest Span) (n : ℕ) → n < count behind → NextAt P behind n → NextAt P (tree root inside behind) (suc (count inside + n))
    after root inside behind n lt ih =
        let eq = from-behind root inside behind n in
        record {
          item = ih.item;
          is = rw eq ih.is;
          next = λ up_to number.
              let place : count inside + n ≡ length (in_order inside (Some number) (suc number)) + n = omega (arith, length-in_order inside (Some number) (suc number)) in
              rw (eq, parent-behind root inside behind n, ← up-behind up_to number (count inside) (parent behind n)) (slice_get-right (in_order inside (Some number) (suc number)) (in_order behind up_to (suc number + count inside)) n (count inside + n) place ∙ ih.next up_to (suc number + count inside));
          holds = λ all. rw eq (ih.holds (All-right P (built root (suc (count inside)) ∷ []) (nodes behind) (All-right P (nodes inside) (built root (suc (count inside)) ∷ nodes behind) all)));
        }

trees-map : {A B : Type 0} (f : A → B) (forest : Forest A) → trees (map_forest f forest) ≡ trees forest
trees-map f none = refl
trees-map f (tree root inside behind) = ap suc (trees-map f behind)

-- one node on
pub record Grows (P : Built → Type 0) (entry : Span → Entry) (span : Built → Span) (forest : Forest Span) (i : ℕ) (next : Next) : Type 0 where
  pub holds : P next.node
  pub may_grow : MayGrow (first_nodes (map_forest entry forest) i) next.parent
  pub counted : count (first_nodes (map_forest entry forest) i) ≡ i
  pub fewer : i < count forest
  pub now : first_nodes (map_forest entry forest) (suc i) ≡ grown (first_nodes (map_forest entry forest) i) next.parent (entry (span next.node))

pub grows_on : (P : Built → Type 0) (entry : Span → Entry) (span : Built → Span) → ((s : Span) (size : ℕ) → span (built s size) ≡ s) → (list : List Built) (forest : Forest Span) (order : List Next) (i : ℕ) (d : Next) → All P list → IsTree list forest → order ≡ in_order forest None 0 → i < length order → Grows P entry span forest i (get_or order i d)
grows_on P entry span back list forest order i d all t is lt = by (next_at P forest i fewer)
  where
    fewer : i < count forest
    fewer = omega (arith, ap length is, length-in_order forest None 0)

    by : NextAt P forest i → Grows P entry span forest i (get_or order i d)
    by n =
        let F : Forest Entry = map_forest entry forest in
        let next : Next = record { node = built n.item (suc (count (below forest i))); parent = parent forest i } in
        let there : slice_get order i ≡ Some next = ap (λ l. slice_get l i) is ∙ n.next None 0 ∙ ap (λ o. Some (record { node = built n.item (suc (count (below forest i))); parent = o })) (up-whole (parent forest i)) in
        let found = slice_get-get_or order i d lt in
        let same : next ≡ get_or order i d = cc in
        let one : trees F ≡ 1 = trees-map entry forest ∙ t.one in
        let fits : i < count F = omega (arith, fewer, count-map entry forest) in
        let up = parent-map entry forest i in
        let says : node_at F i ≡ Some (entry n.item) =
        ap (λ l. slice_get l i) (preorder-map entry forest) ∙ slice_get-map entry (preorder forest) i ∙ ap (option_map entry) (node-root forest i fewer ∙ n.is) in
        subst (Grows P entry span forest i) same (record {
          holds = n.holds (subst (All P) t.listed all);
          may_grow = subst (MayGrow (first_nodes F i)) up (may_grow-next F i one fits);
          counted = omega (arith, count-first_nodes F i, fits);
          fewer = fewer;
          now = grows-next F i (entry n.item) says ∙ ap (λ o. grown (first_nodes F i) o (entry n.item)) up ∙ ap (λ s. grown (first_nodes F i) (parent forest i) (entry s)) (sym (back n.item (suc (count (below forest i)))));
        })

-- all nodes are there
pub all_grown : (entry : Span → Entry) (forest : Forest Span) (order : List Next) (i : ℕ) → order ≡ in_order forest None 0 → length order ≤ i → first_nodes (map_forest entry forest) i ≡ map_forest entry forest
all_grown entry forest order i is ge = first_nodes-all (map_forest entry forest) i (omega (arith, ap length is, length-in_order forest None 0, count-map entry forest))

pub none_grown : (entry : Span → Entry) (forest : Forest Span) → first_nodes (map_forest entry forest) 0 ≡ none
none_grown entry none = refl
none_grown entry (tree root inside behind) = refl

-- the loop, at one node
module _ (P : Built → Type 0) (entry : Span → Entry) (span : Built → Span) (back : (s : Span) (size : ℕ) → span (built s size) ≡ s) (list : List Built) (forest : Forest Span) (order items : List Next) (i : ℕ) (d : Next) (ast : Forest Entry) (all : All P list) (t : IsTree list forest) (same : items ≡ order) (is : order ≡ in_order forest None 0) (lt : i < length items) where
  grows_here : Grows P entry span forest i (get_or items i d)
  grows_here = grows_on P entry span back list forest items i d all t (same ∙ is) lt

  pub within_here : P (get_or items i d).node
  within_here = grows_here.holds

  module _ (so_far : ast ≡ first_nodes (map_forest entry forest) i) where
    pub place_here : MayGrow ast (get_or items i d).parent
    place_here = subst (λ f. MayGrow f (get_or items i d).parent) (sym so_far) grows_here.may_grow

    pub room_here : length list < 2 ^ 32 → count ast < 2 ^ 32 - 1
    room_here short = omega (arith, ap count so_far, grows_here.counted, grows_here.fewer, ap length t.listed, length-nodes forest, short)

    pub kept_here : (new : Forest Entry) (said : Entry) → new ≡ grown ast (get_or items i d).parent said → said ≡ entry (span (get_or items i d).node) → new ≡ first_nodes (map_forest entry forest) (i + 1)
    kept_here new said grown_is said_is =
        let e : suc i ≡ i + 1 = omega arith in
        grown_is
        ∙ ap (λ f. grown f (get_or items i d).parent said) so_far
        ∙ ap (grown (first_nodes (map_forest entry forest) i) (get_or items i d).parent) said_is
        ∙ sym grows_here.now
        ∙ ap (first_nodes (map_forest entry forest)) e
