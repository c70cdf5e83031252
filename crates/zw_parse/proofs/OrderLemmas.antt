-- Lists of nodes, in the order in which they end and in preorder.
use Rattle.std.proofs.Common.{◌≡◌, ℕ, suc, ◌+◌, ◌-◌, ◌<◌, ◌≤◌, List, [], ◌∷◌, ◌++◌, length, get_or, reverse, Option, Some, None, refl, sym, ap, ◌∙◌, subst, arith, append_assoc, append-nil, length-append}
use Rattle.std.proofs.Math.Seq.{get_or-append_seam}
use Rattle.std.proofs.lemmas.List.{reverse-append}
use Rattle.zw_tree.specs.Trees.{Forest, none, tree, beside, count}
use Rattle.zw_tree.proofs.Nodes.{count-beside}
use Rattle.zw_tree.proofs.Growing.{none_when_empty}
use Rattle.zw_grammar.specs.Building.{Span}
use Rattle.zw_grammar.specs.Nodes.{built, nodes}
use Rattle.zw_grammar.specs.declared.builder.Built.{Built}
use Rattle.zw_parse.specs.declared.order.Next.{Next}
use Rattle.zw_parse.specs.declared.order.Waiting.{Waiting}
use Rattle.zw_parse.specs.Order.{in_order, IsTree, EndsAt, HasTree, Stands, StandsFor, Pushed, Kept}

module _ {A : Type 0} where
  pub beside_assoc : (f g h : Forest A) → beside (beside f g) h ≡ beside f (beside g h)
  beside_assoc none g h = refl
  beside_assoc (tree root below behind) g h = ap (tree root below) (beside_assoc behind g h)

  pub beside-none : (f : Forest A) → beside f none ≡ f
  beside-none none = refl
  beside-none (tree root below behind) = ap (tree root below) (beside-none behind)

  -- a forest by its last tree
  pub record LastTree (forest : Forest A) : Type 0 where
    pub front : Forest A
    pub root : A
    pub below : Forest A
    pub is : forest ≡ beside front (tree root below none)

  pub last_tree : (forest : Forest A) → 0 < count forest → LastTree forest
  last_tree none some = absurd (omega arith)
  last_tree (tree root below none) some = record { front = none; root = root; below = below; is = refl }
  last_tree (tree root below (tree other lower behind)) some =
      let r = last_tree (tree other lower behind) (omega arith) in
      record { front = tree root below r.front; root = r.root; below = r.below; is = ap (tree root below) r.is }

pub length-nodes : (forest : Forest Span) → length (nodes forest) ≡ count forest
length-nodes none = refl
length-nodes (tree root below behind) =
    omega (arith, length-append (nodes below) (built root (suc (count below)) ∷ nodes behind), length-nodes below, length-nodes behind)

pub nodes-beside : (f g : Forest Span) → nodes (beside f g) ≡ nodes f ++ nodes g
nodes-beside none g = refl
nodes-beside (tree root below behind) g = rw (nodes-beside behind g) (sym (append_assoc (nodes below) (built root (suc (count below)) ∷ nodes behind) (nodes g)))

pub length-in_order : (forest : Forest Span) (parent : Option ℕ) (number : ℕ) → length (in_order forest parent number) ≡ count forest
length-in_order none parent number = refl
length-in_order (tree root below behind) parent number =
    omega (arith, length-append (in_order below (Some number) (suc number)) (in_order behind parent (suc number + count below)), length-in_order below (Some number) (suc number), length-in_order behind parent (suc number + count below))

-- a first tree and those behind it
pub in_order-split : (root : Span) (below behind : Forest Span) (parent : Option ℕ) (number : ℕ) (rest : List Next) → in_order (tree root below behind) parent number ++ rest ≡ in_order (tree root below none) parent number ++ (in_order behind parent (suc number + count below) ++ rest)
in_order-split root below behind parent number rest =
    let inner = in_order below (Some number) (suc number) in
    let others = in_order behind parent (suc number + count below) in
    let first : Next = record { node = built root (suc (count below)); parent = parent } in
    ap (λ list. first ∷ list) (append_assoc inner others rest ∙ ap (λ list. list ++ (others ++ rest)) (sym (append-nil inner)))

-- what stands at the place of a tree
pub node-at : (list : List Built) (at : ℕ) (root : Span) (below : Forest Span) (d : Built) → EndsAt list at root below → get_or list at d ≡ built root (suc (count below))
node-at list at root below d e =
    let front : List Built = e.before ++ nodes below in
    let long : at ≡ length front = omega (arith, e.place, length-append e.before (nodes below), length-nodes below) in
    let parts = e.listed ∙ sym (append_assoc e.before (nodes below) (built root (suc (count below)) ∷ e.after)) in
    rw (parts, long) (get_or-append_seam front (built root (suc (count below))) e.after d)

pub at-within : (list : List Built) (at : ℕ) (root : Span) (below : Forest Span) → EndsAt list at root below → at < length list
at-within list at root below e =
    rw e.listed (omega (arith, e.place, length-append e.before (nodes below ++ (built root (suc (count below)) ∷ e.after)), length-append (nodes below) (built root (suc (count below)) ∷ e.after), length-nodes below))

-- the last tree of those below a node that don't wait yet
pub record Child {list : List Built} {at : ℕ} {root : Span} {below : Forest Span} (ends : EndsAt list at root below) (begin end parent : ℕ) (old new : List Waiting) : Type 0 where
  pub top : Span
  pub lower : Forest Span
  pub ends_at : EndsAt list (end - 1) top lower
  pub fits : suc (count lower) ≤ end
  pub after : Pushed ends begin (end - suc (count lower)) parent old (record { at = end - 1; parent = Some parent } ∷ new)

pub next_child : (list : List Built) (at : ℕ) (root : Span) (below : Forest Span) (ends : EndsAt list at root below) (begin end parent : ℕ) (old new : List Waiting) → begin < end → Pushed ends begin end parent old new → Child ends begin end parent old new
next_child list at root below ends begin end parent old new more p = by (last_tree p.left (omega (arith, p.end_is)))
  where
    by : LastTree p.left → Child ends begin end parent old new
    by t =
        let counted : count p.left ≡ count t.front + suc (count t.below) = ap count t.is ∙ count-beside t.front (tree t.root t.below none) ∙ (let e : count t.front + suc (count t.below + 0) ≡ count t.front + suc (count t.below) = omega arith in e) in
        let shift : suc (suc parent + count t.front) + count t.below ≡ suc parent + count p.left = omega (arith, counted) in
        let parts : below ≡ beside t.front (tree t.root t.below p.right) = p.parts ∙ ap (λ f. beside f p.right) t.is ∙ beside_assoc t.front (tree t.root t.below none) p.right in
        let listed : list ≡ (ends.before ++ nodes t.front) ++ (nodes t.below ++ (built t.root (suc (count t.below)) ∷ (nodes p.right ++ (built root (suc (count below)) ∷ ends.after)))) =
        ends.listed
        ∙ ap (λ f. ends.before ++ (nodes f ++ (built root (suc (count below)) ∷ ends.after))) parts
        ∙ ap (λ l. ends.before ++ (l ++ (built root (suc (count below)) ∷ ends.after))) (nodes-beside t.front (tree t.root t.below p.right))
        ∙ simp append_assoc in
        let place : end - 1 ≡ length (ends.before ++ nodes t.front) + count t.below = omega (arith, p.end_is, p.begin_is, counted, length-append ends.before (nodes t.front), length-nodes t.front) in
        let ends_at : EndsAt list (end - 1) t.root t.below = record { before = ends.before ++ nodes t.front; after = nodes p.right ++ (built root (suc (count below)) ∷ ends.after); listed = listed; place = place } in
        record {
          top = t.root;
          lower = t.below;
          ends_at = ends_at;
          fits = omega (arith, p.end_is, counted);
          after = record {
            left = t.front;
            right = tree t.root t.below p.right;
            parts = parts;
            begin_is = p.begin_is;
            end_is = omega (arith, p.end_is, counted);
            stands = λ rest st. record {
              root = t.root;
              below = t.below;
              rest = in_order p.right (Some parent) (suc parent + count p.left) ++ rest;
              ends = ends_at;
              others = rw shift (p.stands rest st);
              gives = in_order-split t.root t.below p.right (Some parent) (suc parent + count t.front) rest ∙ ap (λ k. in_order (tree t.root t.below none) (Some parent) (suc parent + count t.front) ++ (in_order p.right (Some parent) k ++ rest)) shift;
            };
          };
        }

pub size-at : (list : List Built) (at : ℕ) (root : Span) (below : Forest Span) (d : Built) → EndsAt list at root below → (get_or list at d).size ≡ suc (count below)
size-at list at root below d e = ap (λ (b : Built). b.size) (node-at list at root below d e)

-- before the first child is pushed
pub none_pushed : (list : List Built) (at : ℕ) (root : Span) (below : Forest Span) (ends : EndsAt list at root below) (begin size parent : ℕ) (old : List Waiting) → size ≡ suc (count below) → begin ≡ at + 1 - size → Pushed ends begin at parent old old
none_pushed list at root below ends begin size parent old sized is =
    let place = ends.place in
    record {
      left = below;
      right = none;
      parts = sym (beside-none below);
      begin_is = omega arith;
      end_is = omega arith;
      stands = λ rest st. st;
    }

-- a child is pushed
pub one_pushed : (list : List Built) (at : ℕ) (root : Span) (below : Forest Span) (ends : EndsAt list at root below) (begin end parent : ℕ) (d : Built) (old : List Waiting) (before after : List Waiting) → begin < end → Pushed ends begin end parent old (reverse before) → after ≡ before ++ record { at = end - 1; parent = Some parent } ∷ [] → Pushed ends begin (end - (get_or list (end - 1) d).size) parent old (reverse after)
one_pushed list at root below ends begin end parent d old before after more p is = by (next_child list at root below ends begin end parent old (reverse before) more p)
  where
    by : Child ends begin end parent old (reverse before) → Pushed ends begin (end - (get_or list (end - 1) d).size) parent old (reverse after)
    by ch =
        let sized = size-at list (end - 1) ch.top ch.lower d ch.ends_at in
        rw (sized, is, reverse-append) ch.after

-- all are pushed
pub all_pushed : (list : List Built) (at : ℕ) (root : Span) (below : Forest Span) (ends : EndsAt list at root below) (begin end parent : ℕ) (old new : List Waiting) (rest : List Next) → end ≤ begin → Pushed ends begin end parent old new → StandsFor list old (suc parent + count below) rest → StandsFor list new (suc parent) (in_order below (Some parent) (suc parent) ++ rest)
all_pushed list at root below ends begin end parent old new rest over p st =
    let empty : count p.left ≡ 0 = omega (arith, p.end_is) in
    let left : p.left ≡ none = none_when_empty p.left empty in
    let number : suc parent + count p.left ≡ suc parent = omega arith in
    let right : p.right ≡ below = sym (p.parts ∙ ap (λ f. beside f p.right) left) in
    let now = p.stands rest st in
    subst (λ f. StandsFor list new (suc parent) (in_order f (Some parent) (suc parent) ++ rest)) right
    (subst (λ k. StandsFor list new k (in_order p.right (Some parent) k ++ rest)) number now)

-- the size of the last child that isn't pushed yet
pub child_size : (list : List Built) (at : ℕ) (root : Span) (below : Forest Span) (ends : EndsAt list at root below) (begin end parent : ℕ) (d : Built) (old new : List Waiting) → begin < end → Pushed ends begin end parent old new → (0 < (get_or list (end - 1) d).size) × ((get_or list (end - 1) d).size ≤ end)
child_size list at root below ends begin end parent d old new more p = by (next_child list at root below ends begin end parent old new more p)
  where
    by : Child ends begin end parent old new → (0 < (get_or list (end - 1) d).size) × ((get_or list (end - 1) d).size ≤ end)
    by ch = let sized = size-at list (end - 1) ch.top ch.lower d ch.ends_at in let fits = ch.fits in (omega arith, omega arith)

pub size_fits : (list : List Built) (at : ℕ) (root : Span) (below : Forest Span) (d : Built) → EndsAt list at root below → (get_or list at d).size ≤ at + 1
size_fits list at root below d e = omega (arith, size-at list at root below d e, e.place)

pub closer : (list : List Built) (at : ℕ) (root : Span) (below : Forest Span) (ends : EndsAt list at root below) (begin end parent : ℕ) (d : Built) (old new : List Waiting) → begin < end → Pushed ends begin end parent old new → (end - (get_or list (end - 1) d).size) - begin < end - begin
closer list at root below ends begin end parent d old new more p =
    let s = child_size list at root below ends begin end parent d old new more p in
    omega (arith, s.0, s.1)

-- the root waits
pub first_kept : (list : List Built) (forest : Forest Span) → IsTree list forest → Kept list forest (record { at = length list - 1; parent = None } ∷ []) []
first_kept list none t = let one = t.one in absurd (omega arith)
first_kept list (tree root below none) t = record {
  rest = in_order (tree root below none) None 0;
  stands = record {
    root = root;
    below = below;
    rest = [];
    ends = record {
      before = [];
      after = [];
      listed = t.listed;
      place = omega (arith, ap length t.listed, length-nodes (tree root below none));
    };
    others = refl;
    gives = sym (append-nil (in_order (tree root below none) None 0));
  };
  whole = refl;
}
first_kept list (tree root below (tree other lower behind)) t = let one = t.one in absurd (omega arith)

-- the next tree, as it is taken from what waits
pub record Taken (list : List Built) (forest : Forest Span) (w : Waiting) (waiting : List Waiting) (order : List Next) : Type 0 where
  pub root : Span
  pub below : Forest Span
  pub rest : List Next
  pub ends : EndsAt list w.at root below
  pub others : StandsFor list waiting (suc (length order) + count below) rest
  pub whole : order ++ (in_order (tree root below none) w.parent (length order) ++ rest) ≡ in_order forest None 0

top_taken : (list : List Built) (forest : Forest Span) (waiting : List Waiting) (w : Waiting) (order rest : List Next) → order ++ rest ≡ in_order forest None 0 → Stands list w.at w.parent (length order) rest (StandsFor list waiting) → Taken list forest w waiting order
top_taken list forest waiting w order rest whole s = record {
  root = s.root;
  below = s.below;
  rest = s.rest;
  ends = s.ends;
  others = s.others;
  whole = ap (λ l. order ++ l) (sym s.gives) ∙ whole;
}

pub take_next : (list : List Built) (forest : Forest Span) (old new : List Waiting) (w : Waiting) (order : List Next) → old ≡ new ++ w ∷ [] → Kept list forest (reverse old) order → Taken list forest w (reverse new) order
take_next list forest old new w order is k = top_taken list forest (reverse new) w order k.rest k.whole (rw (is, reverse-append) at k.stands)

-- it goes into the order, and the trees below it wait
pub kept_on : (list : List Built) (forest : Forest Span) (w : Waiting) (old new : List Waiting) (before after : List Next) (number : ℕ) (d : Built) → number ≡ length before → after ≡ before ++ record { node = get_or list w.at d; parent = w.parent } ∷ [] → ((root : Span) (lower : Forest Span) (rest : List Next) → EndsAt list w.at root lower → StandsFor list old (suc number + count lower) rest → StandsFor list new (suc number) (in_order lower (Some number) (suc number) ++ rest)) → Taken list forest w old before → Kept list forest new after
kept_on list forest w old new before after number d number_is after_is pushed t =
    let first : Next = record { node = built t.root (suc (count t.below)); parent = w.parent } in
    let now : after ≡ before ++ first ∷ [] = after_is ∙ ap (λ (b : Built). before ++ record { node = b; parent = w.parent } ∷ []) (node-at list w.at t.root t.below d t.ends) in
    let long : suc (length before) ≡ length after = rw now (omega (arith, length-append before (first ∷ []))) in
    let inner : List Next = in_order t.below (Some (length before)) (suc (length before)) in
    let stands : StandsFor list new (suc (length before)) (inner ++ t.rest) =
    rw number_is at (pushed t.root t.below t.rest t.ends (rw number_is t.others)) in
    record {
      rest = inner ++ t.rest;
      stands = subst (λ k. StandsFor list new k (inner ++ t.rest)) long stands;
      whole = ap (λ list. list ++ (inner ++ t.rest)) now ∙ append_assoc before (first ∷ []) (inner ++ t.rest) ∙ ap (λ l. before ++ (first ∷ (l ++ t.rest))) (sym (append-nil inner)) ∙ t.whole;
    }

-- fewer nodes are in order than there are
pub fewer : (list : List Built) (forest : Forest Span) (w : Waiting) (waiting : List Waiting) (order : List Next) → IsTree list forest → Taken list forest w waiting order → length order < length list
fewer list forest w waiting order t k =
    omega (arith, ap length k.whole, length-append order (in_order (tree k.root k.below none) w.parent (length order) ++ k.rest), length-in_order forest None 0, ap length t.listed, length-nodes forest)

-- nothing waits any more
pub all_kept : (list : List Built) (forest : Forest Span) (order : List Next) → Kept list forest [] order → order ≡ in_order forest None 0
all_kept list forest order k = sym (append-nil order) ∙ ap (λ rest. order ++ rest) (sym k.stands) ∙ k.whole

-- a tree has a node
pub some_nodes : (list : List Built) (forest : Forest Span) → IsTree list forest → 1 ≤ length list
some_nodes list none t = let one = t.one in absurd (omega arith)
some_nodes list (tree root below behind) t = omega (arith, ap length t.listed, length-nodes (tree root below behind))

-- what waits on top, and the order so far, in the midst of a tree
module _ (list : List Built) (forest : Forest Span) (t : IsTree list forest) (old new : List Waiting) (w : Waiting) (order : List Next) (is : old ≡ new ++ w ∷ []) (k : Kept list forest (reverse old) order) where
  pub next_within : w.at < length list
  next_within = let n = take_next list forest old new w order is k in at-within list w.at n.root n.below n.ends

  pub next_fewer : length order < length list
  next_fewer = fewer list forest w (reverse new) order t (take_next list forest old new w order is k)

  pub next_tree : HasTree list w.at
  next_tree = let n = take_next list forest old new w order is k in (n.root, n.below, n.ends)

pub longer : (list : List Built) (before after : List Next) (n : Next) → after ≡ before ++ n ∷ [] → length before < length list → length list - length after < length list - length before
longer list before after n is less = omega (arith, ap length is, length-append before (n ∷ []))
