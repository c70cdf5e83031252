-- How the list of nodes grows with the trees.
use Rattle.std.proofs.Common.{◌≡◌, ℕ, suc, ◌+◌, ◌-◌, List, [], ◌∷◌, ◌++◌, length, refl, sym, ap, ◌∙◌, append_assoc, arith, length-append}
use Rattle.zw_tree.specs.Trees.{Forest, none, tree, beside, count}
use Rattle.zw_grammar.specs.declared.builder.Built.{Built}
use Rattle.zw_grammar.specs.declared.builder.Opened.{Opened}
use Rattle.zw_grammar.specs.Building.{Span, Begun, Building, ends}
use Rattle.zw_grammar.specs.Nodes.{built, nodes, all_nodes, older_nodes, opened}

pub nodes-beside : (a b : Forest Span) → nodes (beside a b) ≡ nodes a ++ nodes b
nodes-beside none b = refl
nodes-beside (tree root below behind) b =
    ap (λ more. nodes below ++ (built root (suc (count below)) ∷ more)) (nodes-beside behind b)
    ∙ sym (append_assoc (nodes below) (built root (suc (count below)) ∷ nodes behind) (nodes b))

pub length-nodes : (a : Forest Span) → length (nodes a) ≡ count a
length-nodes none = refl
length-nodes (tree root below behind) =
    let under = length-nodes below in
    let after = length-nodes behind in
    omega (arith, length-append (nodes below) (built root (suc (count below)) ∷ nodes behind))

pub all_nodes-beside : (outer : List Begun) (a b : Forest Span) → all_nodes outer (beside a b) ≡ all_nodes outer a ++ nodes b
all_nodes-beside [] a b = nodes-beside a b
all_nodes-beside (node ∷ outer) a b =
    ap (λ more. all_nodes outer node.before ++ more) (nodes-beside a b)
    ∙ sym (append_assoc (all_nodes outer node.before) (nodes a) (nodes b))

-- one more node at the end
pub all_nodes-one : (outer : List Begun) (a below : Forest Span) (root : Span) →
    all_nodes outer (beside a (tree root below none)) ≡ (all_nodes outer a ++ nodes below) ++ (built root (suc (count below)) ∷ [])
all_nodes-one outer a below root =
    all_nodes-beside outer a (tree root below none)
    ∙ sym (append_assoc (all_nodes outer a) (nodes below) (built root (suc (count below)) ∷ []))

-- the last item of a list, and the items before it, are told by the list
pub last_is_one : {X : Type 0} (xs ys : List X) (x y : X) → xs ++ (x ∷ []) ≡ ys ++ (y ∷ []) → (xs ≡ ys) × (x ≡ y)
last_is_one [] [] x y e = (refl, cc)
last_is_one [] (b ∷ []) x y e = absurd (cc)
last_is_one [] (b ∷ c ∷ ys) x y e = absurd (cc)
last_is_one (a ∷ []) [] x y e = absurd (cc)
last_is_one (a ∷ c ∷ xs) [] x y e = absurd (cc)
last_is_one (a ∷ xs) (b ∷ ys) x y e =
    let heads : a ≡ b = cc in
    let tails : xs ++ (x ∷ []) ≡ ys ++ (y ∷ []) = cc in
    let more = last_is_one xs ys x y tails in
    (cc, more.1)

pub not_empty : {X : Type 0} (xs : List X) (x : X) → [] ≡ xs ++ (x ∷ []) → ⊥
not_empty [] x e = cc
not_empty (a ∷ xs) x e = cc

-- what the nodes and the open nodes are after the innermost one has ended
pub record IsClosed (older : List Built) (begun : List Begun) (b : Building) (last : ℕ) (list : List Built) (outer : List Opened) : Type 0 where
  pub nodes : list ≡ older ++ all_nodes (ends last begun b).begun (ends last begun b).ended
  pub opened : outer ≡ opened (length older) (ends last begun b).begun
  pub depth : b.depth ≡ (ends last begun b).depth
  pub passed : b.passed ≡ (ends last begun b).passed

pub closes : (older : List Built) (begun : List Begun) (b : Building) (last size : ℕ) (before after : List Built) (outer : List Opened) (node : Opened) →
    before ≡ older ++ all_nodes begun b.ended → outer ++ (node ∷ []) ≡ opened (length older) begun → size ≡ suc (length before - node.before) →
    after ≡ before ++ (record { kind = node.kind; first = node.first; last = last; size = size } ∷ []) →
    IsClosed older begun b last after outer
closes older [] b last size before after outer node e o s a = absurd (not_empty outer node (sym o))
closes older (n ∷ ns) b last size before after outer node e o s a =
    let same = last_is_one outer (opened (length older) ns) node (record { kind = n.kind; first = n.first; before = length older + length (all_nodes ns n.before) }) o in
    let start : node.before ≡ length older + length (all_nodes ns n.before) = ap (λ (m : Opened). m.before) same.1 in
    let kinds : node.kind ≡ n.kind = ap (λ (m : Opened). m.kind) same.1 in
    let firsts : node.first ≡ n.first = ap (λ (m : Opened). m.first) same.1 in
    let whole : length before ≡ length older + length (all_nodes ns n.before ++ nodes b.ended) = ap length e ∙ length-append older (all_nodes ns n.before ++ nodes b.ended) in
    let long = length-append (all_nodes ns n.before) (nodes b.ended) in
    let many = length-nodes b.ended in
    let sized : size ≡ suc (count b.ended) = omega arith in
    let span : Span = record { kind = n.kind; first = n.first; last = last } in
    let same_node : record { kind = node.kind; first = node.first; last = last; size = size } ≡ built span (suc (count b.ended)) = cc in
    record {
      nodes = a ∙ (ap (λ (front : List Built). front ++ (record { kind = node.kind; first = node.first; last = last; size = size } ∷ [])) e
          ∙ (append_assoc older (all_nodes ns n.before ++ nodes b.ended) _
          ∙ ap (λ (list : List Built). older ++ list)
          (ap (λ (one : Built). (all_nodes ns n.before ++ nodes b.ended) ++ (one ∷ [])) same_node
          ∙ sym (all_nodes-one ns n.before b.ended span))));
      opened = same.0;
      depth = refl;
      passed = refl;
    }

-- no node stands below the outermost ones
pub not_open : (older : ℕ) (begun : List Begun) → [] ≡ opened older begun → begun ≡ []
not_open older [] e = refl
not_open older (n ∷ ns) e = absurd (not_empty (opened older ns) _ e)

pub older-nodes : (begun : List Begun) (ended : Forest Span) → all_nodes begun ended ≡ older_nodes begun ++ nodes ended
older-nodes [] ended = refl
older-nodes (node ∷ outer) ended = refl
