-- The last trees of a forest, in the list of its nodes.
use Rattle.std.proofs.Common.{◌≡◌, ℕ, zero, suc, ◌+◌, ◌-◌, ◌<◌, ◌≤◌, List, [], ◌∷◌, ◌++◌, length, get_or, refl, sym, ap, ◌∙◌, subst, append_assoc, arith, length-append}
use Rattle.std.proofs.Math.Seq.{get_or-append_seam}
use Rattle.zw_tree.specs.Trees.{Forest, none, tree, beside, count, trees}
use Rattle.zw_grammar.specs.declared.builder.Built.{Built}
use Rattle.zw_grammar.specs.Building.{Span, start_of, front, rest}
use Rattle.zw_grammar.specs.Nodes.{built, nodes}
use Rattle.zw_grammar.proofs.NodeLemmas.{nodes-beside, length-nodes}

pub front_all : {A : Type 0} (f : Forest A) → front (trees f) f ≡ f
front_all none = refl
front_all (tree root below behind) = ap (λ (more : Forest _). tree root below more) (front_all behind)

pub rest_all : {A : Type 0} (f : Forest A) → rest (trees f) f ≡ none
rest_all none = refl
rest_all (tree root below behind) = rest_all behind

pub front_none : {A : Type 0} (f : Forest A) → front 0 f ≡ none
front_none none = refl
front_none (tree root below behind) = refl

pub whole : {A : Type 0} (n : ℕ) (f : Forest A) → f ≡ beside (front n f) (rest n f)
whole n none = refl
whole zero (tree root below behind) = refl
whole (suc n) (tree root below behind) = ap (λ (more : Forest _). tree root below more) (whole n behind)

-- the tree behind the first ones, as many as n
pub record TreeAt (n : ℕ) (f : Forest Span) : Type 0 where
  pub root : Span
  pub below : Forest Span
  pub rest_is : rest n f ≡ tree root below (rest (suc n) f)
  pub front_is : front (suc n) f ≡ beside (front n f) (tree root below none)

pub tree_at : (n : ℕ) (f : Forest Span) → n < trees f → TreeAt n f
tree_at n none less = absurd (omega arith)
tree_at zero (tree root below behind) less =
    record { root = root; below = below; rest_is = ap (λ (more : Forest Span). tree root below more) (sym (rest_none behind)); front_is = ap (λ (more : Forest Span). tree root below more) (front_none behind) }
  where
    rest_none : (f : Forest Span) → rest 0 f ≡ f
    rest_none none = refl
    rest_none (tree root below behind) = refl
tree_at (suc n) (tree root below behind) less =
    let here = tree_at n behind (omega arith) in
    record { root = here.root; below = here.below; rest_is = here.rest_is; front_is = ap (λ (more : Forest Span). tree root below more) here.front_is }

regroup : (a b c d : List Built) (x : Built) → a ++ ((b ++ (c ++ (x ∷ []))) ++ d) ≡ ((a ++ b) ++ c) ++ (x ∷ d)
regroup a b c d x = simp append_assoc

regroup_front : (a b c : List Built) (x : Built) → a ++ (b ++ (c ++ (x ∷ []))) ≡ ((a ++ b) ++ c) ++ (x ∷ [])
regroup_front a b c x = simp append_assoc

-- what the node before a place among the nodes says of the tree that ends there
pub tree_before : (list older : List Built) (ended : Forest Span) (next n before : ℕ) (node d : Built) →
    list ≡ older ++ nodes ended → n < trees ended → before ≡ length (older ++ nodes (front (suc n) ended)) → node ≡ get_or list (before - 1) d →
    (node.first ≡ start_of next (rest n ended)) × (before - node.size ≡ length (older ++ nodes (front n ended)))
tree_before list older ended next n before node d e less at is =
    let here = tree_at n ended less in
    let x : Built = built here.root (suc (count here.below)) in
    let F = nodes (front n ended) in
    let B = nodes here.below in
    let R = nodes (rest (suc n) ended) in
    let fronts : nodes (front (suc n) ended) ≡ F ++ (B ++ (x ∷ [])) =
    ap nodes here.front_is ∙ nodes-beside (front n ended) (tree here.root here.below none) in
    let all : nodes ended ≡ (F ++ (B ++ (x ∷ []))) ++ R =
    ap nodes (whole (suc n) ended) ∙ (nodes-beside (front (suc n) ended) (rest (suc n) ended) ∙ ap (λ (l : List Built). l ++ R) fronts) in
    let shape : list ≡ ((older ++ F) ++ B) ++ (x ∷ R) = e ∙ (ap (λ (l : List Built). older ++ l) all ∙ regroup older F B R x) in
    let up_to : older ++ nodes (front (suc n) ended) ≡ ((older ++ F) ++ B) ++ (x ∷ []) = ap (λ (l : List Built). older ++ l) fronts ∙ regroup_front older F B x in
    let long : before ≡ length ((older ++ F) ++ B) + 1 = at ∙ (ap length up_to ∙ length-append ((older ++ F) ++ B) (x ∷ [])) in
    let place : before - 1 ≡ length ((older ++ F) ++ B) = omega arith in
    let found : get_or list (before - 1) d ≡ x =
    ap (λ (l : List Built). get_or l (before - 1) d) shape
    ∙ (ap (λ (k : ℕ). get_or (((older ++ F) ++ B) ++ (x ∷ R)) k d) place ∙ get_or-append_seam ((older ++ F) ++ B) x R d) in
    let same : node ≡ x = is ∙ found in
    let size : node.size ≡ suc (count here.below) = ap (λ (b : Built). b.size) same in
    let split = length-append (older ++ F) B in
    let many = length-nodes here.below in
    (ap (λ (b : Built). b.first) same ∙ sym (ap (λ (f : Forest Span). start_of next f) here.rest_is), omega arith)

-- one tree more is passed
pub one_tree_more : (list older : List Built) (ended : Forest Span) (next j before : ℕ) (node d : Built) →
    list ≡ older ++ nodes ended → before ≡ length (older ++ nodes (front (trees ended - j) ended)) → length older < before → node ≡ get_or list (before - 1) d →
    (node.first ≡ start_of next (rest (trees ended - (j + 1)) ended)) × (before - node.size ≡ length (older ++ nodes (front (trees ended - (j + 1)) ended)))
one_tree_more list older ended next j before node d e at more is = go (trees ended - j) refl
  where
    Goal : ℕ → Type 0
    Goal m = (node.first ≡ start_of next (rest m ended)) × (before - node.size ≡ length (older ++ nodes (front m ended)))

    go : (k : ℕ) → k ≡ trees ended - j → Goal (trees ended - (j + 1))
    go zero z =
        let at_none : before ≡ length (older ++ nodes (front 0 ended)) = at ∙ ap (λ (k : ℕ). length (older ++ nodes (front k ended))) (sym z) in
        let none_there : before ≡ length (older ++ []) = at_none ∙ ap (λ (f : Forest Span). length (older ++ nodes f)) (front_none ended) in
        let sum = length-append older [] in
        absurd (omega arith)
    go (suc m) s =
        let here : before ≡ length (older ++ nodes (front (suc m) ended)) = at ∙ ap (λ (k : ℕ). length (older ++ nodes (front k ended))) (sym s) in
        let less : m < trees ended = omega arith in
        let same : m ≡ trees ended - (j + 1) = omega arith in
        subst Goal same (tree_before list older ended next m before node d e less here is)

-- none is passed where none is left
pub no_tree_more : (list older : List Built) (ended : Forest Span) (next j before first : ℕ) →
    list ≡ older ++ nodes ended → before ≡ length (older ++ nodes (front (trees ended - j) ended)) → first ≡ start_of next (rest (trees ended - j) ended) →
    (length older < before → ⊥) →
    (first ≡ start_of next (rest (trees ended - (j + 1)) ended)) × (before ≡ length (older ++ nodes (front (trees ended - (j + 1)) ended)))
no_tree_more list older ended next j before first e at begins none_left = go (trees ended - j) refl
  where
    Goal : ℕ → Type 0
    Goal m = (first ≡ start_of next (rest m ended)) × (before ≡ length (older ++ nodes (front m ended)))

    go : (k : ℕ) → k ≡ trees ended - j → Goal (trees ended - (j + 1))
    go zero z =
        let same : trees ended - j ≡ trees ended - (j + 1) = omega arith in
        subst Goal same (begins, at)
    go (suc m) s =
        let less : m < trees ended = omega arith in
        let here = tree_at m ended less in
        let fronts : nodes (front (suc m) ended) ≡ nodes (front m ended) ++ (nodes here.below ++ (built here.root (suc (count here.below)) ∷ [])) =
        ap nodes here.front_is ∙ nodes-beside (front m ended) (tree here.root here.below none) in
        let long : before ≡ length (older ++ (nodes (front m ended) ++ (nodes here.below ++ (built here.root (suc (count here.below)) ∷ [])))) =
        at ∙ (ap (λ (k : ℕ). length (older ++ nodes (front k ended))) (sym s) ∙ ap (λ (l : List Built). length (older ++ l)) fronts) in
        let first_sum = length-append older (nodes (front m ended) ++ (nodes here.below ++ (built here.root (suc (count here.below)) ∷ []))) in
        let second_sum = length-append (nodes (front m ended)) (nodes here.below ++ (built here.root (suc (count here.below)) ∷ [])) in
        let third_sum = length-append (nodes here.below) (built here.root (suc (count here.below)) ∷ []) in
        absurd (none_left (omega arith))

-- the first trees have no more nodes than all
pub front_within : (n : ℕ) (f : Forest Span) (list older : List Built) → list ≡ older ++ nodes f → length (older ++ nodes (front n f)) ≤ length list
front_within n f list older e =
    let all : nodes f ≡ nodes (front n f) ++ nodes (rest n f) = ap nodes (whole n f) ∙ nodes-beside (front n f) (rest n f) in
    let shape : length list ≡ length (older ++ (nodes (front n f) ++ nodes (rest n f))) = ap length e ∙ ap (λ (l : List Built). length (older ++ l)) all in
    let first_sum = length-append older (nodes (front n f) ++ nodes (rest n f)) in
    let second_sum = length-append (nodes (front n f)) (nodes (rest n f)) in
    let third_sum = length-append older (nodes (front n f)) in
    omega arith
