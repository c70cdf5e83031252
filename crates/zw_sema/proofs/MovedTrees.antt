-- What the walk sees of trees that say the same, where their nodes have other numbers.
use Rattle.std.proofs.Common.{◌≡◌, refl, ℕ, suc, ◌+◌, Bool, true, false, nat_eq, List, ◌∷◌, ap, sym, subst, ◌∙◌}
use Rattle.std.specs.Prelude.{if◌then◌else◌, map}
use Rattle.std.proofs.lemmas.Bool.{eqb-true}
use Rattle.zw_tree.specs.Trees.{Forest, none, tree, count}
use Rattle.zw_tree.specs.Numbering.{inside_first}
use Rattle.zw_tree.specs.declared.ast.Entry.{Entry}
use Rattle.zw_tree.specs.declared.kind.NodeKind.{NodeKind}
use Rattle.zw_env.specs.Children.{kind_of, place_of, is_name, is_word, any_is, has, first_name, declared_name, root_numbered, child_tree, form_roots, forms_below}
use Rattle.zw_sema.specs.Exchanged.{SayTheSame}

-- the number is told apart from all others by what it becomes
abbrev pub IsApart : (ℕ → ℕ) → ℕ → Type 0
IsApart to n = (m : ℕ) → nat_eq (to n) (to m) ≡ nat_eq n m

-- the nodes of this forest, whose first has this number, keep to each other
abbrev pub Fits : (ℕ → ℕ) → ℕ → Forest Entry → Type 0
Fits to n none = Unit {0}
Fits to n (tree root inside behind) =
    IsApart to n × ((to (suc n) ≡ suc (to n)) × ((to (suc (n + count inside)) ≡ suc (to n + count inside)) × (Fits to (suc n) inside × Fits to (suc (n + count inside)) behind)))

-- a forest says what it says
pub says-itself : (f : Forest Entry) → SayTheSame f f
says-itself none = tt
says-itself (tree root inside behind) = (record { kind = refl; place = refl; name = refl; number = refl }, (says-itself inside, says-itself behind))

-- ---- what the roots say

pub any_is-same : (is : NodeKind → Bool) (f g : Forest Entry) → SayTheSame f g → any_is is g ≡ any_is is f
any_is-same is none none s = refl
any_is-same is none (tree root inside behind) s = absurd s
any_is-same is (tree root inside behind) none s = absurd s
any_is-same is (tree root inside behind) (tree root' inside' behind') (r, (i, b)) =
    ap (λ (kind : NodeKind). if is kind then true else any_is is behind') r.kind
    ∙ ap (λ (later : Bool). if is root.node.kind then true else later) (any_is-same is behind behind' b)

first_name-same : (f g : Forest Entry) → SayTheSame f g → first_name g ≡ first_name f
first_name-same none none s = refl
first_name-same none (tree root inside behind) s = absurd s
first_name-same (tree root inside behind) none s = absurd s
first_name-same (tree root inside behind) (tree root' inside' behind') (r, (i, b)) =
    ap (λ (kind : NodeKind). if is_name kind then root'.name else first_name behind') r.kind
    ∙ ap (λ (name : List ℕ). if is_name root.node.kind then name else first_name behind') r.name
    ∙ ap (λ (later : List ℕ). if is_name root.node.kind then root.name else later) (first_name-same behind behind' b)

pub inside-same : (f g : Forest Entry) → SayTheSame f g → SayTheSame (inside_first f) (inside_first g)
inside-same none none s = tt
inside-same none (tree root inside behind) s = absurd s
inside-same (tree root inside behind) none s = absurd s
inside-same (tree root inside behind) (tree root' inside' behind') (r, (i, b)) = i

pub has-same : (f g : Forest Entry) → SayTheSame f g → (is : NodeKind → Bool) → has g is ≡ has f is
has-same f g s is = any_is-same is (inside_first f) (inside_first g) (inside-same f g s)

pub declared_name-same : (f g : Forest Entry) → SayTheSame f g → declared_name g ≡ declared_name f
declared_name-same f g s = first_name-same (inside_first f) (inside_first g) (inside-same f g s)

pub kind-same : (f g : Forest Entry) → SayTheSame f g → kind_of g ≡ kind_of f
kind-same none none s = refl
kind-same none (tree root inside behind) s = absurd s
kind-same (tree root inside behind) none s = absurd s
kind-same (tree root inside behind) (tree root' inside' behind') (r, (i, b)) = r.kind

pub place-same : (f g : Forest Entry) → SayTheSame f g → place_of g ≡ place_of f
place-same none none s = refl
place-same none (tree root inside behind) s = absurd s
place-same (tree root inside behind) none s = absurd s
place-same (tree root inside behind) (tree root' inside' behind') (r, (i, b)) = r.place

pub count-same : (f g : Forest Entry) → SayTheSame f g → count g ≡ count f
count-same none none s = refl
count-same none (tree root inside behind) s = absurd s
count-same (tree root inside behind) none s = absurd s
count-same (tree root inside behind) (tree root' inside' behind') (r, (i, b)) =
    ap (λ (n : ℕ). suc (n + count behind')) (count-same inside inside' i) ∙ ap (λ (n : ℕ). suc (count inside + n)) (count-same behind behind' b)

-- ---- the numbers of children

abbrev pub RootsMove : (ℕ → ℕ) → ℕ → Forest Entry → Forest Entry → Type 0
RootsMove to n f g = form_roots g (to n) ≡ map to (form_roots f n)

-- the number behind the first tree
abbrev pub past : ℕ → Forest Entry → ℕ
past n inside = suc (n + count inside)

past-moves : (to : ℕ → ℕ) (n : ℕ) (inside inside' : Forest Entry) → SayTheSame inside inside' → to (past n inside) ≡ suc (to n + count inside) → past (to n) inside' ≡ to (past n inside)
past-moves to n inside inside' i e = ap (λ (k : ℕ). suc (to n + k)) (count-same inside inside' i) ∙ sym e

pub roots-move : (to : ℕ → ℕ) (f g : Forest Entry) → SayTheSame f g → (n : ℕ) → Fits to n f → RootsMove to n f g
roots-move to none none s n h = refl
roots-move to none (tree root inside behind) s n h = absurd s
roots-move to (tree root inside behind) none s n h = absurd s
roots-move to (tree root inside behind) (tree root' inside' behind') (r, (i, b)) n (apart, (next, (last, (hi, hb)))) =
    ap (λ (kind : NodeKind). if is_word kind then form_roots behind' (past (to n) inside') else to n ∷ form_roots behind' (past (to n) inside')) r.kind
    ∙ ap (λ (k : ℕ). if is_word root.node.kind then form_roots behind' k else to n ∷ form_roots behind' k) (past-moves to n inside inside' i last)
    ∙ ap (λ (ns : List ℕ). if is_word root.node.kind then ns else to n ∷ ns) (roots-move to behind behind' b (past n inside) hb)
    ∙ by_word (is_word root.node.kind)
  where
    by_word : (word : Bool) →
        (if word then map to (form_roots behind (past n inside)) else to n ∷ map to (form_roots behind (past n inside))) ≡ map to (if word then form_roots behind (past n inside) else n ∷ form_roots behind (past n inside))
    by_word true = refl
    by_word false = refl

pub forms-move : (to : ℕ → ℕ) (f g : Forest Entry) → SayTheSame f g → (n : ℕ) → Fits to n f → forms_below g (to n) ≡ map to (forms_below f n)
forms-move to none none s n h = refl
forms-move to none (tree root inside behind) s n h = absurd s
forms-move to (tree root inside behind) none s n h = absurd s
forms-move to (tree root inside behind) (tree root' inside' behind') (r, (i, b)) n (apart, (next, (last, (hi, hb)))) =
    ap (λ (k : ℕ). form_roots inside' k) (sym next) ∙ roots-move to inside inside' i (suc n) hi

-- ---- the tree of a child

-- two trees say the same, and the first one's nodes keep to each other
abbrev pub Goes : (ℕ → ℕ) → ℕ → Forest Entry → Forest Entry → Type 0
Goes to n f g = SayTheSame f g × Fits to n f

pub root-moves : (to : ℕ → ℕ) (f g : Forest Entry) → SayTheSame f g → (n : ℕ) → Fits to n f → (m : ℕ) → Goes to m (root_numbered f n m) (root_numbered g (to n) (to m))
root-moves to none none s n h m = (tt, tt)
root-moves to none (tree root inside behind) s n h m = absurd s
root-moves to (tree root inside behind) none s n h m = absurd s
root-moves to (tree root inside behind) (tree root' inside' behind') (r, (i, b)) n (apart, (next, (last, (hi, hb)))) m =
    subst (λ (same : Bool). Goes to m (root_numbered (tree root inside behind) n m) (elim same [ true ↦ tree root' inside' behind' | false ↦ root_numbered behind' (past (to n) inside') (to m) ])) (sym (apart m))
    (subst (λ (k : ℕ). Goes to m (root_numbered (tree root inside behind) n m) (elim (nat_eq n m) [ true ↦ tree root' inside' behind' | false ↦ root_numbered behind' k (to m) ])) (sym (past-moves to n inside inside' i last))
    (by_test (nat_eq n m) refl (root-moves to behind behind' b (past n inside) hb m)))
  where
    by_test : (same : Bool) → nat_eq n m ≡ same → Goes to m (root_numbered behind (past n inside) m) (root_numbered behind' (to (past n inside)) (to m)) →
        Goes to m (elim same [ true ↦ tree root inside behind | false ↦ root_numbered behind (past n inside) m ]) (elim same [ true ↦ tree root' inside' behind' | false ↦ root_numbered behind' (to (past n inside)) (to m) ])
    by_test true e later = ((r, (i, b)), subst (λ (k : ℕ). Fits to k (tree root inside behind)) (eqb-true n m e) (apart, (next, (last, (hi, hb)))))
    by_test false e later = later

pub child-moves : (to : ℕ → ℕ) (f g : Forest Entry) → SayTheSame f g → (n : ℕ) → Fits to n f → (m : ℕ) → Goes to m (child_tree f n m) (child_tree g (to n) (to m))
child-moves to none none s n h m = (tt, tt)
child-moves to none (tree root inside behind) s n h m = absurd s
child-moves to (tree root inside behind) none s n h m = absurd s
child-moves to (tree root inside behind) (tree root' inside' behind') (r, (i, b)) n (apart, (next, (last, (hi, hb)))) m =
    subst (λ (k : ℕ). Goes to m (root_numbered inside (suc n) m) (root_numbered inside' k (to m))) next (root-moves to inside inside' i (suc n) hi m)
