-- The list of all nodes where they stand, by their numbers.
use Rattle.std.proofs.Common.{◌≡◌, ℕ, zero, suc, ◌+◌, ◌<◌, List, [], ◌∷◌, ◌++◌, Some, length, slice_get, refl, sym, ap, ◌∙◌, subst, arith}
use Rattle.std.proofs.lemmas.List.{length-append}
use Rattle.zw_tree.specs.Trees.{Forest, none, tree, count}
use Rattle.zw_tree.specs.Numbering.{from, inside_first, roots, after}
use Rattle.zw_tree.specs.declared.ast.Entry.{Entry}
use Rattle.zw_tree.proofs.Nodes.{node_ind, from-inside, from-behind}
use Rattle.zw_scope_sites.specs.Firsts.{kind_at}
use Rattle.zw_scope_sites.specs.Placing.{walked}
use Rattle.zw_scope_sites.specs.Scopes.{Around, Standing, all_standing, around_file, around_of, behind_child, kind_of, scope_of, standing, stands}

pub length-standing : (a : Around) (k : ℕ) (f : Forest Entry) → length (standing a k f) ≡ count f
length-standing a k none = refl
length-standing a k (tree root inside behind) =
    let inner = length-standing (around_of k root inside (scope_of a (kind_of root) behind)) (suc k) inside in
    let outer = length-standing (behind_child a k (kind_of root) inside) (suc k + count inside) behind in
    let both = length-append (standing (around_of k root inside (scope_of a (kind_of root) behind)) (suc k) inside) (standing (behind_child a k (kind_of root) inside) (suc k + count inside) behind) in
    omega (arith, inner, outer, both)

module _ {X : Type 0} where
  got-left : (xs ys : List X) (i : ℕ) → i < length xs → slice_get (xs ++ ys) i ≡ slice_get xs i
  got-left [] ys i h = absurd (omega arith)
  got-left (x ∷ xs) ys zero h = refl
  got-left (x ∷ xs) ys (suc i) h = got-left xs ys i (omega arith)

  got-right : (xs ys : List X) (j i : ℕ) → j ≡ length xs + i → slice_get (xs ++ ys) j ≡ slice_get ys i
  got-right [] ys j i e = ap (slice_get ys) (let same : j ≡ i = omega arith in same)
  got-right (x ∷ xs) ys zero i e = absurd (omega arith)
  got-right (x ∷ xs) ys (suc j) i e = got-right xs ys j i (omega arith)

-- the list has the nodes of these trees where they stand
pub record Covers (all : List Standing) (a : Around) (k : ℕ) (f : Forest Entry) : Type 0 where
  pub at : (j i : ℕ) → j ≡ k + i → i < count f → slice_get all j ≡ slice_get (standing a k f) i

pub covers-all : (file : Forest Entry) → Covers (all_standing file) around_file 0 file
covers-all file = record { at = λ j i e lt. let same : j ≡ i = omega arith in ap (slice_get (all_standing file)) same }

module _ (all : List Standing) (a : Around) (k : ℕ) (root : Entry) (inside behind : Forest Entry) (covers : Covers all a k (tree root inside behind)) where
  within : Around
  within = around_of k root inside (scope_of a (kind_of root) behind)

  pub covers-first : slice_get all k ≡ Some (stands a k root inside behind)
  covers-first = covers.at k 0 (omega arith) (omega arith)

  pub covers-inside : Covers all (around_of k root inside (scope_of a (kind_of root) behind)) (suc k) inside
  covers-inside = record {
    at = λ j i e lt.
        let size = length-standing (around_of k root inside (scope_of a (kind_of root) behind)) (suc k) inside in
        covers.at j (suc i) (omega arith) (omega arith)
        ∙ got-left (standing (around_of k root inside (scope_of a (kind_of root) behind)) (suc k) inside) (standing (behind_child a k (kind_of root) inside) (suc k + count inside) behind) i (omega (arith, size));
  }

  pub covers-behind : Covers all (behind_child a k (kind_of root) inside) (suc k + count inside) behind
  covers-behind = record {
    at = λ j i e lt.
        let size = length-standing (around_of k root inside (scope_of a (kind_of root) behind)) (suc k) inside in
        covers.at j (suc (count inside + i)) (omega arith) (omega arith)
        ∙ got-right (standing (around_of k root inside (scope_of a (kind_of root) behind)) (suc k) inside) (standing (behind_child a k (kind_of root) inside) (suc k + count inside) behind) (count inside + i) i (omega (arith, size));
  }

-- a node of trees that a list has
pub record IsPlaced (all : List Standing) (f : Forest Entry) (k m : ℕ) (s : Standing) : Type 0 where
  pub got : slice_get all (k + m) ≡ Some s
  pub here : from f m ≡ tree s.entry s.below s.behind
  pub number : s.node ≡ k + m
  pub inside : Covers all (around_of (k + m) s.entry s.below s.scope) (suc (k + m)) s.below

placed-at : (all : List Standing) (f g : Forest Entry) (k l m n : ℕ) (s : Standing) → from g n ≡ from f m → l + n ≡ k + m → IsPlaced all f k m s → IsPlaced all g l n s
placed-at all f g k l m n s same e p = record {
  got = ap (slice_get all) e ∙ p.got;
  here = same ∙ p.here;
  number = p.number ∙ sym e;
  inside = subst (λ (x : ℕ). Covers all (around_of x s.entry s.below s.scope) (suc x) s.below) (sym e) p.inside;
}

pub placed : (all : List Standing) (f : Forest Entry) (m : ℕ) → m < count f → (a : Around) (k : ℕ) → Covers all a k f → (s : Standing) × IsPlaced all f k m s
placed all = node_ind (λ f m. (a : Around) (k : ℕ) → Covers all a k f → (s : Standing) × IsPlaced all f k m s)
    (λ root inside behind a k covers.
    let same : k + 0 ≡ k = omega arith in (
      stands a k root inside behind,
      record {
        got = ap (slice_get all) same ∙ covers-first all a k root inside behind covers;
        here = refl;
        number = sym same;
        inside = subst (λ (x : ℕ). Covers all (around_of x root inside (scope_of a (kind_of root) behind)) (suc x) inside) (sym same) (covers-inside all a k root inside behind covers);
      },
    ))
    (λ root inside behind m lt ih a k covers.
    let r = ih (around_of k root inside (scope_of a (kind_of root) behind)) (suc k) (covers-inside all a k root inside behind covers) in
    (r.0, placed-at all inside (tree root inside behind) (suc k) k m (suc m) r.0 (from-inside root inside behind m lt) (omega arith) r.1))
    (λ root inside behind m lt ih a k covers.
    let r = ih (behind_child a k (kind_of root) inside) (suc k + count inside) (covers-behind all a k root inside behind covers) in
    (r.0, placed-at all behind (tree root inside behind) (suc k + count inside) k m (suc (count inside + m)) r.0 (from-behind root inside behind m) (omega arith) r.1))

-- the children of a node
pub covers-child : (all : List Standing) (a : Around) (k : ℕ) (f : Forest Entry) → Covers all a k f → (i c : ℕ) → slice_get (roots f k) i ≡ Some c → (root : Entry) (inside behind : Forest Entry) → after i f ≡ tree root inside behind → slice_get all c ≡ Some (stands (walked a k f i) c root inside behind)
covers-child all a k none covers i c at root inside behind here = absurd (cc)
covers-child all a k (tree r x b) covers zero c at root inside behind here =
    let number : k ≡ c = cc in
    subst (λ (m : ℕ). slice_get all m ≡ Some (stands a m root inside behind)) number
    (covers-first all a k root inside behind (subst (Covers all a k) here covers))
covers-child all a k (tree r x b) covers (suc i) c at root inside behind here =
    let number : suc (k + count x) ≡ suc k + count x = omega arith in
    covers-child all (behind_child a k (kind_of r) x) (suc k + count x) b (covers-behind all a k r x b covers) i c (ap (λ m. slice_get (roots b m) i) (sym number) ∙ at) root inside behind here

pub walked-next : (a : Around) (k : ℕ) (f : Forest Entry) (i c : ℕ) → slice_get (roots f k) i ≡ Some c → (root : Entry) (inside behind : Forest Entry) → after i f ≡ tree root inside behind → walked a k f (suc i) ≡ behind_child (walked a k f i) c (kind_of root) inside
walked-next a k none i c at root inside behind here = absurd (cc)
walked-next a k (tree r x b) zero c at root inside behind here =
    let number : k ≡ c = cc in
    ap (λ (m : ℕ). behind_child a m (kind_of r) x) number ∙ ap (λ (f : Forest Entry). behind_child a c (kind_at f) (inside_first f)) here
walked-next a k (tree r x b) (suc i) c at root inside behind here =
    let number : suc (k + count x) ≡ suc k + count x = omega arith in
    walked-next (behind_child a k (kind_of r) x) (suc k + count x) b i c (ap (λ m. slice_get (roots b m) i) (sym number) ∙ at) root inside behind here
