-- Two files that differ in one declaration: the members of the second are those of the first by other numbers, and each member of a file can be held apart.
use Rattle.std.proofs.Common.{◌≡◌, ◌≢◌, Some, refl, ℕ, zero, suc, ◌+◌, Bool, true, false, nat_eq, List, [], ◌∷◌, ap, sym, subst, ◌∙◌, arith}
use Rattle.std.specs.Prelude.{if◌then◌else◌, map, slice_get}
use Rattle.std.proofs.lemmas.Bool.{eqb-true, eqb-false, eq-eqb, ne_eqb}
use Rattle.zw_tree.specs.Trees.{Forest, none, tree, count, beside}
use Rattle.zw_tree.specs.Numbering.{roots}
use Rattle.zw_tree.specs.declared.ast.Entry.{Entry}
use Rattle.zw_env.specs.Children.{first_tree, tree_at, kind_of, declared_name, root_numbered, members, is_among}
use Rattle.zw_sema.specs.Walk.{is_declaration}
use Rattle.zw_sema.specs.Files.{NeedsMore, turn_of, analysed, is_reached}
use Rattle.zw_sema.specs.Exchanged.{Parted, declaration_in, whole, number_in, IsExchanged}
use Rattle.zw_sema.proofs.MovedTrees.{IsApart, Goes, past, declared_name-same, kind-same, count-same}
use Rattle.zw_sema.proofs.MovedWalk.{IsMoved, among-moves}
use Rattle.zw_sema.proofs.MovedFiles.{file-reaches}
use Rattle.zw_sema.proofs.MovedNumbers.{AreSizes, behind-fits, behind-moves, declaration-among, declaration-tree, front-roots, front-stays, front-tree, member-tree, moves_to, node-apart, other-tree, root-node, roots-move}

-- ---- whole files

-- what is below the file's root
abbrev pub below_root : Parted → Forest Entry
below_root file = beside file.front (tree file.declaration file.inside file.behind)

abbrev pub size_in : Parted → ℕ
size_in file = suc (count file.inside)

-- what the numbers of the first file become in the second
abbrev pub renumbered : Parted → Parted → ℕ → ℕ
renumbered file other n = moves_to (number_in file) (size_in file) (size_in other) n

own-tree : (file : Parted) → tree_at (whole file) (number_in file) ≡ declaration_in file
own-tree file =
    member-tree file.root (below_root file) (number_in file)
    (subst (λ (k : ℕ). is_among (roots (below_root file) 1) k ≡ true) (let e : 1 + count file.front ≡ suc (count file.front) = omega arith in e)
    (declaration-among file.front file.declaration file.inside file.behind 1))
    ∙ declaration-tree file.front (tree file.declaration file.inside file.behind) 1 (number_in file) (omega arith)
    ∙ ap (λ (same : Bool). first_tree (elim same [ true ↦ tree file.declaration file.inside file.behind | false ↦ root_numbered file.behind (past (number_in file) file.inside) (number_in file) ]))
    (eq-eqb (number_in file) (number_in file) refl)

sizes-of : (file other : Parted) → AreSizes (size_in file) (size_in other)
sizes-of file other = record { size_least = omega arith; other_least = omega arith }

-- the declaration has the same number in both
moved-tree : (file other : Parted) → IsExchanged file other → tree_at (whole other) (renumbered file other (number_in file)) ≡ declaration_in other
moved-tree file other x =
    ap (λ (k : ℕ). tree_at (whole other) k)
    (front-stays (number_in file) (size_in file) (size_in other) (number_in file) (omega arith) ∙ ap (λ (k : ℕ). suc k) (sym (count-same file.front other.front x.front)))
    ∙ own-tree other

numbers-move : (file other : Parted) → IsExchanged file other → members (whole other) ≡ map (renumbered file other) (members (whole file))
numbers-move file other x =
    front-roots (number_in file) (size_in file) (size_in other) (sizes-of file other) file.front other.front x.front file.declaration other.declaration file.inside other.inside file.behind other.behind refl refl
    (ap (λ (k : ℕ). roots other.behind k) (sym first)
    ∙ roots-move (renumbered file other) file.behind other.behind x.behind (number_in file + size_in file)
    (behind-fits (number_in file) (size_in file) (size_in other) (sizes-of file other) file.behind (number_in file + size_in file) (omega arith)))
    1 (omega arith)
  where
    first : renumbered file other (number_in file + size_in file) ≡ number_in file + size_in other
    first =
        let e : moves_to (number_in file) (size_in file) (size_in other) (number_in file + size_in file) + size_in file ≡ (number_in file + size_in file) + size_in other
        = behind-moves (number_in file) (size_in file) (size_in other) (number_in file + size_in file) (sizes-of file other) (omega arith) in omega arith

members-apart : (file other : Parted) (k : ℕ) → is_among (members (whole file)) k ≡ true → IsApart (renumbered file other) k
members-apart file other k among =
    node-apart (number_in file) (size_in file) (size_in other) k (sizes-of file other)
    (root-node (size_in file) file.front file.declaration file.inside file.behind refl 1 (number_in file) k (omega arith) (omega arith) among)

-- a member but the declaration
others-move : (file other : Parted) → IsExchanged file other → (k : ℕ) → is_among (members (whole file)) k ≡ true → nat_eq k (number_in file) ≡ false →
    Goes (renumbered file other) k (tree_at (whole file) k) (tree_at (whole other) (renumbered file other k))
others-move file other x k among apart =
    subst (λ (f : Forest Entry). Goes (renumbered file other) k f (tree_at (whole other) (renumbered file other k))) (sym (member-tree file.root (below_root file) k among))
    (subst (λ (g : Forest Entry). Goes (renumbered file other) k (first_tree (root_numbered (below_root file) 1 k)) g) (sym (member-tree other.root (below_root other) (renumbered file other k) there))
    (front-tree (number_in file) (size_in file) (size_in other) (sizes-of file other) file.front other.front (tree file.declaration file.inside file.behind) (tree other.declaration other.inside other.behind) x.front 1 (omega arith) (omega arith) k
    (other-tree (number_in file) (size_in file) (size_in other) (sizes-of file other) file.declaration other.declaration file.inside other.inside file.behind other.behind x.behind refl refl (omega arith) k swapped)))
  where
    there : is_among (members (whole other)) (renumbered file other k) ≡ true
    there =
        ap (λ (ns : List ℕ). is_among ns (renumbered file other k)) (numbers-move file other x)
        ∙ among-moves (renumbered file other) (members (whole file)) (λ j h. members-apart file other j h) k ∙ among

    swapped : nat_eq (number_in file) k ≡ false
    swapped = ne_eqb (number_in file) k (λ e. eqb-false k (number_in file) apart (sym e))

pub whole-moves : (file other : Parted) → IsExchanged file other → IsMoved (renumbered file other) (whole file) (whole other) (number_in file)
whole-moves file other x = record {
  root = front-stays (number_in file) (size_in file) (size_in other) 0 (omega arith);
  numbers = numbers-move file other x;
  apart = λ k among. members-apart file other k among;
  names = λ k among. by_name k among (nat_eq k (number_in file)) refl;
  sorts = λ k among. by_sort k among (nat_eq k (number_in file)) refl;
  trees = λ k among apart. others-move file other x k among apart;
  waits = ap (λ (f : Forest Entry). turn_of f) (own-tree file) ∙ x.waits;
  waits_too = ap (λ (f : Forest Entry). turn_of f) (moved-tree file other x) ∙ x.waits_too;
}
  where
    by_name : (k : ℕ) → is_among (members (whole file)) k ≡ true → (same : Bool) → nat_eq k (number_in file) ≡ same → declared_name (tree_at (whole other) (renumbered file other k)) ≡ declared_name (tree_at (whole file) k)
    by_name k among false apart = declared_name-same (tree_at (whole file) k) (tree_at (whole other) (renumbered file other k)) (others-move file other x k among apart).0
    by_name k among true e =
        ap (λ (j : ℕ). declared_name (tree_at (whole other) (renumbered file other j))) (eqb-true k (number_in file) e)
        ∙ ap (λ (f : Forest Entry). declared_name f) (moved-tree file other x) ∙ x.name ∙ ap (λ (f : Forest Entry). declared_name f) (sym (own-tree file))
        ∙ ap (λ (j : ℕ). declared_name (tree_at (whole file) j)) (sym (eqb-true k (number_in file) e))

    by_sort : (k : ℕ) → is_among (members (whole file)) k ≡ true → (same : Bool) → nat_eq k (number_in file) ≡ same →
        is_declaration (kind_of (tree_at (whole other) (renumbered file other k))) ≡ is_declaration (kind_of (tree_at (whole file) k))
    by_sort k among false apart = ap (λ kind. is_declaration kind) (kind-same (tree_at (whole file) k) (tree_at (whole other) (renumbered file other k)) (others-move file other x k among apart).0)
    by_sort k among true e =
        ap (λ (j : ℕ). is_declaration (kind_of (tree_at (whole other) (renumbered file other j)))) (eqb-true k (number_in file) e)
        ∙ ap (λ (f : Forest Entry). is_declaration (kind_of f)) (moved-tree file other x) ∙ x.declares_too ∙ sym x.declares ∙ ap (λ (f : Forest Entry). is_declaration (kind_of f)) (sym (own-tree file))
        ∙ ap (λ (j : ℕ). is_declaration (kind_of (tree_at (whole file) j))) (sym (eqb-true k (number_in file) e))

-- ---- each member can be held apart

-- the roots, with one of them apart
pub record Cut (f : Forest Entry) (n k : ℕ) : Type 0 where
  pub front : Forest Entry
  pub declaration : Entry
  pub inside : Forest Entry
  pub behind : Forest Entry
  pub is : beside front (tree declaration inside behind) ≡ f
  pub at : n + count front ≡ k

cut-at : (f : Forest Entry) (n k : ℕ) → is_among (roots f n) k ≡ true → Cut f n k
cut-at none n k among = cc
cut-at (tree root inside behind) n k among = by_test (nat_eq n k) refl among (λ there. cut-at behind (past n inside) k there)
  where
    by_test : (same : Bool) → nat_eq n k ≡ same → (if same then true else is_among (roots behind (past n inside)) k) ≡ true → (is_among (roots behind (past n inside)) k ≡ true → Cut behind (past n inside) k) → Cut (tree root inside behind) n k
    by_test true e there later = let same : n ≡ k = eqb-true n k e in record { front = none; declaration = root; inside = inside; behind = behind; is = refl; at = omega arith }
    by_test false e there later =
        let c = later there in
        let at : suc (n + count inside) + count c.front ≡ k = c.at in
        record {
          front = tree root inside c.front;
          declaration = c.declaration;
          inside = c.inside;
          behind = c.behind;
          is = ap (λ (more : Forest Entry). tree root inside more) c.is;
          at = omega arith;
        }

pub members-part : (root : Entry) (inside : Forest Entry) (n : ℕ) → is_among (members (tree root inside none)) n ≡ true → (file : Parted) × ((whole file ≡ tree root inside none) × (number_in file ≡ n))
members-part root inside n among =
    let c = cut-at inside 1 n among in
    let at : 1 + count c.front ≡ n = c.at in
    (record { root = root; front = c.front; declaration = c.declaration; inside = c.inside; behind = c.behind }, (ap (λ (more : Forest Entry). tree root more none) c.is, omega arith))

-- ---- what was reached

at-among : (ns : List ℕ) (k n : ℕ) → slice_get ns k ≡ Some n → is_among ns n ≡ true
at-among [] k n e = cc
at-among (m ∷ ns) zero n e = ap (λ (same : Bool). if same then true else is_among ns n) (eq-eqb m n (some_is e))
  where
    some_is : Some m ≡ Some n → m ≡ n
    some_is d = cc
at-among (m ∷ ns) (suc k) n e = by_test (nat_eq m n) (at-among ns k n e)
  where
    by_test : (same : Bool) → is_among ns n ≡ true → (if same then true else is_among ns n) ≡ true
    by_test true there = refl
    by_test false there = there

moved-at : (to : ℕ → ℕ) (ns : List ℕ) (k n m : ℕ) → slice_get ns k ≡ Some n → slice_get (map to ns) k ≡ Some m → m ≡ to n
moved-at to [] k n m e d = cc
moved-at to (j ∷ ns) zero n m e d = sym (some_is d) ∙ ap to (own_is e)
  where
    some_is : Some (to j) ≡ Some m → to j ≡ m
    some_is h = cc

    own_is : Some j ≡ Some n → j ≡ n
    own_is h = cc
moved-at to (j ∷ ns) (suc k) n m e d = moved-at to ns k n m e d

pub members-reached : (file other : Parted) (bound : ℕ) → IsExchanged file other → analysed bound (whole file) ≢ NeedsMore → is_reached (number_in file) (analysed bound (whole file)) ≡ false →
    (k n m : ℕ) → slice_get (members (whole file)) k ≡ Some n → slice_get (members (whole other)) k ≡ Some m → is_reached m (analysed bound (whole other)) ≡ is_reached n (analysed bound (whole file))
members-reached file other bound x enough missed k n m e d =
    ap (λ (j : ℕ). is_reached j (analysed bound (whole other)))
    (moved-at (renumbered file other) (members (whole file)) k n m e (ap (λ (ns : List ℕ). slice_get ns k) (sym (numbers-move file other x)) ∙ d))
    ∙ file-reaches (renumbered file other) (whole file) (whole other) (number_in file) bound (whole-moves file other x) enough missed n (at-among (members (whole file)) k n e)
