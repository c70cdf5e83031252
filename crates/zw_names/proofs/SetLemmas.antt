-- Names in sets, as lists of their bytes.
use Rattle.std.proofs.Common.{◌≡◌, ◌↔◌, ℕ, Bool, true, false, not, ◌||◌, if◌then◌else◌, List, [], ◌∷◌, ◌++◌, map, IsTrue, MatchBool, Contains, refl, sym, ap, ◌∙◌, true≢false}
use Rattle.std.specs.Prelude.{Vec}
use Rattle.std.specs.declared.alloc.Global.{Global}
use Rattle.std.specs.List.{list_any}
use Rattle.std.specs.Str.{bytes_eq}
use Rattle.std.specs.Cmp.Lexicographic.{nat_list_eq_equiv}
use Rattle.std.proofs.lemmas.List.{map_push}
use Rattle.std.proofs.lemmas.Slice.Eq.{bytes_eq-Decides}
use Rattle.std.proofs.lemmas.Map.Views.{Contains-from_any, list_any-from_Contains}
use Rattle.indexmap.specs.IndexSet.{insert_key}

-- names with the same bytes are the same
pub same_bytes : (x y : List ℕ) → bytes_eq x y ≡ true → x ≡ y
same_bytes x y = (bytes_eq-Decides x y).0

pub bytes_eq-same : (x y : List ℕ) → x ≡ y → bytes_eq x y ≡ true
bytes_eq-same x y = (bytes_eq-Decides x y).1

pub bytes_eq-apart : (x y : List ℕ) → (x ≡ y → ⊥) → bytes_eq x y ≡ false
bytes_eq-apart x y apart = not_from (bytes_eq x y) refl
  where
    not_from : (b : Bool) → bytes_eq x y ≡ b → bytes_eq x y ≡ false
    not_from true e = absurd (apart (same_bytes x y e))
    not_from false e = e

-- a name is in a list exactly if a test finds it
pub Contains-any : (q : List ℕ) (xs : List (List ℕ)) → list_any (bytes_eq q) xs ≡ true → Contains xs q
Contains-any q xs found = Contains-from_any same_bytes q xs found

pub any-Contains : (q : List ℕ) (xs : List (List ℕ)) → Contains xs q → list_any (bytes_eq q) xs ≡ true
any-Contains q xs there = list_any-from_Contains nat_list_eq_equiv q xs there

pub absent : (q : List ℕ) (xs : List (List ℕ)) → list_any (bytes_eq q) xs ≡ false → Contains xs q → ⊥
absent q xs none there = true≢false (sym (any-Contains q xs there) ∙ none)

pub any-absent : (q : List ℕ) (xs : List (List ℕ)) → (Contains xs q → ⊥) → list_any (bytes_eq q) xs ≡ false
any-absent q xs none = by (list_any (bytes_eq q) xs) refl
  where
    by : (b : Bool) → list_any (bytes_eq q) xs ≡ b → list_any (bytes_eq q) xs ≡ false
    by true e = absurd (none (Contains-any q xs e))
    by false e = e

-- the names that keys are
abbrev pub names_of : List (Vec ℕ Global) → List (List ℕ)
names_of keys = map (λ (k : Vec ℕ Global). k.items) keys

pub any_key : (q : List ℕ) (keys : List (Vec ℕ Global)) → list_any (λ (k : Vec ℕ Global). bytes_eq q k.items) keys ≡ list_any (bytes_eq q) (names_of keys)
any_key q [] = refl
any_key q (k ∷ ks) = ap (λ b. bytes_eq q k.items || b) (any_key q ks)

-- what a set finds
pub IsTrue-holds : (q : List ℕ) (keys : List (Vec ℕ Global)) (r : Bool) → r ≡ list_any (λ (k : Vec ℕ Global). bytes_eq q k.items) keys → IsTrue r ↔ Contains (names_of keys) q
IsTrue-holds q keys r e = (
  λ t. Contains-any q (names_of keys) (sym (e ∙ any_key q keys) ∙ t),
  λ there. e ∙ any_key q keys ∙ any-Contains q (names_of keys) there,
)

-- a name that is put into a set goes last where it is new
pub MatchBool-insert : (keys keys' : List (Vec ℕ Global)) (v : Vec ℕ Global) (name : List ℕ) (is_new : Bool) → v.items ≡ name
    → is_new ≡ not (list_any (λ (k : Vec ℕ Global). bytes_eq v.items k.items) keys)
    → keys' ≡ insert_key (λ (a b : Vec ℕ Global). bytes_eq a.items b.items) keys v
    → MatchBool is_new
    ((names_of keys' ≡ names_of keys ++ name ∷ []) × (Contains (names_of keys) name → ⊥))
    ((names_of keys' ≡ names_of keys) × Contains (names_of keys) name)
MatchBool-insert keys keys' v name is_new e added put = by (list_any (λ (k : Vec ℕ Global). bytes_eq v.items k.items) keys) refl
  where
    found : (b : Bool) → list_any (λ (k : Vec ℕ Global). bytes_eq v.items k.items) keys ≡ b → list_any (bytes_eq name) (names_of keys) ≡ b
    found b p = ap (λ q. list_any (bytes_eq q) (names_of keys)) (sym e) ∙ sym (any_key v.items keys) ∙ p

    by : (b : Bool) → list_any (λ (k : Vec ℕ Global). bytes_eq v.items k.items) keys ≡ b
        → MatchBool is_new ((names_of keys' ≡ names_of keys ++ name ∷ []) × (Contains (names_of keys) name → ⊥))
        ((names_of keys' ≡ names_of keys) × Contains (names_of keys) name)
    by true p =
        let kept = put ∙ ap (λ b. if b then keys else keys ++ v ∷ []) p in
        rw (added ∙ ap not p)
        (ap names_of kept, Contains-any name (names_of keys) (found true p))
    by false p =
        let pushed = put ∙ ap (λ b. if b then keys else keys ++ v ∷ []) p in
        rw (added ∙ ap not p) (
          ap names_of pushed ∙ map_push (λ (k : Vec ℕ Global). k.items) keys v ∙ ap (λ n. names_of keys ++ n ∷ []) e,
          absent name (names_of keys) (found false p),
        )
