-- The numbers of names in a set.
use Rattle.std.proofs.Common.{zero, ◌⊎◌, inl, inr, ◌≡◌, ℕ, suc, ◌<◌, ◌≤◌, Bool, true, false, cond, List, [], ◌∷◌, ◌++◌, length, slice_get, Some, None, MatchBool, Contains, position, nat_lt, refl, sym, ap, ◌∙◌, arith}
use Rattle.std.specs.Prelude.{Vec}
use Rattle.std.specs.declared.alloc.Global.{Global}
use Rattle.std.specs.List.{position_or_len}
use Rattle.std.specs.Str.{bytes_eq}
use Rattle.std.specs.Cmp.Lexicographic.{nat_list_eq_equiv}
use Rattle.std.proofs.lemmas.List.{append-nil, length-map}
use Rattle.std.proofs.lemmas.Option.{slice_get-get_or}
use Rattle.std.proofs.lemmas.Bool.Decides.{nat_tests}
use Rattle.zw_names.specs.NameSets.{number_in}
use Rattle.zw_names.proofs.SetLemmas.{bytes_eq-same, same_bytes, names_of}

-- the place of the first key that is a name is the number of the name
number_in-place : (q : List ℕ) (keys : List (Vec ℕ Global)) → number_in (names_of keys) q ≡ position_or_len (λ (k : Vec ℕ Global). bytes_eq q k.items) keys
number_in-place q [] = refl
number_in-place q (k ∷ ks) = by (bytes_eq q k.items) refl (nat_list_eq_equiv.symm k.items q) (number_in-place q ks)
  where
    by : (b : Bool) → bytes_eq q k.items ≡ b → bytes_eq k.items q ≡ bytes_eq q k.items → number_in (names_of ks) q ≡ position_or_len (λ (k : Vec ℕ Global). bytes_eq q k.items) ks
        → number_in (names_of (k ∷ ks)) q ≡ position_or_len (λ (k : Vec ℕ Global). bytes_eq q k.items) (k ∷ ks)
    by true e flip rest = rw (flip, e) refl
    by false e flip rest = rw (flip, e) (ap suc rest ∙ omega arith)

pub number_in-within : (names : List (List ℕ)) (q : List ℕ) → number_in names q ≤ length names
number_in-within [] q = omega arith
number_in-within (name ∷ names) q = by (bytes_eq name q) refl (number_in-within names q)
  where
    by : (b : Bool) → bytes_eq name q ≡ b → number_in names q ≤ length names → number_in (name ∷ names) q ≤ length (name ∷ names)
    by true e rest = rw e (omega arith)
    by false e rest = rw e (omega arith)

-- what a look-up in a set answers
module _ (q : List ℕ) (keys : List (Vec ℕ Global)) where
  pub number_in-Some : (n : ℕ) → Some n ≡ position (λ (k : Vec ℕ Global). bytes_eq q k.items) keys → n ≡ number_in (names_of keys) q
  number_in-Some n e = by (nat_lt (position_or_len (λ (k : Vec ℕ Global). bytes_eq q k.items) keys) (length keys)) refl
    where
      by : (b : Bool) → nat_lt (position_or_len (λ (k : Vec ℕ Global). bytes_eq q k.items) keys) (length keys) ≡ b → n ≡ number_in (names_of keys) q
      by true p =
          let same : Some n ≡ Some (position_or_len (λ (k : Vec ℕ Global). bytes_eq q k.items) keys) = e ∙ ap (λ b. cond b (Some (position_or_len (λ (k : Vec ℕ Global). bytes_eq q k.items) keys)) None) p in
          cc (number_in-place q keys)
      by false p =
          let none : Some n ≡ None = e ∙ ap (λ b. cond b (Some (position_or_len (λ (k : Vec ℕ Global). bytes_eq q k.items) keys)) None) p in
          cc

  pub number_in-None : None ≡ position (λ (k : Vec ℕ Global). bytes_eq q k.items) keys → length keys ≡ number_in (names_of keys) q
  number_in-None e = by (nat_lt (position_or_len (λ (k : Vec ℕ Global). bytes_eq q k.items) keys) (length keys)) refl
    where
      by : (b : Bool) → nat_lt (position_or_len (λ (k : Vec ℕ Global). bytes_eq q k.items) keys) (length keys) ≡ b → length keys ≡ number_in (names_of keys) q
      by true p =
          let some : None ≡ Some (position_or_len (λ (k : Vec ℕ Global). bytes_eq q k.items) keys) = e ∙ ap (λ b. cond b (Some (position_or_len (λ (k : Vec ℕ Global). bytes_eq q k.items) keys)) None) p in
          cc
      by false p =
          let place = number_in-place q keys in
          let below = number_in-within (names_of keys) q in
          let size = length-map keys (λ (k : Vec ℕ Global). k.items) in
          let past : length keys ≤ number_in (names_of keys) q = grind (arith, nat_tests) in
          omega arith

-- a name that is there has a number below the size
number_in-at : (names : List (List ℕ)) (q : List ℕ) (k : ℕ) → slice_get names k ≡ Some q → number_in names q < length names
number_in-at [] q k at = absurd (cc)
number_in-at (name ∷ names) q k at = by (bytes_eq name q) refl k at (number_in-at names q)
  where
    by : (b : Bool) → bytes_eq name q ≡ b → (k : ℕ) → slice_get (name ∷ names) k ≡ Some q → ((j : ℕ) → slice_get names j ≡ Some q → number_in names q < length names) → number_in (name ∷ names) q < length (name ∷ names)
    by true e k at later = rw e (omega arith)
    by false e zero at later = let same : name ≡ q = cc in let twice = bytes_eq-same name q same in absurd (cc)
    by false e (suc k) at later = let rest = later k at in rw e (omega arith)

number_in-there : (names : List (List ℕ)) (q : List ℕ) → Contains names q → number_in names q < length names
number_in-there names q there = number_in-at names q there.0 (slice_get-get_or names there.0 q there.1 ∙ ap Some there.2)

-- a name keeps its number when names are added, or had none and has a later one
pub number_in-more : (names more : List (List ℕ)) (q : List ℕ) → (number_in (names ++ more) q ≡ number_in names q) ⊎ ((number_in names q ≡ length names) × (length names ≤ number_in (names ++ more) q))
number_in-more [] more q = inr (refl, omega arith)
number_in-more (name ∷ names) more q = by (bytes_eq name q) refl (number_in-more names more q)
  where
    by : (b : Bool) → bytes_eq name q ≡ b → (number_in (names ++ more) q ≡ number_in names q) ⊎ ((number_in names q ≡ length names) × (length names ≤ number_in (names ++ more) q))
        → (number_in (name ∷ names ++ more) q ≡ number_in (name ∷ names) q) ⊎ ((number_in (name ∷ names) q ≡ length (name ∷ names)) × (length (name ∷ names) ≤ number_in (name ∷ names ++ more) q))
    by true e rest = inl (rw e refl)
    by false e (inl same) = inl (rw e (ap suc same))
    by false e (inr (size, past)) = inr (rw e (omega arith), rw e (omega arith))

-- two names with one number are the same
pub number_in-same : (names : List (List ℕ)) (p q : List ℕ) → number_in names p < length names → number_in names p ≡ number_in names q → p ≡ q
number_in-same [] p q within same = absurd (omega arith)
number_in-same (name ∷ names) p q within same = by (bytes_eq name p) (bytes_eq name q) refl refl (number_in-same names p q)
  where
    by : (b c : Bool) → bytes_eq name p ≡ b → bytes_eq name q ≡ c → (number_in names p < length names → number_in names p ≡ number_in names q → p ≡ q) → p ≡ q
    by true true e f later = sym (same_bytes name p e) ∙ same_bytes name q f
    by true false e f later = let s = rw (e, f) at same in absurd (omega arith)
    by false true e f later = let s = rw (e, f) at same in absurd (omega arith)
    by false false e f later = let s = rw (e, f) at same in let w = rw e at within in later (omega arith) (omega arith)

-- what stands last in a list
last-got : (names : List (List ℕ)) (q : List ℕ) → slice_get (names ++ q ∷ []) (length names) ≡ Some q
last-got [] q = refl
last-got (name ∷ names) q = last-got names q

-- a name that was put into a set is there
pub number_in-put : (old new : List (List ℕ)) (q : List ℕ) (is_new : Bool) → MatchBool is_new ((new ≡ old ++ q ∷ []) × (Contains old q → ⊥)) ((new ≡ old) × Contains old q) → number_in new q < length new
number_in-put old new q true h = rw h.0 (number_in-at (old ++ q ∷ []) q (length old) (last-got old q))
number_in-put old new q false h = rw h.0 (number_in-there old q h.1)

pub more-put : (old new : List (List ℕ)) (q : List ℕ) (is_new : Bool) → MatchBool is_new ((new ≡ old ++ q ∷ []) × (Contains old q → ⊥)) ((new ≡ old) × Contains old q) → (more : List (List ℕ)) × (new ≡ old ++ more)
more-put old new q true h = (q ∷ [], h.0)
more-put old new q false h = ([], h.0 ∙ sym (append-nil old))
