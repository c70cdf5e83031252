-- The peer of two sized integer types is one of them that has all values of the other.
use Rattle.std.proofs.Common.{◌≡◌, ℕ, Bool, true, false, Option, Some, None, refl, ap, subst, if◌then◌else◌}
use Rattle.zw_num.specs.declared.int_ty.IntTy.{IntTy}
use Rattle.zw_num.specs.declared.int_ty.IntTy.TheVariants.{Sized}
use Rattle.zw_types.specs.TypeTrees.{TypeTree, IntType}
use Rattle.zw_values.specs.Sameness.{is_same}
use Rattle.zw_values.specs.Coercions.{integer_of, has_all}
use Rattle.zw_values.proofs.SameLemmas.{is_same-true}
use Rattle.zw_coerce.proofs.IntegerLemmas.{has_all-refl}
use Rattle.zw_coerce.proofs.laws.peers_of_sized_integers.Goals as goal

some_is : (peer x : TypeTree) → Some x ≡ Some peer → peer ≡ x
some_is peer x h = cc

none_is : (peer : TypeTree) → None ≡ Some peer → ⊥
none_is peer h = cc

has_own : IntTy → Option IntTy → Type 0
has_own a None = ⊥
has_own a (Some ty) = has_all a ty ≡ true

module _ (s t : Bool) (m n : ℕ) (a b : Bool) (peer : TypeTree) where
  Holds : Type 0
  Holds = (u : Bool) × (k : ℕ) × (integer_of peer ≡ Some (Sized u k)) × (has_all (Sized u k) (Sized s m) ≡ true) × (has_all (Sized u k) (Sized t n) ≡ true)

  by_cases : (e p q : Bool) → (e ≡ true → IntType s m a ≡ IntType t n b) → has_all (Sized s m) (Sized t n) ≡ p → has_all (Sized t n) (Sized s m) ≡ q →
      (if e then Some (IntType s m a) else (if p then Some (IntType s m a) else (if q then Some (IntType t n b) else None))) ≡ Some peer → Holds
  unfolding Holds has_own
  by_cases true p q same hp hq h =
      let is : peer ≡ IntType s m a = some_is peer (IntType s m a) h in
      (s, m, ap integer_of is, has_all-refl (Sized s m), subst (has_own (Sized s m)) (ap integer_of (same refl)) (has_all-refl (Sized s m)))
  by_cases false true q same hp hq h = (s, m, ap integer_of (some_is peer (IntType s m a) h), has_all-refl (Sized s m), hp)
  by_cases false false true same hp hq h = (t, n, ap integer_of (some_is peer (IntType t n b) h), hq, has_all-refl (Sized t n))
  by_cases false false false same hp hq h = absurd (none_is peer h)

pub returns : goal.returns
unfolding Holds
returns c = λ s t m n a b peer h.
    by_cases s t m n a b peer (is_same (IntType s m a) (IntType t n b)) (has_all (Sized s m) (Sized t n)) (has_all (Sized t n) (Sized s m))
    (is_same-true (IntType s m a) (IntType t n b)) refl refl h
