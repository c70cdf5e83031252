-- What the test of two types tells.
use Rattle.std.specs.Prelude.{◌≡◌, refl, ℕ, Bool, true, false, ◌&&◌, nat_eq, nat_lt, if◌then◌else◌}
use Rattle.std.proofs.Common.{sym, ap, ◌∙◌, subst}
use Rattle.std.proofs.lemmas.Bool.{eqb-true, eq-eqb}
use Rattle.zw_types.specs.TypeTrees as tree
use Rattle.zw_types.specs.TypeTrees.{TypeTree}
use Rattle.zw_types.specs.SameTypes.{same_type}
use Rattle.zw_values.specs.Sameness.{are_equal, tag, same_truth, same_integers, alike, is_same}

are_equal-refl : (a : TypeTree) → are_equal a a ≡ true
unfolding are_equal
are_equal-refl a = elim (same_type a a) as (λ d. (elim d [ yes _ ↦ true | no _ ↦ false ]) ≡ true) [ yes _ ↦ refl | no n ↦ absurd (n refl) ]

are_equal-true : (a b : TypeTree) → are_equal a b ≡ true → a ≡ b
unfolding are_equal
are_equal-true a b h = at (same_type a b) h
  where
    at : (d : Dec (a ≡ b)) → (elim d [ yes _ ↦ true | no _ ↦ false ]) ≡ true → a ≡ b
    at (yes e) h = e
    at (no n) h = cc

-- the type without parts, and without bits, that has the number
abbrev untag : ℕ → TypeTree
untag k =
    if nat_eq k 2 then tree.ComptimeIntType else (if nat_eq k 3 then tree.BoolType else (if nat_eq k 4 then tree.VoidType else (
    if nat_eq k 5 then tree.NoReturnType else (if nat_eq k 6 then tree.TypeType else (if nat_eq k 7 then tree.NullType else (
    if nat_eq k 8 then tree.UndefinedType else (if nat_eq k 9 then tree.EnumLiteralType else tree.AnyErrorType)))))))

plain-back : (b : TypeTree) → nat_lt 1 (tag b) ≡ true → untag (tag b) ≡ b
plain-back tree.ComptimeIntType h = refl
plain-back tree.BoolType h = refl
plain-back tree.VoidType h = refl
plain-back tree.NoReturnType h = refl
plain-back tree.TypeType h = refl
plain-back tree.NullType h = refl
plain-back tree.UndefinedType h = refl
plain-back tree.EnumLiteralType h = refl
plain-back tree.AnyErrorType h = refl
plain-back _ h = cc

of_plain : (a b : TypeTree) → nat_lt 1 (tag a) ≡ true → tag a ≡ tag b → a ≡ b
of_plain a b h e = sym (plain-back a h) ∙ ap untag e ∙ plain-back b (subst (λ (k : ℕ). nat_lt 1 k ≡ true) e h)

same_truth-eq : (a b : Bool) → same_truth a b ≡ true → a ≡ b
same_truth-eq true true h = refl
same_truth-eq false false h = refl
same_truth-eq true false h = cc
same_truth-eq false true h = cc

same_truth-refl : (a : Bool) → same_truth a a ≡ true
same_truth-refl true = refl
same_truth-refl false = refl

first_of : (a b : Bool) → a && b ≡ true → a ≡ true
first_of true b h = refl
first_of false b h = cc

second_of : (a b : Bool) → a && b ≡ true → b ≡ true
second_of true b h = h
second_of false b h = cc

integers-eq : (s : Bool) (n : ℕ) (z : Bool) (b : TypeTree) → same_integers (tree.IntType s n z) b ≡ true → tree.IntType s n z ≡ b
integers-eq s n z (tree.IntType s' n' z') h =
    let first = same_truth-eq s s' (first_of (same_truth s s') (nat_eq n n' && same_truth z z') h) in
    let rest = second_of (same_truth s s') (nat_eq n n' && same_truth z z') h in
    let second = eqb-true n n' (first_of (nat_eq n n') (same_truth z z') rest) in
    let third = same_truth-eq z z' (second_of (nat_eq n n') (same_truth z z') rest) in
    λ i. tree.IntType (first i) (second i) (third i)
integers-eq s n z _ h = cc

of_alike : (a b : TypeTree) → tag a ≡ tag b → alike (tag a) a b ≡ true → a ≡ b
of_alike (tree.IntType s n z) b e h = integers-eq s n z b h
of_alike tree.ComptimeIntType b e h = of_plain tree.ComptimeIntType b refl e
of_alike tree.BoolType b e h = of_plain tree.BoolType b refl e
of_alike tree.VoidType b e h = of_plain tree.VoidType b refl e
of_alike tree.NoReturnType b e h = of_plain tree.NoReturnType b refl e
of_alike tree.TypeType b e h = of_plain tree.TypeType b refl e
of_alike tree.NullType b e h = of_plain tree.NullType b refl e
of_alike tree.UndefinedType b e h = of_plain tree.UndefinedType b refl e
of_alike tree.EnumLiteralType b e h = of_plain tree.EnumLiteralType b refl e
of_alike tree.AnyErrorType b e h = of_plain tree.AnyErrorType b refl e
of_alike a b e h = are_equal-true a b h

pub is_same-true : (a b : TypeTree) → is_same a b ≡ true → a ≡ b
unfolding is_same
is_same-true a b h = of_test (nat_eq (tag a) (tag b)) refl h
  where
    of_test : (t : Bool) → nat_eq (tag a) (tag b) ≡ t → (elim t [ true ↦ alike (tag a) a b | false ↦ false ]) ≡ true → a ≡ b
    of_test true e h = of_alike a b (eqb-true (tag a) (tag b) e) h
    of_test false e h = cc

integers-refl : (s : Bool) (n : ℕ) (z : Bool) → same_truth s s && (nat_eq n n && same_truth z z) ≡ true
integers-refl s n z =
    ap (λ (x : Bool). x && (nat_eq n n && same_truth z z)) (same_truth-refl s) ∙ ap (λ (x : Bool). x && same_truth z z) (eq-eqb n n refl) ∙ same_truth-refl z

pub is_same-refl : (a : TypeTree) → is_same a a ≡ true
unfolding is_same
is_same-refl (tree.IntType s n z) = integers-refl s n z
is_same-refl tree.ComptimeIntType = refl
is_same-refl tree.BoolType = refl
is_same-refl tree.VoidType = refl
is_same-refl tree.NoReturnType = refl
is_same-refl tree.TypeType = refl
is_same-refl tree.NullType = refl
is_same-refl tree.UndefinedType = refl
is_same-refl tree.EnumLiteralType = refl
is_same-refl tree.AnyErrorType = refl
is_same-refl a = are_equal-refl a

pub is_same-apart : (a b : TypeTree) → (a ≡ b → ⊥) → is_same a b ≡ false
is_same-apart a b n = at (is_same a b) (is_same-true a b)
  where
    at : (t : Bool) → (t ≡ true → a ≡ b) → t ≡ false
    at true same = absurd (n (same refl))
    at false same = refl
