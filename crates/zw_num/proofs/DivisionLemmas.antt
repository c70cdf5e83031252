-- The quotient rounded down from the one rounded toward zero, and what both leave.
use Rattle.std.proofs.Common.{◌≡◌, ℕ, zero, suc, ◌+◌, ◌*◌, ◌/◌, ◌%◌, ◌^◌, ◌<◌, ◌≤◌, inl, inr, ℤ, pos, negsuc, ◌+ℤ◌, ◌-ℤ◌, ◌*ℤ◌, neg_ℤ, Bool, true, false, ◌&&◌, ◌||◌, Result, Ok, Err, if◌then◌else◌, FitsSigned, ◌⊎◌, ◌<ℤ◌, refl, ap, sym, subst, ◌∙◌, arith}
use Rattle.std.proofs.lemmas.Int.{ints, quot-rem, rem_below}
use Rattle.std.proofs.lemmas.Nat.{div-mul-add, mod-mul-add}
use Rattle.std.proofs.lemmas.Bool.{cases_lt, cases_order}
use Rattle.std.proofs.Math.Nat.{div-le_self, mod-le, mul_comm, mul-le-mul_right}
use Rattle.std.proofs.Math.IntN.{*ℤ_comm}
use Rattle.std.specs.Prelude.{unsigned_abs, int_lt, int_div, int_rem}
use Rattle.std.specs.Int.{IsNonZero, w128, cast_signed, cast_unsigned}
use lib.Signed.{mag}
use borrow.Author.Differences.{up, down}
use Rattle.zw_num.specs.declared.int_ty.IntTy.{IntTy}
use Rattle.zw_num.specs.declared.num_fault.NumFault.{NumFault}
use Rattle.zw_num.specs.declared.num_fault.NumFault.TheVariants.{Overflow, Remainder}
use Rattle.zw_num.specs.Arithmetic.{IsType, IsIn, is_in, IsTruncated, IsFloored, SameSide, truncated, floored, rest_of, divided, without_rest, exact_quotient}
use Rattle.zw_num.proofs.ExactLemmas.{wide}
use Rattle.zw_num.proofs.ShiftLemmas.{none_left, some_left}
use Rattle.zw_num.proofs.WrappedLemmas.{read_back}

pub rest_is : (a b : ℤ) → rest_of a b (truncated a b) ≡ int_rem a b
rest_is a b = let whole = quot-rem a b in let turned = *ℤ_comm b (int_div a b) in omega (arith, ints)

-- the next number's quotient: one more where it leaves nothing
record Step (m d : ℕ) : Type 0 where
  none : suc m % suc d ≡ 0 → suc m / suc d ≡ suc (m / suc d)
  some : 0 < suc m % suc d → suc m / suc d ≡ m / suc d

step : (m d : ℕ) → Step m d
step m d =
    let whole : m / suc d * suc d + m % suc d ≡ m = omega arith in
    elim (cases_lt (suc (m % suc d)) (suc d)) [
      | inl below ↦
          let same : suc m ≡ m / suc d * suc d + suc (m % suc d) = omega arith in
          let quotient : suc m / suc d ≡ m / suc d = ap (λ (n : ℕ). n / suc d) same ∙ div-mul-add (m / suc d) (suc d) (suc (m % suc d)) below in
          let rest : suc m % suc d ≡ suc (m % suc d) = ap (λ (n : ℕ). n % suc d) same ∙ mod-mul-add (m / suc d) (suc d) (suc (m % suc d)) below in
          record { none = λ e. absurd (omega arith); some = λ h. quotient }
      | inr full ↦
          let same : suc m ≡ suc (m / suc d) * suc d + 0 = omega arith in
          let quotient : suc m / suc d ≡ suc (m / suc d) = ap (λ (n : ℕ). n / suc d) same ∙ div-mul-add (suc (m / suc d)) (suc d) 0 (omega arith) in
          let rest : suc m % suc d ≡ 0 = ap (λ (n : ℕ). n % suc d) same ∙ mod-mul-add (suc (m / suc d)) (suc d) 0 (omega arith) in
          record { none = λ e. quotient; some = λ h. absurd (omega arith) }
    ]

-- a rest is on the other side of 0 than b
abbrev pub is_across : ℤ → ℤ → Bool
is_across rest b = (int_lt rest (pos 0) && int_lt (pos 0) b) || (int_lt (pos 0) rest && int_lt b (pos 0))

-- numbers on different sides of 0: the quotient is the negation of m + 1 by d + 1
apart : (m d r : ℕ) → suc m % suc d ≡ suc r → negsuc (m / suc d) ≡ neg_ℤ (pos (suc m / suc d)) -ℤ pos 1
apart m d r e = let there = (step m d).some (omega arith) in omega (arith, ints)

even : (m d : ℕ) → suc m % suc d ≡ 0 → negsuc (m / suc d) ≡ neg_ℤ (pos (suc m / suc d))
even m d e = let there = (step m d).none e in omega (arith, ints)

apart_less : (m d r : ℕ) → suc m % suc d ≡ r → is_across (pos r) (negsuc d) ≡ true → negsuc (m / suc d) ≡ neg_ℤ (pos (suc m / suc d)) -ℤ pos 1
apart_less m d zero q e = absurd (cc)
apart_less m d (suc r) q e = apart m d r q

apart_same : (m d r : ℕ) → suc m % suc d ≡ r → is_across (pos r) (negsuc d) ≡ false → negsuc (m / suc d) ≡ neg_ℤ (pos (suc m / suc d))
apart_same m d zero q e = even m d q
apart_same m d (suc r) q e = absurd (grind arith)

turned_less : (m d r : ℕ) → suc m % suc d ≡ r → is_across (neg_ℤ (pos r)) (pos (suc d)) ≡ true → negsuc (m / suc d) ≡ neg_ℤ (pos (suc m / suc d)) -ℤ pos 1
turned_less m d zero q e = absurd (cc)
turned_less m d (suc r) q e = apart m d r q

turned_same : (m d r : ℕ) → suc m % suc d ≡ r → is_across (neg_ℤ (pos r)) (pos (suc d)) ≡ false → negsuc (m / suc d) ≡ neg_ℤ (pos (suc m / suc d))
turned_same m d zero q e = even m d q
turned_same m d (suc r) q e = absurd (grind arith)

nothing_less : (d r : ℕ) → 0 % suc d ≡ r → is_across (pos r) (negsuc d) ≡ true → ⊥
nothing_less d zero q e = absurd (cc)
nothing_less d (suc r) q e = omega arith

below_both : (d r : ℕ) → is_across (neg_ℤ (pos r)) (negsuc d) ≡ true → ⊥
below_both d zero e = absurd (cc)
below_both d (suc r) e = absurd (cc)

pub floored_less : (a b : ℤ) → (b ≡ pos 0 → ⊥) → is_across (int_rem a b) b ≡ true → floored a b ≡ truncated a b -ℤ pos 1
floored_less (pos a) (pos b) n e = absurd (grind arith)
floored_less (pos zero) (negsuc d) n e = absurd (nothing_less d (0 % suc d) refl e)
floored_less (pos (suc m)) (negsuc d) n e = apart_less m d (suc m % suc d) refl e
floored_less (negsuc m) (pos zero) n e = absurd (n refl)
floored_less (negsuc m) (pos (suc d)) n e = turned_less m d (suc m % suc d) refl e
floored_less (negsuc m) (negsuc d) n e = absurd (below_both d (suc m % suc d) e)

pub floored_same : (a b : ℤ) → (b ≡ pos 0 → ⊥) → is_across (int_rem a b) b ≡ false → floored a b ≡ truncated a b
floored_same (pos a) (pos b) n e = refl
floored_same (pos zero) (negsuc d) n e = let none : 0 / suc d ≡ 0 = omega arith in omega (arith, ints)
floored_same (pos (suc m)) (negsuc d) n e = apart_same m d (suc m % suc d) refl e
floored_same (negsuc m) (pos zero) n e = absurd (n refl)
floored_same (negsuc m) (pos (suc d)) n e = turned_same m d (suc m % suc d) refl e
floored_same (negsuc m) (negsuc d) n e = refl

-- ---- answers

pub divided_is : (b : ℤ) (answer : Result ℤ NumFault) → (b ≡ pos 0 → ⊥) → divided b answer ≡ answer
divided_is (pos zero) answer n = absurd (n refl)
divided_is (pos (suc d)) answer n = refl
divided_is (negsuc d) answer n = refl

-- a remainder, as goals write it
pub rem_read_back : (a b r : ℤ) → mag a < 2 ^ 127 → mag b < 2 ^ 127 → r ≡ int_rem (cast_signed w128 (cast_unsigned w128 a)) (cast_signed w128 (cast_unsigned w128 b)) → r ≡ int_rem a b
rem_read_back a b r f g e = e ∙ ap (λ (x : ℤ). int_rem x (cast_signed w128 (cast_unsigned w128 b))) (read_back a f) ∙ ap (int_rem a) (read_back b g)

-- the quotient is a value of an `i128`, where it is one less
pub floored_fits : (a b : ℤ) → (b ≡ pos 0 → ⊥) → FitsSigned w128 a → is_across (int_rem a b) b ≡ true → FitsSigned w128 (floored a b)
floored_fits (pos a) (pos b) n f e = absurd (grind arith)
floored_fits (pos zero) (negsuc d) n f e = absurd (nothing_less d (0 % suc d) refl e)
floored_fits (pos (suc m)) (negsuc d) n f e = record { sfits = omega (arith, f.sfits, div-le_self m (suc d)) }
floored_fits (negsuc m) (pos zero) n f e = absurd (n refl)
floored_fits (negsuc m) (pos (suc d)) n f e = record { sfits = omega (arith, f.sfits, div-le_self m (suc d)) }
floored_fits (negsuc m) (negsuc d) n f e = absurd (below_both d (suc m % suc d) e)

pub across_read_back : (r b : ℤ) (t : Bool) → mag r < 2 ^ 127 → mag b < 2 ^ 127 → t ≡ is_across (cast_signed w128 (cast_unsigned w128 r)) (cast_signed w128 (cast_unsigned w128 b)) → t ≡ is_across r b
across_read_back r b t f g e = e ∙ ap (λ (x : ℤ). is_across x (cast_signed w128 (cast_unsigned w128 b))) (read_back r f) ∙ ap (is_across r) (read_back b g)

pub div_read_back : (a b q : ℤ) → mag a < 2 ^ 127 → mag b < 2 ^ 127 → q ≡ int_div (cast_signed w128 (cast_unsigned w128 a)) (cast_signed w128 (cast_unsigned w128 b)) → q ≡ int_div a b
div_read_back a b q f g e = e ∙ ap (λ (x : ℤ). int_div x (cast_signed w128 (cast_unsigned w128 b))) (read_back a f) ∙ ap (int_div a) (read_back b g)

-- ---- rests

-- a quotient that is one less leaves b more
rest_more : (a b q : ℤ) → rest_of a b (q -ℤ pos 1) ≡ rest_of a b q +ℤ b
rest_more a b q =
    let parts : up (q -ℤ pos 1) + down q + 1 ≡ down (q -ℤ pos 1) + up q = omega (arith, ints) in
    let above = ap (λ (x : ℕ). up b * x) parts in
    let below = ap (λ (x : ℕ). down b * x) parts in
    omega (arith, ints)

pub rest_less : (a b : ℤ) → (b ≡ pos 0 → ⊥) → is_across (int_rem a b) b ≡ true → rest_of a b (floored a b) ≡ int_rem a b +ℤ b
rest_less a b n e = ap (rest_of a b) (floored_less a b n e) ∙ rest_more a b (truncated a b) ∙ ap (λ (x : ℤ). x +ℤ b) (rest_is a b)

pub rest_same : (a b : ℤ) → (b ≡ pos 0 → ⊥) → is_across (int_rem a b) b ≡ false → rest_of a b (floored a b) ≡ int_rem a b
rest_same a b n e = ap (rest_of a b) (floored_same a b n e) ∙ rest_is a b

-- the two ways for a rest to be across
pub across_sides : (r b : ℤ) → is_across r b ≡ true → ((r <ℤ pos 0) × (pos 0 <ℤ b)) ⊎ ((pos 0 <ℤ r) × (b <ℤ pos 0))
across_sides (pos r) (pos b) e = absurd (grind arith)
across_sides (pos zero) (negsuc b) e = absurd (grind arith)
across_sides (pos (suc r)) (negsuc b) e = inr (omega (arith, ints), omega (arith, ints))
across_sides (negsuc r) (pos zero) e = absurd (grind arith)
across_sides (negsuc r) (pos (suc b)) e = inl (omega (arith, ints), omega (arith, ints))
across_sides (negsuc r) (negsuc b) e = absurd (grind arith)

sum_small : (r b : ℤ) → mag r < 2 ^ 127 → mag b < 2 ^ 127 → is_across r b ≡ true → FitsSigned w128 (r +ℤ b)
sum_small (pos r) (pos b) f g e = absurd (grind arith)
sum_small (pos r) (negsuc b) f g e = omega (arith, ints)
sum_small (negsuc r) (pos b) f g e = omega (arith, ints)
sum_small (negsuc r) (negsuc b) f g e = absurd (grind arith)

pub sum_read_back : (r b : ℤ) → mag r < 2 ^ 127 → mag b < 2 ^ 127 → is_across r b ≡ true →
    cast_signed w128 (cast_unsigned w128 (cast_signed w128 (cast_unsigned w128 r) +ℤ cast_signed w128 (cast_unsigned w128 b))) ≡ r +ℤ b
sum_read_back r b f g e =
    ap (λ (x : ℤ). cast_signed w128 (cast_unsigned w128 (x +ℤ cast_signed w128 (cast_unsigned w128 b)))) (read_back r f)
    ∙ ap (λ (x : ℤ). cast_signed w128 (cast_unsigned w128 (r +ℤ x))) (read_back b g) ∙ read_back (r +ℤ b) (sum_small r b f g e).sfits

pub not_nothing : (b : ℤ) → (b ≡ pos 0 → ⊥) → 0 < unsigned_abs b
not_nothing (pos zero) n = absurd (n refl)
not_nothing (pos (suc d)) n = omega arith
not_nothing (negsuc d) n = omega arith

-- what is left is a value of the type
pub rem_in : (ty : IntTy) → IsType ty → (a b : ℤ) → IsIn ty a → IsIn ty (int_rem a b)
rem_in ty h (pos n) b i = let range = wide ty h in let less = mod-le n (unsigned_abs b) in record { at_least = omega (arith, ints, i.at_least, i.at_most); at_most = omega (arith, ints, i.at_least, i.at_most) }
rem_in ty h (negsuc n) b i = let range = wide ty h in let less = mod-le (suc n) (unsigned_abs b) in record { at_least = omega (arith, ints, i.at_least, i.at_most); at_most = omega (arith, ints, i.at_least, i.at_most) }

pub modulo_in : (ty : IntTy) → IsType ty → (a b : ℤ) → (b ≡ pos 0 → ⊥) → IsIn ty b → is_across (int_rem a b) b ≡ true → IsIn ty (int_rem a b +ℤ b)
modulo_in ty h a b n i e =
    let range = wide ty h in
    let near = rem_below a b (not_nothing b n) in
    elim (across_sides (int_rem a b) b e) [
      | inl (low, high) ↦ record { at_least = omega (arith, ints, i.at_least, i.at_most); at_most = omega (arith, ints, i.at_least, i.at_most) }
      | inr (high, low) ↦ record { at_least = omega (arith, ints, i.at_least, i.at_most); at_most = omega (arith, ints, i.at_least, i.at_most) }
    ]

-- ---- exact division

pub whole : (ty : IntTy) (a b : ℤ) → is_in ty (truncated a b) ≡ true → int_rem a b ≡ pos 0 → exact_quotient ty a b ≡ Ok (truncated a b)
whole ty a b there e =
    ap (λ (t : Bool). if t then without_rest (rest_of a b (truncated a b)) Remainder (Ok (truncated a b)) else Err Overflow) there
    ∙ none_left (rest_of a b (truncated a b)) Remainder (Ok (truncated a b)) (rest_is a b ∙ e)

pub broken : (ty : IntTy) (a b : ℤ) → is_in ty (truncated a b) ≡ true → (int_rem a b ≡ pos 0 → ⊥) → exact_quotient ty a b ≡ Err Remainder
broken ty a b there n =
    ap (λ (t : Bool). if t then without_rest (rest_of a b (truncated a b)) Remainder (Ok (truncated a b)) else Err Overflow) there
    ∙ some_left (rest_of a b (truncated a b)) Remainder (Ok (truncated a b)) (λ e. n (sym (rest_is a b) ∙ e))

pub too_large : (ty : IntTy) (a b : ℤ) → is_in ty (truncated a b) ≡ false → exact_quotient ty a b ≡ Err Overflow
too_large ty a b out = ap (λ (t : Bool). if t then without_rest (rest_of a b (truncated a b)) Remainder (Ok (truncated a b)) else Err Overflow) out

pub not_zero : (b : ℤ) → IsNonZero w128 b → b ≡ pos 0 → ⊥
not_zero (pos zero) h e = absurd (omega arith)
not_zero (pos (suc d)) h e = cc
not_zero (negsuc d) h e = cc

-- ---- one quotient

same_count : (a b n : ℕ) (r s : ℤ) → r +ℤ pos (a * n) ≡ s +ℤ pos (b * n) → r <ℤ (s +ℤ pos n) → s <ℤ (r +ℤ pos n) → a ≡ b
same_count a b n r s e p q =
    elim (cases_order a b) [
      | inl same ↦ same
      | inr (inl less) ↦ let more : suc a * n ≤ b * n = mul-le-mul_right n (omega arith) in absurd (omega (arith, ints))
      | inr (inr above) ↦ let more : suc b * n ≤ a * n = mul-le-mul_right n (omega arith) in absurd (omega (arith, ints))
    ]

same_quotient : (q p : ℤ) (n : ℕ) (r s : ℤ) → r +ℤ q *ℤ pos n ≡ s +ℤ p *ℤ pos n → r <ℤ (s +ℤ pos n) → s <ℤ (r +ℤ pos n) → q ≡ p
same_quotient (pos a) (pos b) n r s e f g = ap pos (same_count a b n r s e f g)
same_quotient (pos a) (negsuc b) n r s e f g = let same = same_count (a + b + 1) 0 n r s (omega (arith, ints)) f g in absurd (omega arith)
same_quotient (negsuc a) (pos b) n r s e f g = let same = same_count 0 (a + b + 1) n r s (omega (arith, ints)) f g in absurd (omega arith)
same_quotient (negsuc a) (negsuc b) n r s e f g = ap negsuc (sym (same_count b a n r s (omega (arith, ints)) f g))

negative : (q : ℤ) (d : ℕ) → negsuc d *ℤ q +ℤ q *ℤ pos (suc d) ≡ pos 0
negative (pos n) d = let turned = mul_comm n (suc d) in omega (arith, ints)
negative (negsuc n) d = let turned = mul_comm (suc n) (suc d) in omega (arith, ints)

-- two quotients whose rests are less than the divisor apart
close : (a b q p : ℤ) → rest_of a b q <ℤ (rest_of a b p +ℤ pos (unsigned_abs b)) → rest_of a b p <ℤ (rest_of a b q +ℤ pos (unsigned_abs b)) → q ≡ p
close a (pos n) q p f g = same_quotient q p n (rest_of a (pos n) q) (rest_of a (pos n) p) (let x = *ℤ_comm (pos n) q in let y = *ℤ_comm (pos n) p in omega (arith, ints)) f g
close a (negsuc d) q p f g =
    same_quotient q p (suc d) (rest_of a (negsuc d) p) (rest_of a (negsuc d) q) (let x = negative q d in let y = negative p d in omega (arith, ints)) g f

one_truncated : (a b q : ℤ) → IsTruncated a b q → IsTruncated a b (truncated a b) → q ≡ truncated a b
one_truncated (pos n) b q t u = let near = t.near in let far = u.near in close (pos n) b q (truncated (pos n) b) (omega (arith, ints, t.side, u.side)) (omega (arith, ints, t.side, u.side))
one_truncated (negsuc n) b q t u = let near = t.near in let far = u.near in close (negsuc n) b q (truncated (negsuc n) b) (omega (arith, ints, t.side, u.side)) (omega (arith, ints, t.side, u.side))

one_floored : (a b q : ℤ) → IsFloored a b q → IsFloored a b (floored a b) → q ≡ floored a b
one_floored a (pos n) q t u = let near = t.near in let far = u.near in close a (pos n) q (floored a (pos n)) (omega (arith, ints, t.side, u.side)) (omega (arith, ints, t.side, u.side))
one_floored a (negsuc n) q t u = let near = t.near in let far = u.near in close a (negsuc n) q (floored a (negsuc n)) (omega (arith, ints, t.side, u.side)) (omega (arith, ints, t.side, u.side))

-- ---- the division laws

rem_side : (a b : ℤ) → SameSide (int_rem a b) a
rem_side (pos a) b = omega (arith, ints)
rem_side (negsuc a) b = omega (arith, ints)

pub truncated_law : (a b : ℤ) → (b ≡ pos 0 → ⊥) → IsTruncated a b (truncated a b)
truncated_law a b n = record {
  near = subst (λ (x : ℤ). unsigned_abs x < unsigned_abs b) (sym (rest_is a b)) (rem_below a b (not_nothing b n));
  side = subst (λ (x : ℤ). SameSide x a) (sym (rest_is a b)) (rem_side a b);
}

-- a rest that isn't across is on the side of b
same_side : (r b : ℤ) → (b ≡ pos 0 → ⊥) → is_across r b ≡ false → SameSide r b
same_side (pos r) (pos b) n e = omega (arith, ints)
same_side (pos zero) (negsuc b) n e = omega (arith, ints)
same_side (pos (suc r)) (negsuc b) n e = absurd (grind arith)
same_side (negsuc r) (pos zero) n e = absurd (n refl)
same_side (negsuc r) (pos (suc b)) n e = absurd (grind arith)
same_side (negsuc r) (negsuc b) n e = omega (arith, ints)

sum_near : (r b : ℤ) → is_across r b ≡ true → unsigned_abs r < unsigned_abs b → unsigned_abs (r +ℤ b) < unsigned_abs b
sum_near r (pos b) e h = elim (across_sides r (pos b) e) [ inl (low, high) ↦ omega (arith, ints) | inr (high, low) ↦ absurd (omega (arith, ints)) ]
sum_near r (negsuc b) e h = elim (across_sides r (negsuc b) e) [ inl (low, high) ↦ absurd (omega (arith, ints)) | inr (high, low) ↦ omega (arith, ints) ]

sum_side : (r b : ℤ) → is_across r b ≡ true → unsigned_abs r < unsigned_abs b → SameSide (r +ℤ b) b
sum_side r (pos b) e h = elim (across_sides r (pos b) e) [ inl (low, high) ↦ omega (arith, ints) | inr (high, low) ↦ absurd (omega (arith, ints)) ]
sum_side r (negsuc b) e h = elim (across_sides r (negsuc b) e) [ inl (low, high) ↦ absurd (omega (arith, ints)) | inr (high, low) ↦ omega (arith, ints) ]

floored_by : (a b : ℤ) (across : Bool) → is_across (int_rem a b) b ≡ across → (b ≡ pos 0 → ⊥) → IsFloored a b (floored a b)
floored_by a b true e n = let near = rem_below a b (not_nothing b n) in record {
  near = subst (λ (x : ℤ). unsigned_abs x < unsigned_abs b) (sym (rest_less a b n e)) (sum_near (int_rem a b) b e near);
  side = subst (λ (x : ℤ). SameSide x b) (sym (rest_less a b n e)) (sum_side (int_rem a b) b e near);
}
floored_by a b false e n = record {
  near = subst (λ (x : ℤ). unsigned_abs x < unsigned_abs b) (sym (rest_same a b n e)) (rem_below a b (not_nothing b n));
  side = subst (λ (x : ℤ). SameSide x b) (sym (rest_same a b n e)) (same_side (int_rem a b) b n e);
}

pub floored_law : (a b : ℤ) → (b ≡ pos 0 → ⊥) → IsFloored a b (floored a b)
floored_law a b n = floored_by a b (is_across (int_rem a b) b) refl n

some_divisor : (b : ℤ) (n : ℕ) → n < unsigned_abs b → b ≡ pos 0 → ⊥
some_divisor b n h e = let none = ap unsigned_abs e in omega arith

pub only_truncated : (a b q : ℤ) → IsTruncated a b q → q ≡ truncated a b
only_truncated a b q t = one_truncated a b q t (truncated_law a b (some_divisor b (unsigned_abs (rest_of a b q)) t.near))

pub only_floored : (a b q : ℤ) → IsFloored a b q → q ≡ floored a b
only_floored a b q t = one_floored a b q t (floored_law a b (some_divisor b (unsigned_abs (rest_of a b q)) t.near))
