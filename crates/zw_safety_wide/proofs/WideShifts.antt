-- Numbers that are shifted and shifted back: whether a type has the number, and whether bits are lost.
use Rattle.std.proofs.Common.{◌≡◌, ℕ, zero, suc, ℤ, pos, negsuc, ◌*◌, ◌%◌, ◌^◌, ◌<◌, ◌≤◌, ◌-ℤ◌, ◌*ℤ◌, ◌≤ℤ◌, ◌<ℤ◌, neg_ℤ, Bool, true, false, not, Ok, Err, inl, inr, refl, sym, ap, ◌∙◌, subst, arith}
use Rattle.std.specs.Prelude.{nat_eq, nat_le, int_lt, unsigned_abs, ◌&&◌, ◌||◌, if◌then◌else◌}
use Rattle.std.proofs.lemmas.Bool.{cases_lt, eqb-true}
use Rattle.std.proofs.lemmas.Int.{ints}
use Rattle.std.proofs.lemmas.Nat.{pow_pos}
use Rattle.std.proofs.Math.IntN.{*ℤ_comm}
use Rattle.std.proofs.Math.Nat.{div-le_self, pow-le-pow_right}
use Rattle.zw_num.proofs.DivisionLemmas.{floored_law, only_floored}
use Rattle.zw_num.proofs.ShiftLemmas.{drops_none, drops_some}
use Rattle.zw_num.proofs.WrappedLemmas.{test_from_in, test_from_out, wrapped_congruent, wrapped_in, wrapped_same}
use Rattle.zw_num.specs.Arithmetic.{IsIn, is_in, pattern, width, wrapped, floored, rest_of, none_dropped, IsFloored}
use Rattle.zw_num.specs.declared.int_ty.IntTy.{IntTy}
use Rattle.zw_num.specs.declared.int_ty.IntTy.TheVariants.{Sized, Comptime}
use Rattle.zw_num.specs.declared.num_fault.NumFault.TheVariants.{ShiftBits}
use Rattle.zw_safety_narrow.specs.Operators.{IsStored}
use Rattle.zw_safety_words.proofs.WideAnswers.{divisor_from, divisor_below}
use Rattle.zw_safety_words.proofs.WideBitRuns.{zero_in}
use Rattle.zw_safety_words.proofs.WideWords.{two_words, held, power_long}

-- ---- by a power of two and back

some_power : (p : ℕ) → 0 < p → pos p ≡ pos 0 → ⊥
some_power p h e = omega (arith, ints, e, h)

-- what a quotient by a power that is rounded down leaves
record Leaves (a : ℤ) (p : ℕ) (q : ℤ) : Type 0 where
  low : pos 0 ≤ℤ (a -ℤ q *ℤ pos p)
  high : (a -ℤ q *ℤ pos p) <ℤ pos p

leaves : (a : ℤ) (p : ℕ) → 0 < p → Leaves a p (floored a (pos p))
leaves a p h =
    let q = floored a (pos p) in
    let law = floored_law a (pos p) (some_power p h) in
    let turned = *ℤ_comm (pos p) q in
    let same : rest_of a (pos p) q ≡ a -ℤ q *ℤ pos p = ap (λ z. a -ℤ z) turned in
    let low : pos 0 ≤ℤ (a -ℤ q *ℤ pos p) = subst (λ z. pos 0 ≤ℤ z) same law.side in
    let near : unsigned_abs (a -ℤ q *ℤ pos p) < p = subst (λ z. unsigned_abs z < p) same law.near in
    record { low = low; high = omega (arith, ints, low, near) }

-- a product by the power, rounded down
exact_back : (a : ℤ) (p : ℕ) → 0 < p → floored (a *ℤ pos p) (pos p) ≡ a
exact_back a p h =
    let turned = *ℤ_comm (pos p) a in
    let none : rest_of (a *ℤ pos p) (pos p) a ≡ pos 0 = ap (λ z. a *ℤ pos p -ℤ z) turned ∙ omega (arith, ints) in
    let size : unsigned_abs (rest_of (a *ℤ pos p) (pos p) a) ≡ 0 = ap unsigned_abs none in
    let law : IsFloored (a *ℤ pos p) (pos p) a = record { near = omega (arith, size, h); side = omega (arith, ints, none) } in
    sym (only_floored (a *ℤ pos p) (pos p) a law)

-- a multiple of a number from the number's other side on up to 0
small_multiple : (k : ℤ) (p : ℕ) → (k *ℤ pos p) ≤ℤ pos 0 → neg_ℤ (pos p) <ℤ (k *ℤ pos p) → k *ℤ pos p ≡ pos 0
small_multiple (pos zero) p h l = omega (arith, ints)
small_multiple (pos (suc n)) p h l = omega (arith, ints, h)
small_multiple (negsuc n) p h l = absurd (omega (arith, ints, l))

-- where the value with the lowest bits of a product gives the factor back, it is the product
same_product : (signed : Bool) (count : ℕ) (a : ℤ) (p : ℕ) → 0 < p → p ≤ 2 ^ count → floored (wrapped (Sized signed count) (a *ℤ pos p)) (pos p) ≡ a → wrapped (Sized signed count) (a *ℤ pos p) ≡ a *ℤ pos p
same_product signed count a p h few e =
    let w = wrapped (Sized signed count) (a *ℤ pos p) in
    let turns = wrapped_congruent signed count (a *ℤ pos p) in
    let rest = leaves w p h in
    let low : pos 0 ≤ℤ (w -ℤ a *ℤ pos p) = subst (λ q. pos 0 ≤ℤ (w -ℤ q *ℤ pos p)) e rest.low in
    let high : (w -ℤ a *ℤ pos p) <ℤ pos p = subst (λ q. (w -ℤ q *ℤ pos p) <ℤ pos p) e rest.high in
    let is = turns.1 in
    let none = small_multiple turns.0 (2 ^ count) (omega (arith, ints, is, low)) (omega (arith, ints, is, high, few)) in
    omega (arith, ints, is, none)

floor_in_unsigned : (count p : ℕ) (w : ℤ) → IsIn (Sized false count) w → IsIn (Sized false count) (floored w (pos p))
floor_in_unsigned count p (pos n) i = let less = div-le_self n p in record { at_least = omega (arith, ints); at_most = omega (arith, ints, i.at_most, less) }
floor_in_unsigned count p (negsuc n) i = absurd (omega (arith, ints, i.at_least))

floor_in_signed : (count p : ℕ) (w : ℤ) → IsIn (Sized true count) w → IsIn (Sized true count) (floored w (pos p))
floor_in_signed count p (pos n) i = let less = div-le_self n p in record { at_least = omega (arith, ints); at_most = omega (arith, ints, i.at_most, less) }
floor_in_signed count p (negsuc n) i = let less = div-le_self n p in record { at_least = omega (arith, ints, i.at_least, less); at_most = omega (arith, ints) }

pub floor_in : (signed : Bool) (count p : ℕ) (w : ℤ) → IsIn (Sized signed count) w → IsIn (Sized signed count) (floored w (pos p))
floor_in true count p w i = floor_in_signed count p w i
floor_in false count p w i = floor_in_unsigned count p w i

-- values of a type are told apart by their bits
same_value : (signed : Bool) (count : ℕ) (x y : ℤ) → count ≤ 64 → IsIn (Sized signed count) x → IsIn (Sized signed count) y → pattern 64 x ≡ pattern 64 y → x ≡ y
same_value true count x y h i j e =
    let few = power_long count h in
    let one = two_words x in
    let two = two_words y in
    omega (arith, ints, few, one, two, i.at_least, i.at_most, j.at_least, j.at_most, e)
same_value false count x y h i j e =
    let few = power_long count h in
    let one = two_words x in
    let two = two_words y in
    omega (arith, ints, few, one, two, i.at_least, i.at_most, j.at_least, j.at_most, e)

eq_same : (x y : ℕ) → x ≡ y → nat_eq x y ≡ true
eq_same x y e = grind (arith, e)

-- the number that is shifted back
abbrev pub back : IntTy → ℤ → ℕ → ℤ
back to a p = floored (wrapped to (a *ℤ pos p)) (pos p)

like_for : (t : Bool) (signed : Bool) (count : ℕ) (a : ℤ) (p : ℕ) → count ≤ 64 → IsIn (Sized signed count) a → 0 < p → p ≤ 2 ^ count → nat_eq (pattern 64 (back (Sized signed count) a p)) (pattern 64 a) ≡ t → is_in (Sized signed count) (a *ℤ pos p) ≡ t
like_for true signed count a p h i some few e =
    let to = Sized signed count in
    let w = wrapped to (a *ℤ pos p) in
    let inside = wrapped_in signed count (a *ℤ pos p) in
    let same = same_value signed count (back to a p) a h (floor_in signed count p w inside) i (eqb-true (pattern 64 (back to a p)) (pattern 64 a) e) in
    test_from_in to (a *ℤ pos p) (subst (IsIn to) (same_product signed count a p some few same) inside)
like_for false signed count a p h i some few e =
    let to = Sized signed count in
    test_from_out to (a *ℤ pos p) (λ j.
    let same : back to a p ≡ a = ap (λ z. floored z (pos p)) (wrapped_same signed count (a *ℤ pos p) j) ∙ exact_back a p some in
    let yes = eq_same (pattern 64 (back to a p)) (pattern 64 a) (ap (pattern 64) same) in
    cc)

-- a shift loses bits exactly where the type doesn't have the number
pub lost_is : (to : IntTy) (a : ℤ) (n : ℕ) → IsStored to → IsIn to a → n < width to → not (nat_eq (pattern 64 (back to a (2 ^ n))) (pattern 64 a)) ≡ not (is_in to (a *ℤ pos (2 ^ n)))
lost_is (Sized signed count) a n h i less =
    let few : 2 ^ n ≤ 2 ^ count = pow-le-pow_right {n = 2} (omega arith) (omega (arith, less)) in
    ap not (sym (like_for (nat_eq (pattern 64 (back (Sized signed count) a (2 ^ n))) (pattern 64 a)) signed count a (2 ^ n) h i (pow_pos n) few refl))
lost_is Comptime a n h i less = absurd h

-- ---- to the right

dropped_for : (t : Bool) (a : ℤ) (p : ℕ) → 0 < p → p ≤ 2 ^ 63 → nat_eq (pattern 64 (floored a (pos p) *ℤ pos p)) (pattern 64 a) ≡ t → (if not t then Err ShiftBits else Ok (floored a (pos p))) ≡ none_dropped a (pos p)
dropped_for true a p some few e =
    let q = floored a (pos p) in
    let rest = leaves a p some in
    let bits = eqb-true (pattern 64 (q *ℤ pos p)) (pattern 64 a) e in
    let one = two_words (q *ℤ pos p) in
    let two = two_words a in
    drops_none a (pos p) q refl (omega (arith, ints, one, two, bits, rest.low, rest.high, few))
dropped_for false a p some few e =
    let q = floored a (pos p) in
    drops_some a (pos p) q refl (λ f.
    let yes = eq_same (pattern 64 (q *ℤ pos p)) (pattern 64 a) (ap (pattern 64) f) in
    cc)

pub dropped_is : (a : ℤ) (n : ℕ) → n < 64 → (if not (nat_eq (pattern 64 (floored a (pos (2 ^ n)) *ℤ pos (2 ^ n))) (pattern 64 a)) then Err ShiftBits else Ok (floored a (pos (2 ^ n)))) ≡ none_dropped a (pos (2 ^ n))
dropped_is a n h =
    let lower : n ≤ 63 = omega (arith, h) in
    let few : 2 ^ n ≤ 2 ^ 63 = pow-le-pow_right {n = 2} (omega arith) lower in
    dropped_for (nat_eq (pattern 64 (floored a (pos (2 ^ n)) *ℤ pos (2 ^ n))) (pattern 64 a)) a (2 ^ n) (pow_pos n) few refl

-- ---- by amounts from the width on

-- whether the amount isn't below the width, and the operand isn't 0
abbrev pub is_far : IntTy → ℤ → ℕ → Bool
is_far to a n = nat_le (width to) n && not (nat_eq (pattern 64 a) 0)

more_times : (k p : ℕ) → p ≤ suc k * p
more_times k p = omega arith

far_out : (signed : Bool) (count : ℕ) (a : ℤ) (p : ℕ) → 2 ^ count ≤ p → (a ≡ pos 0 → ⊥) → IsIn (Sized signed count) (a *ℤ pos p) → ⊥
far_out signed count (pos zero) p h n i = n refl
far_out true count (pos (suc x)) p h n i = let more = more_times x p in let some = pow_pos count in omega (arith, ints, more, h, i.at_most, some)
far_out false count (pos (suc x)) p h n i = let more = more_times x p in let some = pow_pos count in omega (arith, ints, more, h, i.at_most, some)
far_out true count (negsuc x) p h n i = let more = more_times x p in let some = pow_pos count in omega (arith, ints, more, h, i.at_least, some)
far_out false count (negsuc x) p h n i = let more = more_times x p in let some = pow_pos count in omega (arith, ints, more, h, i.at_least, some)

or_false : (t : Bool) → (t || false) ≡ t
or_false true = refl
or_false false = refl

or_true : (t : Bool) → (t || true) ≡ true
or_true true = refl
or_true false = refl

not_le : (x y : ℕ) → y < x → nat_le x y ≡ false
not_le x y h = grind (arith, h)

so_le : (x y : ℕ) → x ≤ y → nat_le x y ≡ true
so_le x y h = grind (arith, h)

near_for : (signed : Bool) (count : ℕ) (a : ℤ) (n : ℕ) → count ≤ 64 → IsIn (Sized signed count) a → n < count → (not (nat_eq (pattern 64 (back (Sized signed count) a (2 ^ (n % 64)))) (pattern 64 a)) || is_far (Sized signed count) a n) ≡ not (is_in (Sized signed count) (a *ℤ pos (2 ^ n)))
near_for signed count a n h i less =
    let to = Sized signed count in
    let same : n % 64 ≡ n = omega (arith, h, less) in
    ap (λ k. not (nat_eq (pattern 64 (back to a (2 ^ k))) (pattern 64 a)) || is_far to a n) same
    ∙ ap (λ t. not (nat_eq (pattern 64 (back to a (2 ^ n))) (pattern 64 a)) || (t && not (nat_eq (pattern 64 a) 0))) (not_le count n less)
    ∙ or_false (not (nat_eq (pattern 64 (back to a (2 ^ n))) (pattern 64 a))) ∙ lost_is to a n h i less

none_times : (p : ℕ) → pos 0 *ℤ pos p ≡ pos 0
none_times p = omega (arith, ints)

zero_back : (signed : Bool) (count p : ℕ) → count ≤ 64 → 0 < p → back (Sized signed count) (pos 0) p ≡ pos 0
zero_back signed count p h some =
    let to = Sized signed count in
    ap (λ z. floored (wrapped to z) (pos p)) (none_times p) ∙ ap (λ z. floored z (pos p)) (wrapped_same signed count (pos 0) (zero_in to h))
    ∙ ap (λ z. floored z (pos p)) (sym (none_times p)) ∙ exact_back (pos 0) p some

far_some : (signed : Bool) (count : ℕ) (a : ℤ) (n : ℕ) → count ≤ n → nat_eq (pattern 64 a) 0 ≡ false → (a ≡ pos 0 → ⊥) → (l : Bool) → (l || is_far (Sized signed count) a n) ≡ not (is_in (Sized signed count) (a *ℤ pos (2 ^ n)))
far_some signed count a n more e some l =
    let to = Sized signed count in
    let few : 2 ^ count ≤ 2 ^ n = pow-le-pow_right {n = 2} (omega arith) more in
    ap (λ t. l || (t && not (nat_eq (pattern 64 a) 0))) (so_le count n more) ∙ ap (λ t. l || not t) e ∙ or_true l
    ∙ sym (ap not (test_from_out to (a *ℤ pos (2 ^ n)) (far_out signed count a (2 ^ n) few some)))

far_for : (signed : Bool) (count : ℕ) (a : ℤ) (n : ℕ) → count ≤ 64 → IsIn (Sized signed count) a → count ≤ n → (not (nat_eq (pattern 64 (back (Sized signed count) a (2 ^ (n % 64)))) (pattern 64 a)) || is_far (Sized signed count) a n) ≡ not (is_in (Sized signed count) (a *ℤ pos (2 ^ n)))
far_for signed count (pos zero) n h i more =
    let to = Sized signed count in
    let first = ap (λ z. not (nat_eq (pattern 64 z) 0) || (nat_le count n && false)) (zero_back signed count (2 ^ (n % 64)) h (pow_pos (n % 64))) in
    let second = ap (λ t. t && false) (so_le count n more) in
    first ∙ second ∙ sym (ap not (ap (is_in to) (none_times (2 ^ n)) ∙ test_from_in to (pos 0) i))
far_for signed count (pos (suc x)) n h i more =
    let d = divisor_from x (held (Sized signed count) (pos (suc x)) h i) in
    far_some signed count (pos (suc x)) n more d.long d.some (not (nat_eq (pattern 64 (back (Sized signed count) (pos (suc x)) (2 ^ (n % 64)))) (pattern 64 (pos (suc x)))))
far_for signed count (negsuc x) n h i more =
    let d = divisor_below x (held (Sized signed count) (negsuc x) h i) in
    far_some signed count (negsuc x) n more d.long d.some (not (nat_eq (pattern 64 (back (Sized signed count) (negsuc x) (2 ^ (n % 64)))) (pattern 64 (negsuc x))))

-- by any amount
pub lost_or_far : (to : IntTy) (a : ℤ) (n : ℕ) → IsStored to → IsIn to a → (not (nat_eq (pattern 64 (back to a (2 ^ (n % 64)))) (pattern 64 a)) || is_far to a n) ≡ not (is_in to (a *ℤ pos (2 ^ n)))
lost_or_far (Sized signed count) a n h i =
    elim (cases_lt n count) [ inl less ↦ near_for signed count a n h i less | inr more ↦ far_for signed count a n h i more ]
lost_or_far Comptime a n h i = absurd h

-- where the type of the amount tells that it is below the width
pub never_far : (to : IntTy) (a : ℤ) (n : ℕ) → n < width to → is_far to a n ≡ false
never_far to a n less = ap (λ t. t && not (nat_eq (pattern 64 a) 0)) (not_le (width to) n less)

zero_kept : (signed : Bool) (count p q : ℕ) → count ≤ 64 → wrapped (Sized signed count) (pos 0 *ℤ pos p) ≡ pos 0 *ℤ pos q
zero_kept signed count p q h =
    let to = Sized signed count in
    ap (wrapped to) (none_times p) ∙ wrapped_same signed count (pos 0) (zero_in to h) ∙ sym (none_times q)

kept_for : (signed : Bool) (count : ℕ) (a : ℤ) (n : ℕ) → count ≤ 64 → count ≤ n → IsIn (Sized signed count) (a *ℤ pos (2 ^ n)) → wrapped (Sized signed count) (a *ℤ pos (2 ^ (n % 64))) ≡ a *ℤ pos (2 ^ n)
kept_for signed count (pos zero) n h more i = zero_kept signed count (2 ^ (n % 64)) (2 ^ n) h
kept_for signed count (pos (suc x)) n h more i =
    let few : 2 ^ count ≤ 2 ^ n = pow-le-pow_right {n = 2} (omega arith) more in
    absurd (far_out signed count (pos (suc x)) (2 ^ n) few (λ e. omega (arith, ints, e)) i)
kept_for signed count (negsuc x) n h more i =
    let few : 2 ^ count ≤ 2 ^ n = pow-le-pow_right {n = 2} (omega arith) more in
    absurd (far_out signed count (negsuc x) (2 ^ n) few (λ e. omega (arith, ints, e)) i)

-- where the type has the number, an amount modulo 64 gives it
pub kept_by_amount : (to : IntTy) (a : ℤ) (n : ℕ) → IsStored to → IsIn to (a *ℤ pos (2 ^ n)) → wrapped to (a *ℤ pos (2 ^ (n % 64))) ≡ a *ℤ pos (2 ^ n)
kept_by_amount (Sized signed count) a n h i =
    elim (cases_lt n count) [
      | inl less ↦
          let same : n % 64 ≡ n = omega (arith, h, less) in
          ap (λ k. wrapped (Sized signed count) (a *ℤ pos (2 ^ k))) same ∙ wrapped_same signed count (a *ℤ pos (2 ^ n)) i
      | inr more ↦ kept_for signed count a n h more i
    ]
kept_by_amount Comptime a n h i = absurd h

-- a product by a power lies on the same side of 0
pub same_side : (a : ℤ) (p : ℕ) → 0 < p → int_lt a (pos 0) ≡ int_lt (a *ℤ pos p) (pos 0)
same_side (pos n) p h = grind (arith, ints)
same_side (negsuc n) p h = let some : 0 < suc n * p = omega (arith, h) in grind (arith, ints, some)
