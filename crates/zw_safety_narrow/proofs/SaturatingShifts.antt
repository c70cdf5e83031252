-- What the code of the shift that stops at the bounds of its type does when it runs.
use Rattle.std.proofs.Common.{◌≡◌, ℕ, zero, suc, ℤ, pos, negsuc, ◌-◌, ◌*◌, ◌^◌, ◌<◌, ◌≤◌, ◌*ℤ◌, ◌≤ℤ◌, neg_ℤ, min, Bool, true, false, List, [], ◌∷◌, Ok, refl, sym, ap, ◌∙◌, subst, arith, lit≤, FitsSigned}
use Rattle.std.specs.Prelude.{nat_lt, if◌then◌else◌}
use Rattle.std.proofs.lemmas.Bool.{ltb-true}
use Rattle.std.proofs.lemmas.Int.{ints}
use Rattle.std.proofs.Math.Nat.{mul-le-mul, pow-le-pow_right, mod-eq_of_lt}
use Rattle.std.specs.Int.{w64, int_min, int_max}
use Rattle.zw_num.proofs.ShiftLemmas.{power_is}
use Rattle.zw_num.specs.Arithmetic.{IsIn, least, greatest, saturated, pattern, power, width}
use Rattle.zw_num.specs.declared.int_ty.IntTy.{IntTy}
use Rattle.zw_num.specs.declared.int_ty.IntTy.TheVariants.{Sized, Comptime}
use Rattle.zw_safety_narrow.proofs.CastRuns.{word, few-moves}
use Rattle.zw_safety_narrow.proofs.CountRuns.{bounded_count}
use Rattle.zw_safety_narrow.proofs.ExactRuns.{shl_wide}
use Rattle.zw_safety_narrow.proofs.Going.{moves}
use Rattle.zw_safety_narrow.proofs.NarrowRuns.{EndsOn}
use Rattle.zw_safety_narrow.proofs.OrderRuns.{Leads, leads, leads-then, words, ends_with, has-scratch}
use Rattle.zw_safety_narrow.proofs.Orders.{natural, natural_bits}
use Rattle.zw_safety_narrow.proofs.Pieces.{having, steps-none}
use Rattle.zw_safety_narrow.proofs.SaturatingRuns.{saturates, naturals, fits_between}
use Rattle.zw_safety_narrow.proofs.Words.{fits_signed, power_word}
use Rattle.zw_safety_narrow.specs.Checked.{HasScratch}
use Rattle.zw_safety_narrow.specs.CompareCode.{is_unsigned}
use Rattle.zw_safety_narrow.specs.CountCode.{at_most}
use Rattle.zw_safety_narrow.specs.Operators.{IsNarrow}
use Rattle.zw_safety_narrow.specs.SaturatingCode.{saturated_code, natural_code, saturated_left_code}
use Rattle.zw_wasm.specs.declared.module.BinaryOperator.TheVariants.{Shl}
use Rattle.zw_wasm.specs.declared.module.Instr.{Instr}
use Rattle.zw_wasm.specs.declared.module.Module.{Module}
use Rattle.zw_wasm.specs.declared.num.Num.{Num}
use Rattle.zw_wasm.specs.declared.num.Num.TheVariants.{I32}
use Rattle.zw_wasm.specs.Reduction.{Config}
use Rattle.zw_wasm.specs.Signature.{View}

-- ---- the amount

small_amount : (right : IntTy) (n : ℕ) → nat_lt (width right) 6 ≡ true → IsIn right (pos n) → is_unsigned right ≡ true → min n 32 ≡ n
small_amount (Sized false count) n e i u =
    let few : count ≤ 5 = let less = ltb-true count 6 e in omega (arith, less) in
    let low : 2 ^ count ≤ 2 ^ 5 = pow-le-pow_right {n = 2} (omega arith) few in
    omega (arith, ints, i.at_most, low)
small_amount (Sized true count) n e i u = absurd (cc)
small_amount Comptime n e i u = absurd (cc)

bounded_bits : (n : ℕ) → min n 32 ≡ pattern 32 (pos (min n 32))
bounded_bits n = sym (mod-eq_of_lt (omega arith))

amount_for : (t : Bool) (m : Module) (v : View) (c : Config) (s : ℕ) (right : IntTy) (n : ℕ) (os locals : List Num) → nat_lt (width right) 6 ≡ t → IsIn right (pos n) → is_unsigned right ≡ true → n < 2 ^ 32 → HasScratch s locals → Leads m v c (if t then [] else at_most 32 s) s (word (pos n) os) (word (pos (min n 32)) os) locals 6
amount_for true m v c s right n os locals e i u low scratch =
    subst (λ k. Leads m v c [] s (word (pos n) os) (word (pos k) os) locals 6) (sym (small_amount right n e i u))
    (leads s (few-moves 6 (lit≤ tt) (moves (steps-none m v c (having (word (pos n) os) locals)))))
amount_for false m v c s right n os locals e i u low scratch =
    let same : pattern 32 (pos n) ≡ n = mod-eq_of_lt low in
    subst (λ k. Leads m v c (at_most 32 s) s (word (pos n) os) (I32 k ∷ os) locals 6) (ap (λ k. min k 32) same ∙ bounded_bits n)
    (bounded_count m v c s 32 (pattern 32 (pos n)) os locals scratch)

-- a lesser amount is of the type too
lesser_in : (right : IntTy) (n : ℕ) → is_unsigned right ≡ true → IsIn right (pos n) → IsIn right (pos (min n 32))
lesser_in (Sized false count) n u i = record { at_least = omega (arith, ints); at_most = omega (arith, ints, i.at_most) }
lesser_in (Sized true count) n u i = absurd (cc)
lesser_in Comptime n u i = absurd (cc)

-- ---- past 32 each number but 0 lies past the bounds

top_is : (l g z : ℤ) → g ≤ℤ z → int_max l (int_min z g) ≡ int_max l g
top_is l g z h = grind (arith, ints, h)

bottom_is : (l g z : ℤ) → z ≤ℤ l → l ≤ℤ g → int_max l (int_min z g) ≡ l
bottom_is l g z h k = grind (arith, ints, h, k)

-- the bounds lie within 2^32 of 0
record AreBounds (to : IntTy) : Type 0 where
  low : neg_ℤ (pos (2 ^ 32)) ≤ℤ least to
  high : greatest to ≤ℤ pos (2 ^ 32)
  order : least to ≤ℤ greatest to

bounds_of : (to : IntTy) → IsNarrow to → AreBounds to
bounds_of (Sized false count) h = let few = power_word count h in record { low = omega (arith, ints); high = omega (arith, ints, few); order = omega (arith, ints) }
bounds_of (Sized true count) h = let few = power_word count h in record { low = omega (arith, ints, few); high = omega (arith, ints, few); order = omega (arith, ints) }
bounds_of Comptime h = absurd h

more_times : (k p : ℕ) → 2 ^ 32 ≤ p → 2 ^ 32 ≤ suc k * p
more_times k p h = omega (arith, h)

both_above : (to : IntTy) (y z : ℤ) → AreBounds to → pos (2 ^ 32) ≤ℤ y → pos (2 ^ 32) ≤ℤ z → saturated to y ≡ saturated to z
both_above to y z h k l = top_is (least to) (greatest to) y (omega (arith, ints, h.high, k)) ∙ sym (top_is (least to) (greatest to) z (omega (arith, ints, h.high, l)))

both_below : (to : IntTy) (y z : ℤ) → AreBounds to → y ≤ℤ neg_ℤ (pos (2 ^ 32)) → z ≤ℤ neg_ℤ (pos (2 ^ 32)) → saturated to y ≡ saturated to z
both_below to y z h k l =
    bottom_is (least to) (greatest to) y (omega (arith, ints, h.low, k)) h.order ∙ sym (bottom_is (least to) (greatest to) z (omega (arith, ints, h.low, l)) h.order)

none_times : (p q : ℕ) → pos 0 *ℤ pos p ≡ pos 0 *ℤ pos q
none_times p q = omega (arith, ints)

far_same : (to : IntTy) (a : ℤ) (p q : ℕ) → AreBounds to → 2 ^ 32 ≤ p → 2 ^ 32 ≤ q → saturated to (a *ℤ pos p) ≡ saturated to (a *ℤ pos q)
far_same to (pos zero) p q h k l = ap (saturated to) (none_times p q)
far_same to (pos (suc n)) p q h k l =
    let one = more_times n p k in
    let two = more_times n q l in
    both_above to (pos (suc n) *ℤ pos p) (pos (suc n) *ℤ pos q) h (omega (arith, ints, one)) (omega (arith, ints, two))
far_same to (negsuc n) p q h k l =
    let one = more_times n p k in
    let two = more_times n q l in
    both_below to (negsuc n *ℤ pos p) (negsuc n *ℤ pos q) h (omega (arith, ints, one)) (omega (arith, ints, two))

lesser_for : (t : Bool) (to : IntTy) (a : ℤ) (n : ℕ) → IsNarrow to → nat_lt n 32 ≡ t → saturated to (a *ℤ pos (2 ^ min n 32)) ≡ saturated to (a *ℤ pos (2 ^ n))
lesser_for true to a n h e = let less = ltb-true n 32 e in ap (λ k. saturated to (a *ℤ pos (2 ^ k))) (omega (arith, less))
lesser_for false to a n h e =
    let more : 32 ≤ n = grind (arith, e) in
    let is : min n 32 ≡ 32 = omega (arith, more) in
    far_same to a (2 ^ min n 32) (2 ^ n) (bounds_of to h) (subst (λ k. 2 ^ 32 ≤ 2 ^ k) (sym is) (lit≤ tt)) (pow-le-pow_right {n = 2} (omega arith) more)

-- ---- the whole code

few_power : (k : ℕ) → k ≤ 32 → 2 ^ k ≤ 2 ^ 32
few_power k h = pow-le-pow_right {n = 2} (omega arith) h

product_most : (x p c : ℕ) → x ≤ c → p ≤ 2 ^ 32 → x * p ≤ c * 2 ^ 32
product_most x p c h k = mul-le-mul h k

signed_product : (a : ℤ) (count k : ℕ) → count ≤ 32 → IsIn (Sized true count) a → k ≤ 32 → FitsSigned w64 (a *ℤ pos (2 ^ k))
signed_product (pos x) count k h i few =
    let fits = fits_signed count (pos x) h i in
    let most = product_most x (2 ^ k) (2 ^ 31 - 1) (omega (arith, fits.sfits)) (few_power k few) in
    fits_between (pos x *ℤ pos (2 ^ k)) (omega (arith, ints)) (omega (arith, ints, most))
signed_product (negsuc x) count k h i few =
    let fits = fits_signed count (negsuc x) h i in
    let most = product_most (suc x) (2 ^ k) (2 ^ 31) (omega (arith, fits.sfits)) (few_power k few) in
    fits_between (negsuc x *ℤ pos (2 ^ k)) (omega (arith, ints, most)) (omega (arith, ints))

natural_product : (x k : ℕ) → x < 2 ^ 32 → k ≤ 32 → x * 2 ^ k < 2 ^ 64
natural_product x k h few = let most = product_most x (2 ^ k) (2 ^ 32 - 1) (omega (arith, h)) (few_power k few) in omega (arith, most)

shifts : (m : Module) (v : View) (c : Config) (s : ℕ) (left right to : IntTy) (a : ℤ) (k : ℕ) (os locals : List Num) → IsNarrow left → IsNarrow right → IsNarrow to → IsIn left a → IsIn right (pos k) → k ≤ 32 → HasScratch s locals →
    Leads m v c (if is_unsigned left then natural_code Shl left right to s else saturated_code Shl left right to s) s (words a (pos k) os) (word (saturated to (a *ℤ pos (2 ^ k))) os) locals 18
shifts m v c s (Sized true count) right to a k os locals hl hr ht il ir few scratch =
    saturates m v c Shl s (Sized true count) right to a (pos k) (a *ℤ pos (2 ^ k)) os locals hl hr ht il ir scratch (shl_wide a k (omega (arith, few))) (signed_product a count k hl il few)
shifts m v c s (Sized false count) right to (pos x) k os locals hl hr ht il ir few scratch =
    let na = natural (Sized false count) (pos x) hl il refl in
    let low : x < 2 ^ 32 = let word = natural_bits (pos x) na in omega (arith, ints, il.at_most, power_word count hl) in
    let piece = naturals m v c Shl s (Sized false count) right to (pos x) (pos k) (x * 2 ^ k) os locals hl hr ht il ir scratch (shl_wide (pos x) k (omega (arith, few))) (natural_product x k low few) in
    record { after = piece.after; keeps = piece.keeps; runs = few-moves 18 (lit≤ tt) piece.runs }
shifts m v c s (Sized false count) right to (negsuc x) k os locals hl hr ht il ir few scratch = absurd (omega (arith, ints, il.at_least))
shifts m v c s Comptime right to a k os locals hl hr ht il ir few scratch = absurd hl

shift_sat-ends_by : (m : Module) (v : View) (c : Config) (s : ℕ) (left right to : IntTy) (a : ℤ) (n : ℕ) (os : List Num) (rest : List Instr) → IsNarrow left → IsNarrow right → IsNarrow to → is_unsigned right ≡ true → IsIn left a → IsIn right (pos n) → n < 2 ^ 32 → HasScratch s c.frame.locals → EndsOn m v c s left right to a (pos n) os (saturated_left_code left right to s) rest (Ok (saturated to (a *ℤ power (pos n))))
shift_sat-ends_by m v c s left right to a n os rest hl hr ht u il ir low scratch =
    let k = min n 32 in
    let few : k ≤ 32 = omega arith in
    let same = lesser_for (nat_lt n 32) to a n ht refl ∙ ap (λ z. saturated to (a *ℤ z)) (sym (power_is (pos n) n refl)) in
    let first = amount_for (nat_lt (width right) 6) m v c s right n (I32 (pattern 32 a) ∷ os) c.frame.locals refl ir u low scratch in
    let second = shifts m v c s left right to a k os first.after hl hr ht il (lesser_in right n u ir) few (has-scratch s c.frame.locals first.after first.keeps scratch) in
    ends_with m v c s left right to a (pos n) (saturated to (a *ℤ power (pos n))) os (saturated_left_code left right to s) rest (pattern 32 (saturated to (a *ℤ pos (2 ^ k)))) 24 hl hr ht (lit≤ tt)
    (ap (pattern 32) same) (leads-then first second)

pub shift_sat-ends : (m : Module) (v : View) (c : Config) (s : ℕ) (left right to : IntTy) (a b : ℤ) (os : List Num) (rest : List Instr) → IsNarrow left → IsNarrow right → IsNarrow to → is_unsigned right ≡ true → IsIn left a → IsIn right b → HasScratch s c.frame.locals → EndsOn m v c s left right to a b os (saturated_left_code left right to s) rest (Ok (saturated to (a *ℤ power b)))
shift_sat-ends m v c s left right to a b os rest hl hr ht u il ir scratch =
    let n = natural right b hr ir u in
    subst (λ z. EndsOn m v c s left right to a z os (saturated_left_code left right to s) rest (Ok (saturated to (a *ℤ power z)))) (sym n.is)
    (shift_sat-ends_by m v c s left right to a n.value os rest hl hr ht u il (subst (IsIn right) n.is ir) n.small scratch)
