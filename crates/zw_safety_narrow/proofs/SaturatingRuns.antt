-- What the code of sums, differences and products that stop at the bounds of their type does when it runs.
use Rattle.std.proofs.Common.{◌≡◌, ℕ, zero, suc, ℤ, pos, negsuc, ◌+◌, ◌-◌, ◌*◌, ◌/◌, ◌%◌, ◌^◌, ◌<◌, ◌≤◌, ◌+ℤ◌, ◌-ℤ◌, ◌*ℤ◌, ◌≤ℤ◌, neg_ℤ, Bool, true, false, not, List, [], ◌∷◌, ◌++◌, Ok, refl, sym, ap, ◌∙◌, subst, arith, lit≤, lit<, FitsSigned}
use Rattle.std.specs.Prelude.{nat_eq, nat_lt, int_lt, if◌then◌else◌}
use Rattle.std.proofs.lemmas.Int.{ints}
use Rattle.std.proofs.Math.Nat.{mul-le-mul, mod-eq_of_lt}
use Rattle.std.specs.Int.{w32, w64, cast_unsigned, int_min, int_max}
use Rattle.zw_num.specs.Arithmetic.{IsIn, least, greatest, saturated, pattern}
use Rattle.zw_num.specs.declared.int_ty.IntTy.{IntTy}
use Rattle.zw_num.specs.declared.int_ty.IntTy.TheVariants.{Sized, Comptime}
use Rattle.zw_safety_narrow.proofs.CastRuns.{word}
use Rattle.zw_safety_narrow.proofs.Going.{Moves, moves, andthen, moves-tee, moves-select}
use Rattle.zw_safety_narrow.proofs.Locals.{keeps-same, keeps-set}
use Rattle.zw_safety_narrow.proofs.NarrowRuns.{EndsOn, long_kept, long-there, steps-extended}
use Rattle.zw_safety_narrow.proofs.OrderRuns.{Leads, leads, leads-then, words, ends_with, has-scratch}
use Rattle.zw_safety_narrow.proofs.Orders.{IsNatural, less, greater, lesser, natural}
use Rattle.zw_safety_narrow.proofs.Pieces.{having, steps-get, steps-long_const, steps-long, steps-wrap, steps-compare_long}
use Rattle.zw_safety_narrow.proofs.WordRuns.{both-true}
use Rattle.zw_safety_narrow.proofs.Words.{IsWord, word-narrow, fits_signed, power_word, wrap_long, add_bits, sub_bits, mul_bits}
use Rattle.zw_safety_narrow.specs.Checked.{HasScratch}
use Rattle.zw_safety_narrow.specs.CompareCode.{is_unsigned}
use Rattle.zw_safety_narrow.specs.DivisionCode.{are_unsigned}
use Rattle.zw_safety_narrow.specs.NarrowCode.{extended}
use Rattle.zw_safety_narrow.specs.Operators.{IsNarrow}
use Rattle.zw_safety_narrow.specs.SaturatingCode.{bounded, saturated_code, natural_code, natural_product_code, saturated_product_code}
use Rattle.zw_wasm.specs.declared.module.BinaryOperator.{BinaryOperator}
use Rattle.zw_wasm.specs.declared.module.BinaryOperator.TheVariants.{Add, Sub, Mul}
use Rattle.zw_wasm.specs.declared.module.Comparison.{Comparison}
use Rattle.zw_wasm.specs.declared.module.Comparison.TheVariants.{LtS, LtU, GtS}
use Rattle.zw_wasm.specs.declared.module.Conversion.TheVariants.{Wrap}
use Rattle.zw_wasm.specs.declared.module.Instr.{Instr}
use Rattle.zw_wasm.specs.declared.module.Instr.TheVariants.{I64Const, Binary, Convert, Select}
use Rattle.zw_wasm.specs.declared.module.Module.{Module}
use Rattle.zw_wasm.specs.declared.module.ValType.TheVariants as ty
use Rattle.zw_wasm.specs.declared.num.Num.{Num}
use Rattle.zw_wasm.specs.declared.num.Num.TheVariants.{I32, I64}
use Rattle.zw_wasm.specs.Numerics.{Gives, binary_of, bit_of, is_related}
use Rattle.zw_wasm.specs.Reduction.{Config}
use Rattle.zw_wasm.specs.Signature.{View}

-- a number of 64 bits on the others
abbrev pub long : ℤ → List Num → List Num
long z os = I64 (pattern 64 z) ∷ os

bit-zero : (t : Bool) → nat_eq (bit_of t) 0 ≡ not t
bit-zero true = refl
bit-zero false = refl

nearer : (t : Bool) (z bound : ℤ) → (if not t then I64 (pattern 64 bound) else I64 (pattern 64 z)) ≡ I64 (pattern 64 (if t then z else bound))
nearer true z bound = refl
nearer false z bound = refl

-- the number or the bound, by a test
bounds : (m : Module) (v : View) (c : Config) (o : Comparison) (s : ℕ) (t : Bool) (z bound : ℤ) (os locals : List Num) → HasScratch s locals → cast_unsigned w64 bound ≡ pattern 64 bound → is_related o w64 (pattern 64 z) (pattern 64 bound) ≡ t → Leads m v c (bounded o bound s) s (long z os) (long (if t then z else bound) os) locals 6
bounds m v c o s t z bound os locals scratch bits e =
    let x = I64 (pattern 64 z) in
    let after = long_kept s z locals in
    let there = long-there s z locals scratch in
    let constant = λ (os : List Num). subst (λ n. Moves m v c (I64Const bound ∷ []) (having os after) (having (I64 n ∷ os) after) 1) bits (moves (steps-long_const m v c bound os after)) in
    let chosen = subst (λ y. Moves m v c (Select ∷ []) (having (I32 (bit_of t) ∷ long bound (long z os)) after) (having (y ∷ os) after) 1) (nearer t z bound)
    (moves-select m v c (bit_of t) (not t) x (I64 (pattern 64 bound)) os after (bit-zero t)) in
    record {
      after = after;
      keeps = keeps-set s 4 locals locals x (lit< tt) (keeps-same s locals);
      runs = andthen (moves-tee m v c (s + 4) x os locals (omega (arith, scratch)))
          (andthen (constant (x ∷ os))
          (andthen (moves (steps-get m v c (s + 4) x (long bound (long z os)) after there))
          (andthen (constant (x ∷ long bound (long z os)))
          (andthen (moves (steps-compare_long m v c o (pattern 64 z) (pattern 64 bound) t (long bound (long z os)) after e)) chosen))));
    }

-- ---- the bounds of a type

pub long_of_signed : (z : ℤ) → FitsSigned w64 z → cast_unsigned w64 z ≡ pattern 64 z
long_of_signed (pos n) h = omega (arith, h.sfits)
long_of_signed (negsuc n) h = omega (arith, h.sfits)

natural_fits : (n : ℕ) → n < 2 ^ 63 → FitsSigned w64 (pos n)
natural_fits n h = record { sfits = h }

greatest_fits : (t : IntTy) → IsNarrow t → FitsSigned w64 (greatest t)
greatest_fits (Sized true count) h = let few = power_word count h in natural_fits ((2 ^ count - 1) / 2) (omega (arith, few))
greatest_fits (Sized false count) h = let few = power_word count h in natural_fits (2 ^ count - 1) (omega (arith, few))
greatest_fits Comptime h = absurd h

negative_fits : (n : ℕ) → n ≤ 2 ^ 63 → FitsSigned w64 (neg_ℤ (pos n))
negative_fits zero h = record { sfits = omega arith }
negative_fits (suc n) h = record { sfits = omega (arith, h) }

least_fits : (t : IntTy) → IsNarrow t → FitsSigned w64 (least t)
least_fits (Sized true count) h = let few = power_word count h in negative_fits (2 ^ count / 2) (omega (arith, few))
least_fits (Sized false count) h = natural_fits 0 (omega arith)
least_fits Comptime h = absurd h

more_left : (a b : ℤ) → int_lt b a ≡ true → int_max b a ≡ a
more_left a b e = grind (arith, ints, e)

more_right : (a b : ℤ) → int_lt b a ≡ false → int_max b a ≡ b
more_right a b e = grind (arith, ints, e)

more_for : (t : Bool) (a b : ℤ) → int_lt b a ≡ t → (if t then a else b) ≡ int_max b a
more_for true a b e = sym (more_left a b e)
more_for false a b e = sym (more_right a b e)

tops : (m : Module) (v : View) (c : Config) (o : Comparison) (s : ℕ) (to : IntTy) (z : ℤ) (os locals : List Num) → IsNarrow to → HasScratch s locals → is_related o w64 (pattern 64 z) (pattern 64 (greatest to)) ≡ int_lt z (greatest to) → Leads m v c (bounded o (greatest to) s) s (long z os) (long (int_min z (greatest to)) os) locals 6
tops m v c o s to z os locals ht scratch e =
    subst (λ y. Leads m v c (bounded o (greatest to) s) s (long z os) (long y os) locals 6) (lesser z (greatest to))
    (bounds m v c o s (int_lt z (greatest to)) z (greatest to) os locals scratch (long_of_signed (greatest to) (greatest_fits to ht)) e)

bottoms : (m : Module) (v : View) (c : Config) (s : ℕ) (to : IntTy) (z : ℤ) (os locals : List Num) → IsNarrow to → HasScratch s locals → FitsSigned w64 z → Leads m v c (bounded GtS (least to) s) s (long z os) (long (int_max (least to) z) os) locals 6
bottoms m v c s to z os locals ht scratch fits =
    subst (λ y. Leads m v c (bounded GtS (least to) s) s (long z os) (long y os) locals 6) (more_for (int_lt (least to) z) z (least to) refl)
    (bounds m v c GtS s (int_lt (least to) z) z (least to) os locals scratch (long_of_signed (least to) (least_fits to ht)) (greater.by_sign w64 z (least to) fits (least_fits to ht)))

min_fits_for : (t : Bool) (z g : ℤ) → int_lt g z ≡ t → FitsSigned w64 z → FitsSigned w64 g → FitsSigned w64 (if t then g else z)
min_fits_for true z g e h k = k
min_fits_for false z g e h k = h

min_fits : (z g : ℤ) → FitsSigned w64 z → FitsSigned w64 g → FitsSigned w64 (int_min z g)
min_fits z g h k = min_fits_for (int_lt g z) z g refl h k

-- ---- whole codes

computes : (m : Module) (v : View) (c : Config) (o : BinaryOperator) (left right : IntTy) (s : ℕ) (a b z : ℤ) (os locals : List Num) → IsNarrow left → IsNarrow right → IsIn left a → IsIn right b → HasScratch s locals → binary_of o w64 (pattern 64 a) (pattern 64 b) ≡ Gives (pattern 64 z) → Leads m v c (extended left right s ++ Binary ty.I64 o ∷ []) s (words a b os) (long z os) locals 5
computes m v c o left right s a b z os locals hl hr il ir scratch gives = record {
  after = long_kept s b locals;
  keeps = keeps-set s 4 locals locals (I64 (pattern 64 b)) (lit< tt) (keeps-same s locals);
  runs = andthen (moves (steps-extended m v c left right s a b os locals hl hr il ir scratch)) (moves (steps-long m v c o (pattern 64 a) (pattern 64 b) (pattern 64 z) os (long_kept s b locals) gives));
}

wraps : (m : Module) (v : View) (c : Config) (s : ℕ) (z : ℤ) (os locals : List Num) → Leads m v c (Convert Wrap ∷ []) s (long z os) (word z os) locals 1
wraps m v c s z os locals = leads s (moves (steps-wrap m v c (pattern 64 z) (pattern 32 z) os locals (wrap_long z)))

pub saturates : (m : Module) (v : View) (c : Config) (o : BinaryOperator) (s : ℕ) (left right to : IntTy) (a b z : ℤ) (os locals : List Num) → IsNarrow left → IsNarrow right → IsNarrow to → IsIn left a → IsIn right b → HasScratch s locals → binary_of o w64 (pattern 64 a) (pattern 64 b) ≡ Gives (pattern 64 z) → FitsSigned w64 z → Leads m v c (saturated_code o left right to s) s (words a b os) (word (saturated to z) os) locals 18
saturates m v c o s left right to a b z os locals hl hr ht il ir scratch gives fits =
    let g = greatest to in
    let first = computes m v c o left right s a b z os locals hl hr il ir scratch gives in
    let there = has-scratch s locals first.after first.keeps scratch in
    let second = tops m v c LtS s to z os first.after ht there (less.by_sign w64 z g fits (greatest_fits to ht)) in
    let there2 = has-scratch s first.after second.after second.keeps there in
    let third = bottoms m v c s to (int_min z g) os second.after ht there2 (min_fits z g fits (greatest_fits to ht)) in
    leads-then first (leads-then second (leads-then third (wraps m v c s (saturated to z) os third.after)))

pub saturated-ends : (m : Module) (v : View) (c : Config) (o : BinaryOperator) (s : ℕ) (left right to : IntTy) (a b z : ℤ) (os : List Num) (rest : List Instr) → IsNarrow left → IsNarrow right → IsNarrow to → IsIn left a → IsIn right b → HasScratch s c.frame.locals → binary_of o w64 (pattern 64 a) (pattern 64 b) ≡ Gives (pattern 64 z) → FitsSigned w64 z → EndsOn m v c s left right to a b os (saturated_code o left right to s) rest (Ok (saturated to z))
saturated-ends m v c o s left right to a b z os rest hl hr ht il ir scratch gives fits =
    ends_with m v c s left right to a b (saturated to z) os (saturated_code o left right to s) rest (pattern 32 (saturated to z)) 18 hl hr ht (lit≤ tt) refl
    (saturates m v c o s left right to a b z os c.frame.locals hl hr ht il ir scratch gives fits)

-- ---- results with a sign in 64 bits

pub fits_between : (z : ℤ) → neg_ℤ (pos (2 ^ 63)) ≤ℤ z → z ≤ℤ pos (2 ^ 63 - 1) → FitsSigned w64 z
fits_between (pos n) low high = record { sfits = omega (arith, ints, high) }
fits_between (negsuc n) low high = record { sfits = omega (arith, ints, low) }

pub sum_fits : (a b : ℤ) → IsWord a → IsWord b → FitsSigned w64 (a +ℤ b)
sum_fits a b h k = fits_between (a +ℤ b) (omega (arith, ints, h.low, k.low)) (omega (arith, ints, h.high, k.high))

difference_fits : (a b : ℤ) → IsWord a → IsWord b → FitsSigned w64 (a -ℤ b)
difference_fits a b h k = fits_between (a -ℤ b) (omega (arith, ints, h.low, k.high)) (omega (arith, ints, h.high, k.low))

pub sum_sat-ends : (m : Module) (v : View) (c : Config) (s : ℕ) (left right to : IntTy) (a b : ℤ) (os : List Num) (rest : List Instr) → IsNarrow left → IsNarrow right → IsNarrow to → IsIn left a → IsIn right b → HasScratch s c.frame.locals → EndsOn m v c s left right to a b os (saturated_code Add left right to s) rest (Ok (saturated to (a +ℤ b)))
sum_sat-ends m v c s left right to a b os rest hl hr ht il ir scratch =
    saturated-ends m v c Add s left right to a b (a +ℤ b) os rest hl hr ht il ir scratch (ap (λ n. Gives n) (add_bits w64 a b)) (sum_fits a b (word-narrow left a hl il) (word-narrow right b hr ir))

pub difference_sat-ends : (m : Module) (v : View) (c : Config) (s : ℕ) (left right to : IntTy) (a b : ℤ) (os : List Num) (rest : List Instr) → IsNarrow left → IsNarrow right → IsNarrow to → IsIn left a → IsIn right b → HasScratch s c.frame.locals → EndsOn m v c s left right to a b os (saturated_code Sub left right to s) rest (Ok (saturated to (a -ℤ b)))
difference_sat-ends m v c s left right to a b os rest hl hr ht il ir scratch =
    saturated-ends m v c Sub s left right to a b (a -ℤ b) os rest hl hr ht il ir scratch (ap (λ n. Gives n) (sub_bits w64 a b)) (difference_fits a b (word-narrow left a hl il) (word-narrow right b hr ir))

-- ---- products

small_product : (a b c d : ℕ) → a ≤ c → b ≤ d → a * b ≤ c * d
small_product a b c d h k = mul-le-mul h k

product_left : (a b : ℤ) → FitsSigned w32 a → IsWord b → FitsSigned w64 (a *ℤ b)
product_left (pos a) (pos b) h k =
    let most = small_product a b (2 ^ 31 - 1) (2 ^ 32 - 1) (omega (arith, h.sfits)) (omega (arith, ints, k.high)) in
    fits_between (pos a *ℤ pos b) (omega (arith, ints)) (omega (arith, ints, most))
product_left (pos a) (negsuc b) h k =
    let most = small_product a (suc b) (2 ^ 31 - 1) (2 ^ 31) (omega (arith, h.sfits)) (omega (arith, ints, k.low)) in
    fits_between (pos a *ℤ negsuc b) (omega (arith, ints, most)) (omega (arith, ints))
product_left (negsuc a) (pos b) h k =
    let most = small_product (suc a) b (2 ^ 31) (2 ^ 32 - 1) (omega (arith, h.sfits)) (omega (arith, ints, k.high)) in
    fits_between (negsuc a *ℤ pos b) (omega (arith, ints, most)) (omega (arith, ints))
product_left (negsuc a) (negsuc b) h k =
    let most = small_product (suc a) (suc b) (2 ^ 31) (2 ^ 31) (omega (arith, h.sfits)) (omega (arith, ints, k.low)) in
    fits_between (negsuc a *ℤ negsuc b) (omega (arith, ints)) (omega (arith, ints, most))

product_right : (a b : ℤ) → IsWord a → FitsSigned w32 b → FitsSigned w64 (a *ℤ b)
product_right (pos a) (pos b) k h =
    let most = small_product a b (2 ^ 32 - 1) (2 ^ 31 - 1) (omega (arith, ints, k.high)) (omega (arith, h.sfits)) in
    fits_between (pos a *ℤ pos b) (omega (arith, ints)) (omega (arith, ints, most))
product_right (pos a) (negsuc b) k h =
    let most = small_product a (suc b) (2 ^ 32 - 1) (2 ^ 31) (omega (arith, ints, k.high)) (omega (arith, h.sfits)) in
    fits_between (pos a *ℤ negsuc b) (omega (arith, ints, most)) (omega (arith, ints))
product_right (negsuc a) (pos b) k h =
    let most = small_product (suc a) b (2 ^ 31) (2 ^ 31 - 1) (omega (arith, ints, k.low)) (omega (arith, h.sfits)) in
    fits_between (negsuc a *ℤ pos b) (omega (arith, ints, most)) (omega (arith, ints))
product_right (negsuc a) (negsuc b) k h =
    let most = small_product (suc a) (suc b) (2 ^ 31) (2 ^ 31) (omega (arith, ints, k.low)) (omega (arith, h.sfits)) in
    fits_between (negsuc a *ℤ negsuc b) (omega (arith, ints)) (omega (arith, ints, most))

product_fits : (left right : IntTy) (a b : ℤ) → are_unsigned left right ≡ false → IsNarrow left → IsNarrow right → IsIn left a → IsIn right b → FitsSigned w64 (a *ℤ b)
product_fits (Sized true count) right a b e hl hr il ir = product_left a b (fits_signed count a hl il) (word-narrow right b hr ir)
product_fits (Sized false count) (Sized true other) a b e hl hr il ir = product_right a b (word-narrow (Sized false count) a hl il) (fits_signed other b hr ir)
product_fits (Sized false count) (Sized false other) a b e hl hr il ir = absurd (cc)
product_fits (Sized false count) Comptime a b e hl hr il ir = absurd hr
product_fits Comptime right a b e hl hr il ir = absurd hl

-- a product of unsigned numbers
natural_related : (n k : ℕ) → n < 2 ^ 64 → k < 2 ^ 64 → is_related LtU w64 (pattern 64 (pos n)) (pattern 64 (pos k)) ≡ int_lt (pos n) (pos k)
natural_related n k h l =
    let same : n % 2 ^ 64 ≡ n = mod-eq_of_lt h in
    let other : k % 2 ^ 64 ≡ k = mod-eq_of_lt l in
    ap (λ x. nat_lt x (k % 2 ^ 64)) same ∙ ap (λ x. nat_lt n x) other

related_top : (to : IntTy) (n : ℕ) → IsNarrow to → n < 2 ^ 64 → is_related LtU w64 (pattern 64 (pos n)) (pattern 64 (greatest to)) ≡ int_lt (pos n) (greatest to)
related_top (Sized true count) n h low = let few = power_word count h in natural_related n ((2 ^ count - 1) / 2) low (omega (arith, few))
related_top (Sized false count) n h low = let few = power_word count h in natural_related n (2 ^ count - 1) low (omega (arith, few))
related_top Comptime n h low = absurd h

above_least_of : (l z g : ℤ) → l ≤ℤ pos 0 → pos 0 ≤ℤ z → pos 0 ≤ℤ g → int_max l (int_min z g) ≡ int_min z g
above_least_of l z g h k i = grind (arith, ints, h, k, i)

natural_saturated : (to : IntTy) (n : ℕ) → IsNarrow to → int_min (pos n) (greatest to) ≡ saturated to (pos n)
natural_saturated (Sized true count) n h = sym (above_least_of (least (Sized true count)) (pos n) (greatest (Sized true count)) (omega (arith, ints)) (omega (arith, ints)) (omega (arith, ints)))
natural_saturated (Sized false count) n h = sym (above_least_of (least (Sized false count)) (pos n) (greatest (Sized false count)) (omega (arith, ints)) (omega (arith, ints)) (omega (arith, ints)))
natural_saturated Comptime n h = absurd h

natural_product : (x y : ℕ) → x < 2 ^ 32 → y < 2 ^ 32 → x * y < 2 ^ 64
natural_product x y h k = let most = small_product x y (2 ^ 32 - 1) (2 ^ 32 - 1) (omega (arith, h)) (omega (arith, k)) in omega (arith, most)

product_is : (a b : ℤ) (na : IsNatural a) (nb : IsNatural b) → pos (na.value * nb.value) ≡ a *ℤ b
product_is a b na nb = sym (ap (λ z. z *ℤ b) na.is ∙ ap (λ z. pos na.value *ℤ z) nb.is)

-- the nearest value of the type to a result from 0 on
pub naturals : (m : Module) (v : View) (c : Config) (o : BinaryOperator) (s : ℕ) (left right to : IntTy) (a b : ℤ) (n : ℕ) (os locals : List Num) → IsNarrow left → IsNarrow right → IsNarrow to → IsIn left a → IsIn right b → HasScratch s locals → binary_of o w64 (pattern 64 a) (pattern 64 b) ≡ Gives (pattern 64 (pos n)) → n < 2 ^ 64 → Leads m v c (natural_code o left right to s) s (words a b os) (word (saturated to (pos n)) os) locals 12
naturals m v c o s left right to a b n os locals hl hr ht il ir scratch gives low =
    let first = computes m v c o left right s a b (pos n) os locals hl hr il ir scratch gives in
    let second = tops m v c LtU s to (pos n) os first.after ht (has-scratch s locals first.after first.keeps scratch) (related_top to n ht low) in
    let z = int_min (pos n) (greatest to) in
    subst (λ y. Leads m v c (natural_code o left right to s) s (words a b os) (word y os) locals 12) (natural_saturated to n ht)
    (leads-then first (leads-then second (wraps m v c s z os second.after)))

natural-ends : (m : Module) (v : View) (c : Config) (s : ℕ) (left right to : IntTy) (a b : ℤ) (os : List Num) (rest : List Instr) → IsNatural a → IsNatural b → IsNarrow left → IsNarrow right → IsNarrow to → IsIn left a → IsIn right b → HasScratch s c.frame.locals → EndsOn m v c s left right to a b os (natural_product_code left right to s) rest (Ok (saturated to (a *ℤ b)))
natural-ends m v c s left right to a b os rest na nb hl hr ht il ir scratch =
    let n = na.value * nb.value in
    let low = natural_product na.value nb.value na.small nb.small in
    let is = product_is a b na nb in
    let gives = ap (λ k. Gives k) (mul_bits w64 a b) ∙ ap (λ z. Gives (pattern 64 z)) (sym is) in
    let z = saturated to (pos n) in
    ends_with m v c s left right to a b (saturated to (a *ℤ b)) os (natural_product_code left right to s) rest (pattern 32 z) 12 hl hr ht (lit≤ tt)
    (ap (λ y. pattern 32 (saturated to y)) is)
    (naturals m v c Mul s left right to a b n os c.frame.locals hl hr ht il ir scratch gives low)

product_for : (u : Bool) (m : Module) (v : View) (c : Config) (s : ℕ) (left right to : IntTy) (a b : ℤ) (os : List Num) (rest : List Instr) → are_unsigned left right ≡ u → IsNarrow left → IsNarrow right → IsNarrow to → IsIn left a → IsIn right b → HasScratch s c.frame.locals → EndsOn m v c s left right to a b os (if u then natural_product_code left right to s else saturated_code Mul left right to s) rest (Ok (saturated to (a *ℤ b)))
product_for true m v c s left right to a b os rest e hl hr ht il ir scratch =
    let inner = both-true (is_unsigned left) (is_unsigned right) e in
    natural-ends m v c s left right to a b os rest (natural left a hl il inner.0) (natural right b hr ir inner.1) hl hr ht il ir scratch
product_for false m v c s left right to a b os rest e hl hr ht il ir scratch =
    saturated-ends m v c Mul s left right to a b (a *ℤ b) os rest hl hr ht il ir scratch (ap (λ n. Gives n) (mul_bits w64 a b)) (product_fits left right a b e hl hr il ir)

pub product_sat-ends : (m : Module) (v : View) (c : Config) (s : ℕ) (left right to : IntTy) (a b : ℤ) (os : List Num) (rest : List Instr) → IsNarrow left → IsNarrow right → IsNarrow to → IsIn left a → IsIn right b → HasScratch s c.frame.locals → EndsOn m v c s left right to a b os (saturated_product_code left right to s) rest (Ok (saturated to (a *ℤ b)))
product_sat-ends m v c s left right to a b os rest hl hr ht il ir scratch = product_for (are_unsigned left right) m v c s left right to a b os rest refl hl hr ht il ir scratch
