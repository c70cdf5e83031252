-- What the code of operators on bits, of shifts, and of operators of one operand does when it runs where a type has more than 32 bits.
use Rattle.std.proofs.Common.{◌≡◌, ℕ, ℤ, pos, negsuc, ◌+◌, ◌-◌, ◌/◌, ◌%◌, ◌^◌, ◌<◌, ◌≤◌, ◌-ℤ◌, ◌*ℤ◌, neg_ℤ, Bool, true, false, not, List, [], ◌∷◌, ◌++◌, Ok, Err, refl, sym, ap, ◌∙◌, subst, arith, lit≤, FitsSigned}
use Rattle.std.specs.Prelude.{nat_lt, nat_le, slice_set, if◌then◌else◌}
use Rattle.std.proofs.lemmas.Int.{ints}
use Rattle.std.proofs.Math.Nat.{div-le_self, mod-eq_of_lt}
use Rattle.std.specs.Int.{w64, cast_signed, cast_unsigned, int_shr}
use Rattle.zw_num.proofs.ShiftLemmas.{power_is, floor_shift}
use Rattle.zw_num.proofs.WrappedLemmas.{wrapped_same}
use Rattle.zw_num.specs.Arithmetic.{IsIn, is_in, exact, wrapped, pattern, power, shifted, kept, floored, bits_not}
use Rattle.zw_num.specs.declared.int_ty.IntTy.{IntTy}
use Rattle.zw_num.specs.declared.int_ty.IntTy.TheVariants.{Sized, Comptime}
use Rattle.zw_num.specs.declared.num_fault.NumFault.TheVariants.{Overflow, ShiftAmount}
use Rattle.zw_safety_narrow.proofs.BitRuns.{xor_bits}
use Rattle.zw_safety_narrow.proofs.CastRuns.{EndsOnOne, holds_in, minus_one, turns}
use Rattle.zw_safety_narrow.proofs.ExactRuns.{shl_wide}
use Rattle.zw_safety_narrow.proofs.Locals.{keeps-same}
use Rattle.zw_safety_narrow.proofs.NarrowRuns.{EndsOn}
use Rattle.zw_safety_narrow.proofs.Orders.{read}
use Rattle.zw_safety_narrow.proofs.Pieces.{having, Steps, Fails, steps-then, fails-behind, fails-before, steps-get, steps-set, steps-long_const, steps-long, steps-compare_long, steps-passed, fails-panics}
use Rattle.zw_safety_narrow.proofs.SaturatingRuns.{fits_between, long_of_signed}
use Rattle.zw_safety_narrow.proofs.ShiftRuns.{in_width, amount_small}
use Rattle.zw_safety_narrow.proofs.WordRuns.{both-true}
use Rattle.zw_safety_narrow.proofs.Words.{mul_bits}
use Rattle.zw_safety_narrow.specs.CastCode.{holds}
use Rattle.zw_safety_narrow.specs.Checked.{HasScratch, HasPanicState, KeepsOthers}
use Rattle.zw_safety_narrow.specs.Operators.{IsStored, fills_word, filled}
use Rattle.zw_safety_narrow.specs.ShiftCode.{right_operator}
use Rattle.zw_safety_words.proofs.WideRuns.{Reaches, HasOperands, Tells, reaches, reaches-then, reaches-within, leaves_value, left_widened-for, has-operands, room-set, with_operands, steps-fitted_wide, steps-settled, steps-spread, steps-widened}
use Rattle.zw_safety_words.proofs.WideSums.{Operands, difference-for}
use Rattle.zw_safety_words.proofs.WideWords.{IsHeld, held, power_long}
use Rattle.zw_safety_words.specs.WideBitCode.{wide_word_code, both_got, are_wide_amounts, far_tested, wide_amount, wide_left_code, wide_right_code, wide_minus_one, wide_same_code, wide_truncated_code, zero_spread, wide_opposite_code}
use Rattle.zw_safety_words.specs.WideCode.{settled, both_widened, spread, wide_fitted, difference_test, tested, all_unsigned, all_signed}
use Rattle.zw_session.specs.Causes.{integer_overflow}
use Rattle.zw_wasm.specs.declared.module.BinaryOperator.{BinaryOperator}
use Rattle.zw_wasm.specs.declared.module.BinaryOperator.TheVariants.{Mul, Xor, Shl, ShrS, ShrU}
use Rattle.zw_wasm.specs.declared.module.Comparison.TheVariants.{GeU}
use Rattle.zw_wasm.specs.declared.module.Instr.{Instr}
use Rattle.zw_wasm.specs.declared.module.Instr.TheVariants.{LocalGet, I64Const, Binary, Compare}
use Rattle.zw_wasm.specs.declared.module.Module.{Module}
use Rattle.zw_wasm.specs.declared.module.ValType.TheVariants as ty
use Rattle.zw_wasm.specs.declared.num.Num.{Num}
use Rattle.zw_wasm.specs.declared.num.Num.TheVariants.{I32, I64}
use Rattle.zw_wasm.specs.Numerics.{Gives, binary_of, bit_of}
use Rattle.zw_wasm.specs.Reduction.{Config}
use Rattle.zw_wasm.specs.Signature.{View}
use lib.Signed.{shr_z}

-- both operands as their types fill them, and in 64 bits
abbrev pub filled_both : IntTy → IntTy → ℤ → ℤ → List Num → List Num
filled_both left right a b os = filled right b ∷ filled left a ∷ os

abbrev pub longs : ℤ → ℤ → List Num → List Num
longs a b os = I64 (pattern 64 b) ∷ I64 (pattern 64 a) ∷ os

-- a piece from some operands to others, that keeps the other locals
pub record Brings (m : Module) (v : View) (c : Config) (is : List Instr) (s : ℕ) (from to locals : List Num) (most : ℕ) : Type 0 where
  pub after : List Num
  pub keeps : KeepsOthers s locals after
  pub runs : Reaches m v c is (having from locals) (having to after) most

pub brings : {m : Module} {v : View} {c : Config} {is : List Instr} {from to locals : List Num} {most : ℕ} (s : ℕ) → Reaches m v c is (having from locals) (having to locals) most → Brings m v c is s from to locals most
brings {m} {v} {c} {is} {from} {to} {locals} {most} s runs = record { after = locals; keeps = keeps-same s locals; runs = runs }

-- and one that stays with the locals behind it
pub brings-then : {m : Module} {v : View} {c : Config} {is js : List Instr} {s i j : ℕ} {first second third locals : List Num} (a : Brings m v c is s first second locals i) → Reaches m v c js (having second a.after) (having third a.after) j → Brings m v c (is ++ js) s first third locals (i + j)
brings-then {m} {v} {c} {is} {js} {s} {i} {j} {first} {second} {third} {locals} a b = record { after = a.after; keeps = a.keeps; runs = reaches-then a.runs b }

pub both-brought : (m : Module) (v : View) (c : Config) (s : ℕ) (left right : IntTy) (a b : ℤ) (os locals : List Num) → IsStored left → IsStored right → IsIn left a → IsIn right b → HasScratch s locals → Brings m v c (both_widened left right s) s (filled_both left right a b os) (longs a b os) locals 4
both-brought m v c s left right a b os locals hl hr il ir h =
    let first = steps-widened m v c right b (filled left a ∷ os) locals hr ir in
    let second = left_widened-for (fills_word left) m v c left s a b os locals hl il h refl in
    record { after = second.0; keeps = second.1; runs = reaches-then first second.2 }

-- a piece that leaves the value of the result
pub brings-value : (m : Module) (v : View) (c : Config) (s : ℕ) (left right to : IntTy) (a b z : ℤ) (os : List Num) (is rest : List Instr) (most : ℕ) → most ≤ 128 → Brings m v c is s (filled_both left right a b os) (filled to z ∷ os) c.frame.locals most → EndsOn m v c s left right to a b os is rest (Ok z)
brings-value m v c s left right to a b z os is rest most few piece = leaves_value m v c s left right to a b z os piece.after is rest most piece.keeps few piece.runs

pub wide_word-ends : (m : Module) (v : View) (c : Config) (o : BinaryOperator) (s : ℕ) (left right to : IntTy) (a b z : ℤ) (os : List Num) (rest : List Instr) → IsStored left → IsStored right → IsIn left a → IsIn right b → HasScratch s c.frame.locals → binary_of o w64 (pattern 64 a) (pattern 64 b) ≡ Gives (pattern 64 z) → EndsOn m v c s left right to a b os (wide_word_code o left right to s) rest (Ok z)
wide_word-ends m v c o s left right to a b z os rest hl hr il ir h gives =
    let first = both-brought m v c s left right a b os c.frame.locals hl hr il ir h in
    brings-value m v c s left right to a b z os (wide_word_code o left right to s) rest 6 (lit≤ tt)
    (brings-then first (reaches-then (reaches (steps-long m v c o (pattern 64 a) (pattern 64 b) (pattern 64 z) os first.after gives)) (steps-settled m v c to z os first.after)))

-- ---- amounts

from_test : (count n : ℕ) → n % 2 ^ 64 ≡ n → nat_le count (n % 2 ^ 64) ≡ not (in_width count (pos n))
from_test count n same = ap (λ k. nat_le count k) same ∙ grind (arith, ints)

below_test : (count n : ℕ) → count ≤ 64 → n < 2 ^ 63 → nat_le count (2 ^ 64 - 1 - n % 2 ^ 64) ≡ true
below_test count n h low = let far : count ≤ 2 ^ 64 - 1 - n % 2 ^ 64 = omega (arith, h, low) in grind (arith, far)

pub amount_test : (count : ℕ) (b : ℤ) → count ≤ 64 → IsHeld b → nat_le count (pattern 64 b) ≡ not (in_width count b)
amount_test count (pos n) h long = from_test count n (omega (arith, ints, long.high))
amount_test count (negsuc n) h long = below_test count n h (omega (arith, ints, long.low))

pub always_amount : (right : IntTy) (wide : ℕ) (b : ℤ) → are_wide_amounts right wide ≡ true → IsIn right b → in_width wide b ≡ true
always_amount (Sized false count) wide (pos n) e i = amount_small count wide n (both-true (nat_lt count 7) (nat_le (2 ^ count) wide) e).1 i
always_amount (Sized false count) wide (negsuc n) e i = absurd (omega (arith, ints, i.at_least))
always_amount (Sized true count) wide b e i = absurd (cc)
always_amount Comptime wide b e i = absurd (cc)

-- an amount below 64
pub record IsWideAmount (b : ℤ) : Type 0 where
  pub value : ℕ
  pub is : b ≡ pos value
  pub small : value < 64

amount_from : (count n : ℕ) → count ≤ 64 → in_width count (pos n) ≡ true → n < 64
amount_from count n h e = grind (arith, ints, e)

pub amount_is : (count : ℕ) (b : ℤ) → count ≤ 64 → in_width count b ≡ true → IsWideAmount b
amount_is count (pos n) h e = record { value = n; is = refl; small = amount_from count n h e }
amount_is count (negsuc n) h e = absurd (cc)

-- both operands from their locals
pub steps-both_got : (m : Module) (v : View) (c : Config) (s x y : ℕ) (os before locals : List Num) → HasOperands s before locals x y → Steps m v c (both_got s) (having os locals) (having (I64 y ∷ I64 x ∷ os) locals) 2
steps-both_got m v c s x y os before locals h = steps-then (steps-get m v c (s + 5) (I64 x) os locals h.left) (steps-get m v c (s + 4) (I64 y) (I64 x ∷ os) locals h.right)

-- a piece that takes both operands to 64 bits, or tells a cause, by a test
record Amounts (m : Module) (v : View) (c : Config) (is : List Instr) (s : ℕ) (left right : IntTy) (a b : ℤ) (os locals : List Num) (t : Bool) : Type 0 where
  passes : t ≡ true → Brings m v c is s (filled_both left right a b os) (longs a b os) locals 10
  fails : t ≡ false → (count : ℕ) × (count ≤ 20) × Fails m v c is (having (filled_both left right a b os) locals) 9 count

pub steps-far : (m : Module) (v : View) (c : Config) (count s : ℕ) (a b : ℤ) (t : Bool) (os before locals : List Num) → count ≤ 64 → IsHeld b → in_width count b ≡ t → HasOperands s before locals (pattern 64 a) (pattern 64 b) → Steps m v c (LocalGet (s + 4) ∷ I64Const (pos count) ∷ Compare ty.I64 GeU ∷ []) (having os locals) (having (I32 (bit_of (not t)) ∷ os) locals) 3
steps-far m v c count s a b t os before locals h long e has =
    let y = I64 (pattern 64 b) in
    steps-then (steps-get m v c (s + 4) y os locals has.right)
    (steps-then (steps-long_const m v c (pos count) (y ∷ os) locals)
    (steps-compare_long m v c GeU (pattern 64 b) count (not t) os locals (amount_test count b h long ∙ ap not e)))

amounts-for : (u : Bool) (m : Module) (v : View) (c : Config) (count s : ℕ) (left right : IntTy) (a b : ℤ) (os locals : List Num) → are_wide_amounts right count ≡ u → count ≤ 64 → IsStored left → IsStored right → IsIn left a → IsIn right b → HasScratch s locals → HasPanicState c.world.store →
    Amounts m v c (if u then both_widened left right s else spread left right s ++ (far_tested count s ++ both_got s)) s left right a b os locals (in_width count b)
amounts-for true m v c count s left right a b os locals e h hl hr il ir room state =
    let inside = always_amount right count b e ir in
    let piece = both-brought m v c s left right a b os locals hl hr il ir room in
    record {
      passes = λ f. record { after = piece.after; keeps = piece.keeps; runs = reaches-within piece.runs 10 (lit≤ tt) };
      fails = λ f. absurd (cc);
    }
amounts-for false m v c count s left right a b os locals e h hl hr il ir room state =
    let after = with_operands s (pattern 64 a) (pattern 64 b) locals in
    let has = has-operands s (pattern 64 a) (pattern 64 b) locals room in
    let long = held right b hr ir in
    let first = steps-spread m v c left right s a b os locals hl hr il ir room in
    record {
      passes = λ f. record {
        after = after;
        keeps = has.kept;
        runs = reaches-then first (reaches (steps-then (steps-then (steps-far m v c count s a b true os locals after h long f has) (steps-passed m v c 9 os after)) (steps-both_got m v c s (pattern 64 a) (pattern 64 b) os locals after has)));
      };
      fails = λ f.
          let test = steps-far m v c count s a b false os locals after h long f has in
          let fewer = first.few in (
            first.count + (3 + 8),
            omega (arith, fewer),
            fails-behind first.steps (fails-before (fails-behind test (fails-panics m v c 9 os after state)) (both_got s)),
          );
    }

-- behind an amount that is tested a piece gives the answer
shift_for : (t : Bool) (m : Module) (v : View) (c : Config) (s : ℕ) (left right to : IntTy) (a b z : ℤ) (os : List Num) (is rest : List Instr) (count : ℕ) → count ≤ 64 → IsStored left → IsStored right → IsIn left a → IsIn right b → HasScratch s c.frame.locals → HasPanicState c.world.store → in_width count b ≡ t →
    ((locals : List Num) → IsWideAmount b → Reaches m v c is (having (longs a b os) locals) (having (filled to z ∷ os) locals) 8) → EndsOn m v c s left right to a b os (wide_amount left right count s ++ is) rest (if t then Ok z else Err ShiftAmount)
shift_for true m v c s left right to a b z os is rest count h hl hr il ir room state e piece =
    let first = (amounts-for (are_wide_amounts right count) m v c count s left right a b os c.frame.locals refl h hl hr il ir room state).passes e in
    brings-value m v c s left right to a b z os (wide_amount left right count s ++ is) rest 18 (lit≤ tt) (brings-then first (piece first.after (amount_is count b h e)))
shift_for false m v c s left right to a b z os is rest count h hl hr il ir room state e piece =
    let first = (amounts-for (are_wide_amounts right count) m v c count s left right a b os c.frame.locals refl h hl hr il ir room state).fails e in
    let few = first.1 in
    record { taken = first.0; few = omega (arith, few); halts = (fails-before first.2 is).by rest }

-- ---- to the left

pub shl_bits : (a b : ℤ) → IsWideAmount b → binary_of Shl w64 (pattern 64 a) (pattern 64 b) ≡ Gives (pattern 64 (a *ℤ power b))
shl_bits a b n = ap (λ z. binary_of Shl w64 (pattern 64 a) (pattern 64 z)) n.is ∙ shl_wide a n.value n.small ∙ ap (λ z. Gives (pattern 64 (a *ℤ z))) (sym (power_is b n.value n.is))

pub wide_left-ends : (m : Module) (v : View) (c : Config) (s : ℕ) (left right to : IntTy) (a b : ℤ) (os : List Num) (rest : List Instr) → IsStored left → IsStored right → IsStored to → IsIn left a → IsIn right b → HasScratch s c.frame.locals → HasPanicState c.world.store → EndsOn m v c s left right to a b os (wide_left_code left right to s) rest (shifted to b (kept to (a *ℤ power b)))
wide_left-ends m v c s left right (Sized signed count) a b os rest hl hr ht il ir room state =
    let to = Sized signed count in
    let z = a *ℤ power b in
    shift_for (in_width count b) m v c s left right to a b (wrapped to z) os (Binary ty.I64 Shl ∷ wide_fitted to) rest count ht hl hr il ir room state refl
    (λ locals n. reaches-then (reaches (steps-long m v c Shl (pattern 64 a) (pattern 64 b) (pattern 64 z) os locals (shl_bits a b n))) (steps-fitted_wide m v c to z os locals ht))
wide_left-ends m v c s left right Comptime a b os rest hl hr ht il ir room state = absurd ht

-- ---- to the right

pub low_amount : (b : ℤ) (n : IsWideAmount b) → pattern 64 b % 64 ≡ n.value
low_amount b n = let small = n.small in ap (λ z. pattern 64 z % 64) n.is ∙ omega (arith, small)

shift_fits : (a : ℤ) (p : ℕ) → FitsSigned w64 a → FitsSigned w64 (shr_z a p)
shift_fits (pos n) p h = let less = div-le_self n p in record { sfits = omega (arith, less, h.sfits) }
shift_fits (negsuc n) p h = let less = div-le_self n p in record { sfits = omega (arith, less, h.sfits) }

shr_signed : (a b : ℤ) → FitsSigned w64 a → IsWideAmount b → binary_of ShrS w64 (pattern 64 a) (pattern 64 b) ≡ Gives (pattern 64 (floored a (power b)))
shr_signed a b h n =
    let p = 2 ^ n.value in
    ap (λ k. Gives (cast_unsigned w64 (int_shr (cast_signed w64 (pattern 64 a)) k))) (low_amount b n) ∙ ap (λ x. Gives (cast_unsigned w64 (int_shr x n.value))) (read w64 a h)
    ∙ ap (λ k. Gives k) (long_of_signed (int_shr a n.value) (shift_fits a p h)) ∙ ap (λ z. Gives (pattern 64 z)) (floor_shift a p ∙ ap (floored a) (sym (power_is b n.value n.is)))

shr_natural : (x : ℕ) (b : ℤ) → x < 2 ^ 64 → IsWideAmount b → binary_of ShrU w64 (pattern 64 (pos x)) (pattern 64 b) ≡ Gives (pattern 64 (floored (pos x) (power b)))
shr_natural x b low n =
    let p = 2 ^ n.value in
    let less = div-le_self x p in
    let same : pattern 64 (pos x) ≡ x = mod-eq_of_lt low in
    ap (λ k. Gives (pattern 64 (pos x) / 2 ^ k)) (low_amount b n) ∙ ap (λ k. Gives (k / p)) same
    ∙ ap (λ k. Gives k) (sym (mod-eq_of_lt (omega (arith, less, low))))
    ∙ ap (λ z. Gives (pattern 64 (floored (pos x) z))) (sym (power_is b n.value n.is))

-- a value of a signed type in 64 bits
pub signed_fits : (count : ℕ) (a : ℤ) → count ≤ 64 → IsIn (Sized true count) a → FitsSigned w64 a
signed_fits count a h i = let few = power_long count h in fits_between a (omega (arith, ints, i.at_least, few)) (omega (arith, ints, i.at_most, few))

-- one of an unsigned type
pub natural_low : (count x : ℕ) → count ≤ 64 → IsIn (Sized false count) (pos x) → x < 2 ^ 64
natural_low count x h i = let few = power_long count h in omega (arith, ints, i.at_most, few)

pub shr_bits : (left : IntTy) (a b : ℤ) → IsStored left → IsIn left a → IsWideAmount b → binary_of (right_operator left) w64 (pattern 64 a) (pattern 64 b) ≡ Gives (pattern 64 (floored a (power b)))
shr_bits (Sized true count) a b h i n = shr_signed a b (signed_fits count a h i) n
shr_bits (Sized false count) (pos x) b h i n = shr_natural x b (natural_low count x h i) n
shr_bits (Sized false count) (negsuc x) b h i n = absurd (omega (arith, ints, i.at_least))
shr_bits Comptime a b h i n = absurd h

pub wide_right-ends : (m : Module) (v : View) (c : Config) (s : ℕ) (left right to : IntTy) (a b : ℤ) (os : List Num) (rest : List Instr) → IsStored left → IsStored right → IsStored to → IsIn left a → IsIn right b → HasScratch s c.frame.locals → HasPanicState c.world.store → EndsOn m v c s left right to a b os (wide_right_code left right to s) rest (shifted to b (Ok (floored a (power b))))
wide_right-ends m v c s left right (Sized signed count) a b os rest hl hr ht il ir room state =
    let to = Sized signed count in
    let z = floored a (power b) in
    shift_for (in_width count b) m v c s left right to a b z os (Binary ty.I64 (right_operator left) ∷ settled to) rest count ht hl hr il ir room state refl
    (λ locals n. reaches-within (reaches-then (reaches (steps-long m v c (right_operator left) (pattern 64 a) (pattern 64 b) (pattern 64 z) os locals (shr_bits left a b hl il n))) (steps-settled m v c to z os locals)) 8 (lit≤ tt))
wide_right-ends m v c s left right Comptime a b os rest hl hr ht il ir room state = absurd ht

-- ---- operators of one operand

pub leaves_one : (m : Module) (v : View) (c : Config) (s : ℕ) (from to : IntTy) (a z : ℤ) (os : List Num) (is rest : List Instr) (most : ℕ) → most ≤ 128 → Brings m v c is s (filled from a ∷ os) (filled to z ∷ os) c.frame.locals most → EndsOnOne m v c s from to a os is rest (Ok z)
leaves_one m v c s from to a z os is rest most few piece =
    let fewer = piece.runs.few in
    record { locals = piece.after; kept = piece.keeps; taken = piece.runs.count; few = omega (arith, few, fewer); runs = piece.runs.steps.by rest }

pub wide_minus_one-ends : (m : Module) (v : View) (c : Config) (o : BinaryOperator) (s : ℕ) (from to : IntTy) (a z : ℤ) (os : List Num) (rest : List Instr) → IsStored from → IsStored to → IsIn from a → binary_of o w64 (pattern 64 a) (pattern 64 (negsuc 0)) ≡ Gives (pattern 64 z) → EndsOnOne m v c s from to a os (wide_minus_one o from to) rest (Ok (wrapped to z))
wide_minus_one-ends m v c o s from to a z os rest hf ht i gives =
    let locals = c.frame.locals in
    leaves_one m v c s from to a (wrapped to z) os (wide_minus_one o from to) rest 10 (lit≤ tt)
    (brings s (reaches-then (steps-widened m v c from a os locals hf i)
    (reaches-then (reaches (steps-long_const m v c (negsuc 0) (I64 (pattern 64 a) ∷ os) locals))
    (reaches-then (reaches (steps-long m v c o (pattern 64 a) (pattern 64 (negsuc 0)) (pattern 64 z) os locals gives)) (steps-fitted_wide m v c to z os locals ht)))))

pub turned_bits : (a : ℤ) → binary_of Xor w64 (pattern 64 a) (pattern 64 (negsuc 0)) ≡ Gives (pattern 64 (bits_not a))
turned_bits a = ap (λ n. Gives n) (xor_bits w64 a (negsuc 0) ∙ ap (pattern 64) (turns a))

pub negated_bits : (a : ℤ) → binary_of Mul w64 (pattern 64 a) (pattern 64 (negsuc 0)) ≡ Gives (pattern 64 (neg_ℤ a))
negated_bits a = ap (λ n. Gives n) (mul_bits w64 a (negsuc 0) ∙ ap (pattern 64) (minus_one a))

pub wide_same-ends : (m : Module) (v : View) (c : Config) (s : ℕ) (from to : IntTy) (a : ℤ) (os : List Num) (rest : List Instr) → IsStored from → IsIn from a → EndsOnOne m v c s from to a os (wide_same_code from to) rest (Ok a)
wide_same-ends m v c s from to a os rest hf i =
    let locals = c.frame.locals in
    leaves_one m v c s from to a a os (wide_same_code from to) rest 2 (lit≤ tt) (brings s (reaches-then (steps-widened m v c from a os locals hf i) (steps-settled m v c to a os locals)))

same_value : (to from : IntTy) (a : ℤ) → IsStored to → holds to from ≡ true → IsIn from a → wrapped to a ≡ a
same_value (Sized signed to) from a h e i = wrapped_same signed to a (holds_in (Sized signed to) from a e i)
same_value Comptime from a h e i = absurd h

pub truncated_for : (t : Bool) (m : Module) (v : View) (c : Config) (from to : IntTy) (a : ℤ) (os locals : List Num) → holds to from ≡ t → IsStored to → IsIn from a → Reaches m v c (if t then settled to else wide_fitted to) (having (I64 (pattern 64 a) ∷ os) locals) (having (filled to (wrapped to a) ∷ os) locals) 7
truncated_for true m v c from to a os locals e ht i =
    subst (λ z. Reaches m v c (settled to) (having (I64 (pattern 64 a) ∷ os) locals) (having (filled to z ∷ os) locals) 7) (sym (same_value to from a ht e i)) (reaches-within (steps-settled m v c to a os locals) 7 (lit≤ tt))
truncated_for false m v c from to a os locals e ht i = steps-fitted_wide m v c to a os locals ht

pub wide_truncated-ends : (m : Module) (v : View) (c : Config) (s : ℕ) (from to : IntTy) (a : ℤ) (os : List Num) (rest : List Instr) → IsStored from → IsStored to → IsIn from a → EndsOnOne m v c s from to a os (wide_truncated_code from to) rest (Ok (wrapped to a))
wide_truncated-ends m v c s from to a os rest hf ht i =
    let locals = c.frame.locals in
    leaves_one m v c s from to a (wrapped to a) os (wide_truncated_code from to) rest 8 (lit≤ tt)
    (brings s (reaches-then (steps-widened m v c from a os locals hf i) (truncated_for (holds to from) m v c from to a os locals refl ht i)))

-- ---- `-`

pub zero_in : (t : IntTy) → IsStored t → IsIn t (pos 0)
zero_in (Sized false count) h = record { at_least = omega (arith, ints); at_most = omega (arith, ints) }
zero_in (Sized true count) h = record { at_least = omega (arith, ints); at_most = omega (arith, ints) }
zero_in Comptime h = absurd h

steps-zero_spread : (m : Module) (v : View) (c : Config) (from : IntTy) (s : ℕ) (a : ℤ) (os locals : List Num) → IsStored from → IsIn from a → HasScratch s locals → Reaches m v c (zero_spread from s) (having (filled from a ∷ os) locals) (having os (with_operands s 0 (pattern 64 a) locals)) 4
steps-zero_spread m v c from s a os locals hf i h =
    let first = slice_set locals (s + 4) (I64 (pattern 64 a)) in
    let room : HasScratch s first = room-set s (s + 4) (I64 (pattern 64 a)) locals h in
    reaches-then (steps-widened m v c from a os locals hf i)
    (reaches (steps-then (steps-set m v c (s + 4) (I64 (pattern 64 a)) os locals (omega (arith, h)))
    (steps-then (steps-long_const m v c (pos 0) os first) (steps-set m v c (s + 5) (I64 0) os first (omega (arith, room))))))

opposite-for : (t : Bool) (m : Module) (v : View) (c : Config) (s : ℕ) (from to : IntTy) (a z : ℤ) (os : List Num) (ws rest : List Instr) → IsStored from → IsIn from a → HasScratch s c.frame.locals → HasPanicState c.world.store → is_in to z ≡ t → Tells m v c s ws 0 (pattern 64 a) to z os c.frame.locals (with_operands s 0 (pattern 64 a) c.frame.locals) → EndsOnOne m v c s from to a os (zero_spread from s ++ (ws ++ tested to s)) rest (if t then Ok z else Err Overflow)
opposite-for true m v c s from to a z os ws rest hf i h state e tells =
    let after = tells.after in
    let locals = with_operands s 0 (pattern 64 a) c.frame.locals in
    let first = steps-zero_spread m v c from s a os c.frame.locals hf i h in
    let test = subst (λ t. Reaches m v c ws (having os locals) (having (I32 (bit_of (not t)) ∷ os) after) 90) e tells.reached in
    let ends = reaches-then (reaches (steps-passed m v c integer_overflow os after))
    (reaches-then (reaches (steps-get m v c (s + 6) (I64 (pattern 64 z)) os after tells.has.low_is)) (steps-settled m v c to z os after)) in
    leaves_one m v c s from to a z os (zero_spread from s ++ (ws ++ tested to s)) rest 97 (lit≤ tt)
    (record { after = after; keeps = tells.has.operands.kept; runs = reaches-then first (reaches-then test ends) })
opposite-for false m v c s from to a z os ws rest hf i h state e tells =
    let after = tells.after in
    let locals = with_operands s 0 (pattern 64 a) c.frame.locals in
    let first = steps-zero_spread m v c from s a os c.frame.locals hf i h in
    let test = subst (λ t. Reaches m v c ws (having os locals) (having (I32 (bit_of (not t)) ∷ os) after) 90) e tells.reached in
    let fails = fails-behind first.steps (fails-behind test.steps
    (fails-before (fails-panics m v c integer_overflow os after state) (LocalGet (s + 6) ∷ settled to))) in
    record {
      taken = first.count + (test.count + 8);
      few = omega (arith, first.few, test.few);
      halts = fails.by rest;
    }

none_less : (a : ℤ) → pos 0 -ℤ a ≡ neg_ℤ a
none_less a = omega (arith, ints)

pub wide_opposite-ends : (m : Module) (v : View) (c : Config) (s : ℕ) (from to : IntTy) (a : ℤ) (os : List Num) (rest : List Instr) → IsStored from → IsStored to → IsIn from a → HasScratch s c.frame.locals → HasPanicState c.world.store → EndsOnOne m v c s from to a os (wide_opposite_code from to s) rest (exact to (neg_ℤ a))
wide_opposite-ends m v c s from to a os rest hf ht i h state =
    let locals = with_operands s 0 (pattern 64 a) c.frame.locals in
    let o : Operands from from to (pos 0) a = record { left_stored = hf; right_stored = hf; to_stored = ht; left_in = zero_in from hf; right_in = i } in
    subst (λ z. EndsOnOne m v c s from to a os (wide_opposite_code from to s) rest (exact to z)) (none_less a)
    (opposite-for (is_in to (pos 0 -ℤ a)) m v c s from to a (pos 0 -ℤ a) os (difference_test from from to s) rest hf i h state refl
    (difference-for (all_unsigned from from to) (all_signed from from to) m v c s from from to (pos 0) a os c.frame.locals locals o refl refl (has-operands s 0 (pattern 64 a) c.frame.locals h)))
