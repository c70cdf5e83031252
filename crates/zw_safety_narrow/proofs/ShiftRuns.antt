-- What the code of shifts does when it runs.
use Rattle.std.proofs.Common.{◌≡◌, ℕ, ℤ, pos, negsuc, ◌-◌, ◌*◌, ◌/◌, ◌%◌, ◌^◌, ◌<◌, ◌≤◌, ◌*ℤ◌, Bool, true, false, not, List, [], ◌∷◌, ◌++◌, Ok, Err, refl, sym, ap, ◌∙◌, arith, lit≤, FitsSigned}
use Rattle.std.specs.Prelude.{nat_lt, nat_le, int_le, int_lt, ◌&&◌, if◌then◌else◌}
use Rattle.std.proofs.lemmas.Int.{ints}
use Rattle.std.proofs.lemmas.Nat.{pow_below, pow_pos}
use Rattle.std.proofs.Math.Nat.{div-le_self, mod-eq_of_lt}
use Rattle.std.specs.Int.{w32, cast_signed, cast_unsigned, int_shr}
use Rattle.zw_num.proofs.ShiftLemmas.{power_is, floor_shift}
use Rattle.zw_num.specs.Arithmetic.{IsIn, wrapped, pattern, power, shifted, kept, floored}
use Rattle.zw_num.specs.declared.int_ty.IntTy.{IntTy}
use Rattle.zw_num.specs.declared.int_ty.IntTy.TheVariants.{Sized, Comptime}
use Rattle.zw_num.specs.declared.num_fault.NumFault.TheVariants.{ShiftAmount}
use Rattle.zw_safety_narrow.proofs.CastRuns.{Checks, word, tested-checks, few-moves, fits}
use Rattle.zw_safety_narrow.proofs.Going.{moves, andthen, before, panics}
use Rattle.zw_safety_narrow.proofs.NarrowRuns.{EndsOn, on_words}
use Rattle.zw_safety_narrow.proofs.OrderRuns.{Leads, leads, leads-then, words, ends_with}
use Rattle.zw_safety_narrow.proofs.Orders.{IsNatural, read, natural, natural_bits, fits_word}
use Rattle.zw_safety_narrow.proofs.Pieces.{having, steps-const, steps-none, steps-word, steps-compare_word}
use Rattle.zw_safety_narrow.proofs.WordRuns.{both-true}
use Rattle.zw_safety_narrow.proofs.Words.{IsWord, word-narrow, mul_bits}
use Rattle.zw_safety_narrow.specs.CastCode.{tested}
use Rattle.zw_safety_narrow.specs.Checked.{HasScratch, HasPanicState}
use Rattle.zw_safety_narrow.specs.NarrowCode.{fitted}
use Rattle.zw_safety_narrow.specs.Operators.{IsNarrow}
use Rattle.zw_safety_narrow.specs.ShiftCode.{are_amounts, too_far, amount_tested, left_code, right_operator, right_code}
use Rattle.zw_wasm.specs.declared.module.BinaryOperator.TheVariants.{Shl, ShrS, ShrU}
use Rattle.zw_wasm.specs.declared.module.Comparison.TheVariants.{GeU}
use Rattle.zw_wasm.specs.declared.module.Instr.{Instr}
use Rattle.zw_wasm.specs.declared.module.Instr.TheVariants.{Binary}
use Rattle.zw_wasm.specs.declared.module.Module.{Module}
use Rattle.zw_wasm.specs.declared.module.ValType.TheVariants as ty
use Rattle.zw_wasm.specs.declared.num.Num.{Num}
use Rattle.zw_wasm.specs.declared.num.Num.TheVariants.{I32}
use Rattle.zw_wasm.specs.Numerics.{Gives, binary_of}
use Rattle.zw_wasm.specs.Reduction.{Config}
use Rattle.zw_wasm.specs.Signature.{View}
use lib.Signed.{shr_z}

-- ---- the amount

abbrev pub in_width : ℕ → ℤ → Bool
in_width count b = int_le (pos 0) b && int_lt b (pos count)

from_test : (count n : ℕ) → n % 2 ^ 32 ≡ n → nat_le count (n % 2 ^ 32) ≡ not (in_width count (pos n))
from_test count n same = ap (λ k. nat_le count k) same ∙ grind (arith, ints)

below_test : (count n : ℕ) → count ≤ 32 → n < 2 ^ 31 → nat_le count (2 ^ 32 - 1 - n % 2 ^ 32) ≡ true
below_test count n h low = let far : count ≤ 2 ^ 32 - 1 - n % 2 ^ 32 = omega (arith, h, low) in grind (arith, far)

amount_test : (count : ℕ) (b : ℤ) → count ≤ 32 → IsWord b → nat_le count (pattern 32 b) ≡ not (in_width count b)
amount_test count (pos n) h word = from_test count n (omega (arith, ints, word.high))
amount_test count (negsuc n) h word = below_test count n h (omega (arith, ints, word.low))

pub amount_small : (count wide n : ℕ) → nat_le (2 ^ count) wide ≡ true → IsIn (Sized false count) (pos n) → in_width wide (pos n) ≡ true
amount_small count wide n e i =
    let few : 2 ^ count ≤ wide = grind (arith, e) in
    let some = pow_pos count in
    let less : n < wide = omega (arith, ints, i.at_most, few, some) in
    grind (arith, ints, less)

always_amount : (right : IntTy) (wide : ℕ) (b : ℤ) → are_amounts right wide ≡ true → IsIn right b → in_width wide b ≡ true
always_amount (Sized false count) wide (pos n) e i = amount_small count wide n (both-true (nat_lt count 6) (nat_le (2 ^ count) wide) e).1 i
always_amount (Sized false count) wide (negsuc n) e i = absurd (omega (arith, ints, i.at_least))
always_amount (Sized true count) wide b e i = absurd (cc)
always_amount Comptime wide b e i = absurd (cc)

amount_for : (u : Bool) (m : Module) (v : View) (c : Config) (count : ℕ) (right : IntTy) (s : ℕ) (b : ℤ) (os locals : List Num) → are_amounts right count ≡ u → count ≤ 32 → IsNarrow right → IsIn right b → HasScratch s locals → HasPanicState c.world.store → Checks m v c (if u then [] else tested (too_far count) 9 s) s b os locals (in_width count b) 9
amount_for true m v c count right s b os locals e h hr ir scratch state =
    let inside = always_amount right count b e ir in
    record {
      passes = λ f. leads s (few-moves 13 (lit≤ tt) (moves (steps-none m v c (having (word b os) locals))));
      fails = λ f. absurd (cc);
    }
amount_for false m v c count right s b os locals e h hr ir scratch state =
    tested-checks m v c (too_far count) 9 s b os locals (in_width count b) scratch state
    (λ after. few-moves 4 (lit≤ tt) (andthen (moves (steps-const m v c (pos count) (word b os) after))
    (moves (steps-compare_word m v c GeU (pattern 32 b) count (not (in_width count b)) os after (amount_test count b h (word-narrow right b hr ir))))))

pub amount-checks : (m : Module) (v : View) (c : Config) (count : ℕ) (right : IntTy) (s : ℕ) (b : ℤ) (os locals : List Num) → count ≤ 32 → IsNarrow right → IsIn right b → HasScratch s locals → HasPanicState c.world.store → Checks m v c (amount_tested count right s) s b os locals (in_width count b) 9
amount-checks m v c count right s b os locals h hr ir scratch state = amount_for (are_amounts right count) m v c count right s b os locals refl h hr ir scratch state

-- an amount below the width
pub record IsAmount (b : ℤ) : Type 0 where
  pub value : ℕ
  pub is : b ≡ pos value
  pub small : value < 32

pub amount_from : (count n : ℕ) → count ≤ 32 → in_width count (pos n) ≡ true → n < 32
amount_from count n h e = grind (arith, ints, e)

pub amount_is : (count : ℕ) (b : ℤ) → count ≤ 32 → in_width count b ≡ true → IsAmount b
amount_is count (pos n) h e = record { value = n; is = refl; small = amount_from count n h e }
amount_is count (negsuc n) h e = absurd (cc)

pub low_amount : (b : ℤ) (n : IsAmount b) → pattern 32 b % 32 ≡ n.value
low_amount b n = let small = n.small in ap (λ z. pattern 32 z % 32) n.is ∙ omega (arith, small)

-- behind an amount that is tested a piece gives the answer
shift_for : (t : Bool) (m : Module) (v : View) (c : Config) (s : ℕ) (left right to : IntTy) (a b z : ℤ) (os : List Num) (is rest : List Instr) (count : ℕ) → IsNarrow left → IsNarrow right → IsNarrow to → count ≤ 32 → IsIn right b → HasScratch s c.frame.locals → HasPanicState c.world.store → in_width count b ≡ t →
    ((locals : List Num) → IsAmount b → Leads m v c is s (words a b os) (word z os) locals 13) → EndsOn m v c s left right to a b os (amount_tested count right s ++ is) rest (if t then Ok z else Err ShiftAmount)
shift_for true m v c s left right to a b z os is rest count hl hr ht h ir scratch state e piece =
    let first = (amount-checks m v c count right s b (I32 (pattern 32 a) ∷ os) c.frame.locals h hr ir scratch state).passes e in
    ends_with m v c s left right to a b z os (amount_tested count right s ++ is) rest (pattern 32 z) 26 hl hr ht (lit≤ tt) refl (leads-then first (piece first.after (amount_is count b h e)))
shift_for false m v c s left right to a b z os is rest count hl hr ht h ir scratch state e piece =
    let first = (amount-checks m v c count right s b (I32 (pattern 32 a) ∷ os) c.frame.locals h hr ir scratch state).fails e in
    on_words m v c s left right to a b os (amount_tested count right s ++ is) rest (Err ShiftAmount) hl hr
    (panics m v c s to ShiftAmount (words a b os) os (amount_tested count right s ++ is) rest 13 (lit≤ tt) (before first is))

-- ---- to the left

pub power_bits : (n : ℕ) → n < 32 → pattern 32 (pos (2 ^ n)) ≡ 2 ^ n
power_bits n h = mod-eq_of_lt (pow_below n 32 h)

pub shl_bits : (a b : ℤ) → IsAmount b → binary_of Shl w32 (pattern 32 a) (pattern 32 b) ≡ Gives (pattern 32 (a *ℤ power b))
shl_bits a b n =
    ap (λ k. Gives ((pattern 32 a * 2 ^ k) % 2 ^ 32)) (low_amount b n) ∙ ap (λ k. Gives ((pattern 32 a * k) % 2 ^ 32)) (sym (power_bits n.value n.small))
    ∙ ap (λ k. Gives k) (mul_bits w32 a (pos (2 ^ n.value))) ∙ ap (λ z. Gives (pattern 32 (a *ℤ z))) (sym (power_is b n.value n.is))

left_piece : (m : Module) (v : View) (c : Config) (s : ℕ) (to : IntTy) (a b : ℤ) (os locals : List Num) → IsNarrow to → IsAmount b → Leads m v c (Binary ty.I32 Shl ∷ fitted to) s (words a b os) (word (wrapped to (a *ℤ power b)) os) locals 13
left_piece m v c s to a b os locals ht n =
    let z = a *ℤ power b in
    leads s (few-moves 13 (lit≤ tt) (andthen (moves (steps-word m v c Shl (pattern 32 a) (pattern 32 b) (pattern 32 z) os locals (shl_bits a b n))) (fits m v c to z os locals ht)))

pub left-ends : (m : Module) (v : View) (c : Config) (s : ℕ) (left right to : IntTy) (a b : ℤ) (os : List Num) (rest : List Instr) → IsNarrow left → IsNarrow right → IsNarrow to → IsIn right b → HasScratch s c.frame.locals → HasPanicState c.world.store → EndsOn m v c s left right to a b os (left_code right to s) rest (shifted to b (kept to (a *ℤ power b)))
left-ends m v c s left right (Sized signed count) a b os rest hl hr ht ir scratch state =
    let to = Sized signed count in
    shift_for (in_width count b) m v c s left right to a b (wrapped to (a *ℤ power b)) os (Binary ty.I32 Shl ∷ fitted to) rest count hl hr ht ht ir scratch state refl
    (λ locals n. left_piece m v c s to a b os locals ht n)
left-ends m v c s left right Comptime a b os rest hl hr ht ir scratch state = absurd ht

-- ---- to the right

word_of_signed : (z : ℤ) → FitsSigned w32 z → cast_unsigned w32 z ≡ pattern 32 z
word_of_signed (pos n) h = omega (arith, h.sfits)
word_of_signed (negsuc n) h = omega (arith, h.sfits)

shift_fits : (a : ℤ) (p : ℕ) → FitsSigned w32 a → FitsSigned w32 (shr_z a p)
shift_fits (pos n) p h = let less = div-le_self n p in record { sfits = omega (arith, less, h.sfits) }
shift_fits (negsuc n) p h = let less = div-le_self n p in record { sfits = omega (arith, less, h.sfits) }

shr_signed : (a b : ℤ) → FitsSigned w32 a → IsAmount b → binary_of ShrS w32 (pattern 32 a) (pattern 32 b) ≡ Gives (pattern 32 (floored a (power b)))
shr_signed a b h n =
    let p = 2 ^ n.value in
    ap (λ k. Gives (cast_unsigned w32 (int_shr (cast_signed w32 (pattern 32 a)) k))) (low_amount b n) ∙ ap (λ x. Gives (cast_unsigned w32 (int_shr x n.value))) (read w32 a h)
    ∙ ap (λ k. Gives k) (word_of_signed (int_shr a n.value) (shift_fits a p h)) ∙ ap (λ z. Gives (pattern 32 z)) (floor_shift a p ∙ ap (floored a) (sym (power_is b n.value n.is)))

shr_unsigned : (a b : ℤ) → IsNatural a → IsAmount b → binary_of ShrU w32 (pattern 32 a) (pattern 32 b) ≡ Gives (pattern 32 (floored a (power b)))
shr_unsigned a b na n =
    let p = 2 ^ n.value in
    let x = na.value in
    let less = div-le_self x p in
    ap (λ k. Gives (pattern 32 a / 2 ^ k)) (low_amount b n) ∙ ap (λ k. Gives (k / p)) (natural_bits a na)
    ∙ ap (λ k. Gives k) (sym (mod-eq_of_lt (omega (arith, less, na.small))))
    ∙ ap (λ z. Gives (pattern 32 (floored z (pos p)))) (sym na.is) ∙ ap (λ z. Gives (pattern 32 (floored a z))) (sym (power_is b n.value n.is))

pub shr_bits : (left : IntTy) (a b : ℤ) → IsNarrow left → IsIn left a → IsAmount b → binary_of (right_operator left) w32 (pattern 32 a) (pattern 32 b) ≡ Gives (pattern 32 (floored a (power b)))
shr_bits (Sized true count) a b h i n = shr_signed a b (fits_word (Sized true count) a h i refl) n
shr_bits (Sized false count) a b h i n = shr_unsigned a b (natural (Sized false count) a h i refl) n
shr_bits Comptime a b h i n = absurd h

pub right-ends : (m : Module) (v : View) (c : Config) (s : ℕ) (left right to : IntTy) (a b : ℤ) (os : List Num) (rest : List Instr) → IsNarrow left → IsNarrow right → IsNarrow to → IsIn left a → IsIn right b → HasScratch s c.frame.locals → HasPanicState c.world.store → EndsOn m v c s left right to a b os (right_code left right to s) rest (shifted to b (Ok (floored a (power b))))
right-ends m v c s left right (Sized signed count) a b os rest hl hr ht il ir scratch state =
    let to = Sized signed count in
    let z = floored a (power b) in
    shift_for (in_width count b) m v c s left right to a b z os (Binary ty.I32 (right_operator left) ∷ []) rest count hl hr ht ht ir scratch state refl
    (λ locals n. leads s (few-moves 13 (lit≤ tt) (moves (steps-word m v c (right_operator left) (pattern 32 a) (pattern 32 b) (pattern 32 z) os locals (shr_bits left a b hl il n)))))
right-ends m v c s left right Comptime a b os rest hl hr ht il ir scratch state = absurd ht
