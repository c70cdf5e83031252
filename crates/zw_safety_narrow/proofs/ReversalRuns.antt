-- What the code of `@byteSwap` and `@bitReverse` does when it runs.
use Rattle.std.proofs.Common.{◌≡◌, ℕ, ℤ, pos, ◌+◌, ◌-◌, ◌*◌, ◌/◌, ◌%◌, ◌^◌, ◌<◌, ◌≤◌, Bool, true, false, List, [], ◌∷◌, ◌++◌, Ok, refl, sym, ap, ◌∙◌, subst, arith, lit≤}
use Rattle.std.specs.Prelude.{nat_eq, nat_lt, bit_and, slice_set, if◌then◌else◌}
use Rattle.std.proofs.lemmas.Bool.{ltb-false}
use Rattle.std.proofs.lemmas.Int.{ints}
use Rattle.std.proofs.lemmas.Nat.{pow_pos}
use Rattle.std.proofs.Math.Nat.{mod-eq_of_lt, div-one}
use Rattle.zw_num.proofs.ReversalLaws.{below}
use Rattle.zw_num.proofs.WrappedLemmas.{wrapped_same}
use Rattle.zw_num.specs.Arithmetic.{IsIn, pattern, reversed, width, wrapped}
use Rattle.zw_num.specs.declared.int_ty.IntTy.{IntTy}
use Rattle.zw_num.specs.declared.int_ty.IntTy.TheVariants.{Sized, Comptime}
use Rattle.zw_safety_narrow.proofs.CastRuns.{EndsOnOne, word, one_ends_with, few-moves, fits, same_value, stays}
use Rattle.zw_safety_narrow.proofs.CountRuns.{narrow_width}
use Rattle.zw_safety_narrow.proofs.DigitSwaps.{evens, swapped, mask_of, masked_digits, swap_sum, turned_bytes, turned_bits, bytes_turn, bits_turn, bytes_power, dropped}
use Rattle.zw_safety_narrow.proofs.Going.{Moves, moves, andthen, moves-tee}
use Rattle.zw_safety_narrow.proofs.Locals.{slice_get-set_same, keeps-same}
use Rattle.zw_safety_narrow.proofs.OrderRuns.{Leads, leads-then, keeps-first, has-scratch}
use Rattle.zw_safety_narrow.proofs.Pieces.{having, steps-get, steps-const, steps-none, steps-word}
use Rattle.zw_safety_narrow.proofs.Words.{lower_bits, power_word}
use Rattle.zw_safety_narrow.specs.CastCode.{holds, truncated_code}
use Rattle.zw_safety_narrow.specs.Checked.{HasScratch}
use Rattle.zw_safety_narrow.specs.NarrowCode.{fitted}
use Rattle.zw_safety_narrow.specs.Operators.{IsNarrow, IsStored}
use Rattle.zw_safety_narrow.specs.ReversalCode.{every_other, neighbours_swapped, bytes_turned, bits_turned, lowered, byte_swap_code, bit_reverse_code}
use Rattle.zw_wasm.specs.declared.module.BinaryOperator.TheVariants.{Add, And, Shl, ShrU}
use Rattle.zw_wasm.specs.declared.module.Instr.{Instr}
use Rattle.zw_wasm.specs.declared.module.Instr.TheVariants.{I32Const, Binary}
use Rattle.zw_wasm.specs.declared.module.Module.{Module}
use Rattle.zw_wasm.specs.declared.module.ValType.TheVariants as ty
use Rattle.zw_wasm.specs.declared.num.Num.{Num}
use Rattle.zw_wasm.specs.declared.num.Num.TheVariants.{I32}
use Rattle.zw_wasm.specs.Numerics.{Gives}
use Rattle.zw_wasm.specs.Reduction.{Config}
use Rattle.zw_wasm.specs.Signature.{View}
use Rattle.zw_wasm.specs.Structure.{word_of}

-- ---- neighbours change places

-- the constants of a swap of n pairs of digits of k bits
record IsSwap (k n : ℕ) : Type 0 where
  mask : word_of (pos (every_other 32 k)) ≡ mask_of k n
  amount : word_of (pos k) % 32 ≡ k
  whole : (2 ^ k * 2 ^ k) ^ n ≡ 2 ^ 32

swap_1 : IsSwap 1 16
unfolding mask_of
swap_1 = record { mask = refl; amount = refl; whole = refl }

swap_2 : IsSwap 2 8
unfolding mask_of
swap_2 = record { mask = refl; amount = refl; whole = refl }

swap_4 : IsSwap 4 4
unfolding mask_of
swap_4 = record { mask = refl; amount = refl; whole = refl }

swap_8 : IsSwap 8 2
unfolding mask_of
swap_8 = record { mask = refl; amount = refl; whole = refl }

swap_16 : IsSwap 16 1
unfolding mask_of
swap_16 = record { mask = refl; amount = refl; whole = refl }

swaps : (m : Module) (v : View) (c : Config) (k n s x : ℕ) (os locals : List Num) → IsSwap k n → HasScratch s locals → Leads m v c (neighbours_swapped k s) s (I32 x ∷ os) (I32 (swapped (2 ^ k) n x) ∷ os) locals 11
swaps m v c k n s x os locals swap scratch =
    let base = 2 ^ k in
    let mask = word_of (pos (every_other 32 k)) in
    let amount = word_of (pos k) in
    let low = evens base n x in
    let up = (low * base) % 2 ^ 32 in
    let high = evens base n (x / base) in
    let after = slice_set locals s (I32 x) in
    let there = slice_get-set_same locals s (I32 x) (omega (arith, scratch)) in
    let first = ap (λ y. Gives (bit_and x y)) swap.mask ∙ ap (λ y. Gives y) (masked_digits k n x) in
    let second = ap (λ y. Gives (bit_and (x / base) y)) swap.mask ∙ ap (λ y. Gives y) (masked_digits k n (x / base)) in
    let sum = ap (λ y. Gives y) (swap_sum k n x (2 ^ 32) swap.whole) in
    let lower = andthen (moves (steps-const m v c (pos (every_other 32 k)) (I32 x ∷ os) after))
    (andthen (moves (steps-word m v c And x mask low os after first))
    (andthen (moves (steps-const m v c (pos k) (I32 low ∷ os) after))
    (moves (steps-word m v c Shl low amount up os after (ap (λ y. Gives ((low * 2 ^ y) % 2 ^ 32)) swap.amount))))) in
    let upper = andthen (moves (steps-get m v c s (I32 x) (I32 up ∷ os) after there))
    (andthen (moves (steps-const m v c (pos k) (I32 x ∷ I32 up ∷ os) after))
    (andthen (moves (steps-word m v c ShrU x amount (x / base) (I32 up ∷ os) after (ap (λ y. Gives (x / 2 ^ y)) swap.amount)))
    (andthen (moves (steps-const m v c (pos (every_other 32 k)) (I32 (x / base) ∷ I32 up ∷ os) after))
    (andthen (moves (steps-word m v c And (x / base) mask high (I32 up ∷ os) after second))
    (moves (steps-word m v c Add up high (swapped base n x) os after sum)))))) in
    record {
      after = after;
      keeps = keeps-first s locals locals (I32 x) (keeps-same s locals);
      runs = andthen (moves-tee m v c s (I32 x) os locals (omega (arith, scratch))) (andthen lower upper);
    }

turns_bytes : (m : Module) (v : View) (c : Config) (s x : ℕ) (os locals : List Num) → HasScratch s locals → Leads m v c (bytes_turned s) s (I32 x ∷ os) (I32 (turned_bytes x) ∷ os) locals 22
turns_bytes m v c s x os locals scratch =
    let first = swaps m v c 8 2 s x os locals swap_8 scratch in
    leads-then first (swaps m v c 16 1 s (swapped (2 ^ 8) 2 x) os first.after swap_16 (has-scratch s locals first.after first.keeps scratch))

turns_bits : (m : Module) (v : View) (c : Config) (s x : ℕ) (os locals : List Num) → HasScratch s locals → Leads m v c (bits_turned s) s (I32 x ∷ os) (I32 (turned_bits x) ∷ os) locals 55
turns_bits m v c s x os locals scratch =
    let y = swapped (2 ^ 1) 16 x in
    let z = swapped (2 ^ 2) 8 y in
    let first = swaps m v c 1 16 s x os locals swap_1 scratch in
    let one = has-scratch s locals first.after first.keeps scratch in
    let second = swaps m v c 2 8 s y os first.after swap_2 one in
    let two = has-scratch s first.after second.after second.keeps one in
    let third = swaps m v c 4 4 s z os second.after swap_4 two in
    leads-then first (leads-then second (leads-then third
    (turns_bytes m v c s (swapped (2 ^ 4) 4 z) os third.after (has-scratch s second.after third.after third.keeps two))))

-- ---- the bits of the type, and its value

lowers : (b : Bool) (m : Module) (v : View) (c : Config) (count x : ℕ) (os locals : List Num) → nat_lt count 32 ≡ b → count ≤ 32 → 0 < count → Moves m v c (if b then I32Const (pos (32 - count)) ∷ Binary ty.I32 ShrU ∷ [] else []) (having (I32 x ∷ os) locals) (having (I32 (x / 2 ^ (32 - count)) ∷ os) locals) 2
lowers true m v c count x os locals e h some =
    let amount : word_of (pos (32 - count)) % 32 ≡ 32 - count = omega (arith, some, h) in
    andthen (moves (steps-const m v c (pos (32 - count)) (I32 x ∷ os) locals))
    (moves (steps-word m v c ShrU x (word_of (pos (32 - count))) (x / 2 ^ (32 - count)) os locals (ap (λ y. Gives (x / 2 ^ y)) amount)))
lowers false m v c count x os locals e h some =
    let whole : 32 ≡ count = omega (arith, h, ltb-false count 32 e) in
    subst (λ y. Moves m v c [] (having (I32 x ∷ os) locals) (having (I32 y ∷ os) locals) 2) (sym (div-one x) ∙ ap (λ k. x / 2 ^ (32 - k)) whole)
    (few-moves 2 (lit≤ tt) (moves (steps-none m v c (having (I32 x ∷ os) locals))))

fits_unless : (b : Bool) (m : Module) (v : View) (c : Config) (from to : IntTy) (z : ℤ) (os locals : List Num) → holds to from ≡ b → IsNarrow to → IsIn from z → Moves m v c (if b then [] else fitted to) (having (word z os) locals) (having (word (wrapped to z) os) locals) 6
fits_unless true m v c from to z os locals e h i =
    subst (λ y. Moves m v c [] (having (word z os) locals) (having (word y os) locals) 6) (sym (same_value to from z h e i))
    (few-moves 6 (lit≤ tt) (moves (steps-none m v c (having (word z os) locals))))
fits_unless false m v c from to z os locals e h i = fits m v c to z os locals h

pub value_of_bits : (count n : ℕ) → n < 2 ^ count → IsIn (Sized false count) (pos n)
value_of_bits count n h = record { at_least = omega (arith, ints); at_most = omega (arith, ints) }

-- ---- without bits

no_bits : (signed : Bool) (count : ℕ) (a : ℤ) → count ≡ 0 → IsIn (Sized signed count) a → a ≡ pos 0
no_bits false count a e i = let one = ap (λ (k : ℕ). 2 ^ k) e in omega (arith, ints, i.at_least, i.at_most, one)
no_bits true count a e i = let one = ap (λ (k : ℕ). 2 ^ k) e in omega (arith, ints, i.at_least, i.at_most, one)

zero_in : (signed : Bool) (count : ℕ) → IsIn (Sized signed count) (pos 0)
zero_in false count = let some = pow_pos count in record { at_least = omega (arith, ints); at_most = omega (arith, ints) }
zero_in true count = let some = pow_pos count in record { at_least = omega (arith, ints); at_most = omega (arith, ints) }

-- a value without bits is 0, and so is what comes of it
pub zero_stays : (from to : IntTy) (a : ℤ) (n : ℕ) → IsStored from → IsStored to → width from ≡ 0 → IsIn from a → n < 2 ^ width from → a ≡ wrapped to (pos n)
zero_stays (Sized signed count) (Sized to_signed to) a n hf ht e i h =
    let none : 0 ≡ n = omega (arith, h, ap (λ (k : ℕ). 2 ^ k) e) in
    no_bits signed count a e i ∙ sym (wrapped_same to_signed to (pos 0) (zero_in to_signed to)) ∙ ap (λ k. wrapped (Sized to_signed to) (pos k)) none
zero_stays Comptime to a n hf ht e i h = absurd hf
zero_stays (Sized signed count) Comptime a n hf ht e i h = absurd ht

stored : (t : IntTy) → IsNarrow t → IsStored t
stored (Sized signed count) h = omega (arith, h)
stored Comptime h = absurd h

-- ---- the whole code

reversal_for : (b : Bool) (m : Module) (v : View) (c : Config) (s : ℕ) (from to : IntTy) (a : ℤ) (y n : ℕ) (os : List Num) (turned rest : List Instr) → nat_eq (width from) 0 ≡ b → IsNarrow from → IsNarrow to → IsIn from a → y / 2 ^ (32 - width from) ≡ n → n < 2 ^ width from → Leads m v c turned s (word a os) (I32 y ∷ os) c.frame.locals 55 →
    EndsOnOne m v c s from to a os (if b then [] else turned ++ (lowered from ++ truncated_code (Sized false (width from)) to)) rest (Ok (wrapped to (pos n)))
reversal_for true m v c s from to a y n os turned rest e hf ht i same small piece =
    let none : width from ≡ 0 = grind (arith, e) in
    stays m v c s from to a (wrapped to (pos n)) os rest hf ht (ap (pattern 32) (zero_stays from to a n (stored from hf) (stored to ht) none i small))
reversal_for false m v c s from to a y n os turned rest e hf ht i same small piece =
    let w = width from in
    let z = wrapped to (pos n) in
    let narrow = narrow_width from hf in
    let some : 0 < w = grind (arith, e) in
    let few = power_word w narrow in
    let bits : y / 2 ^ (32 - w) ≡ pattern 32 (pos n) = same ∙ sym (mod-eq_of_lt (omega (arith, small, few))) in
    let down = subst (λ k. Moves m v c (lowered from) (having (I32 y ∷ os) piece.after) (having (I32 k ∷ os) piece.after) 2) bits (lowers (nat_lt w 32) m v c w y os piece.after refl narrow some) in
    one_ends_with m v c s from to a z os (turned ++ (lowered from ++ truncated_code (Sized false w) to)) rest (pattern 32 z) 63 hf ht (lit≤ tt) refl
    (record {
      after = piece.after;
      keeps = piece.keeps;
      runs = andthen piece.runs (andthen down (fits_unless (holds to (Sized false w)) m v c (Sized false w) to (pos n) os piece.after refl ht (value_of_bits w n small)));
    })

-- ---- `@bitReverse`

bits_value : (w : ℕ) (a : ℤ) → w ≤ 32 → turned_bits (pattern 32 a) / 2 ^ (32 - w) ≡ reversed 2 w (pattern w a)
bits_value w a h =
    let p = pattern 32 a in
    let d = 32 - w in
    let all : 32 ≡ w + d = omega (arith, h) in
    ap (λ y. y / 2 ^ d) (sym (bits_turn p) ∙ ap (λ k. reversed 2 k p) all) ∙ dropped 2 w d p w d (omega arith) refl refl ∙ ap (reversed 2 w) (lower_bits w 32 a h)

pub bit_reverse-ends : (m : Module) (v : View) (c : Config) (s : ℕ) (from to : IntTy) (a : ℤ) (os : List Num) (rest : List Instr) → IsNarrow from → IsNarrow to → IsIn from a → HasScratch s c.frame.locals → EndsOnOne m v c s from to a os (bit_reverse_code from to s) rest (Ok (wrapped to (pos (reversed 2 (width from) (pattern (width from) a)))))
bit_reverse-ends m v c s from to a os rest hf ht i scratch =
    let w = width from in
    let p = pattern 32 a in
    reversal_for (nat_eq w 0) m v c s from to a (turned_bits p) (reversed 2 w (pattern w a)) os (bits_turned s) rest refl hf ht i
    (bits_value w a (narrow_width from hf)) (below 2 w (pattern w a) (omega arith)) (turns_bits m v c s p os c.frame.locals scratch)

-- ---- `@byteSwap`

bytes_value : (w : ℕ) (a : ℤ) → w ≤ 32 → w % 8 ≡ 0 → turned_bytes (pattern 32 a) / 2 ^ (32 - w) ≡ reversed 256 (w / 8) (pattern w a)
bytes_value w a h whole =
    let p = pattern 32 a in
    let n = w / 8 in
    let d = 4 - n in
    let all : 4 ≡ n + d = omega (arith, h, whole) in
    let bits : 8 * n ≡ w = omega (arith, whole) in
    let lack : 8 * d ≡ 32 - w = omega (arith, h, whole) in
    ap (λ y. y / 2 ^ (32 - w)) (sym (bytes_turn p) ∙ ap (λ k. reversed 256 k p) all)
    ∙ dropped 256 n d p w (32 - w) (omega arith) (bytes_power n ∙ ap (λ (k : ℕ). 2 ^ k) bits) (bytes_power d ∙ ap (λ (k : ℕ). 2 ^ k) lack)
    ∙ ap (reversed 256 n) (lower_bits w 32 a h)

pub bytes_below : (w x : ℕ) → w % 8 ≡ 0 → reversed 256 (w / 8) x < 2 ^ w
bytes_below w x whole =
    let bits : 8 * (w / 8) ≡ w = omega (arith, whole) in
    omega (arith, below 256 (w / 8) x (omega arith), bytes_power (w / 8) ∙ ap (λ (k : ℕ). 2 ^ k) bits)

pub byte_swap-ends : (m : Module) (v : View) (c : Config) (s : ℕ) (from to : IntTy) (a : ℤ) (os : List Num) (rest : List Instr) → IsNarrow from → IsNarrow to → width from % 8 ≡ 0 → IsIn from a → HasScratch s c.frame.locals → EndsOnOne m v c s from to a os (byte_swap_code from to s) rest (Ok (wrapped to (pos (reversed 256 (width from / 8) (pattern (width from) a)))))
byte_swap-ends m v c s from to a os rest hf ht whole i scratch =
    let w = width from in
    let p = pattern 32 a in
    let piece = turns_bytes m v c s p os c.frame.locals scratch in
    reversal_for (nat_eq w 0) m v c s from to a (turned_bytes p) (reversed 256 (w / 8) (pattern w a)) os (bytes_turned s) rest refl hf ht i
    (bytes_value w a (narrow_width from hf) whole) (bytes_below w (pattern w a) whole)
    (record { after = piece.after; keeps = piece.keeps; runs = few-moves 55 (lit≤ tt) piece.runs })
