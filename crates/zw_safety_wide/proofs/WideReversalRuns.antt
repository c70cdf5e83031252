-- What the code of `@byteSwap` and `@bitReverse` does when it runs where a type has more than 32 bits.
use Rattle.std.proofs.Common.{◌≡◌, ℕ, ℤ, pos, ◌+◌, ◌-◌, ◌*◌, ◌/◌, ◌%◌, ◌^◌, ◌<◌, ◌≤◌, Bool, true, false, List, [], ◌∷◌, ◌++◌, Ok, refl, sym, ap, ◌∙◌, subst, arith, lit≤, lit<}
use Rattle.std.specs.Prelude.{nat_eq, nat_lt, bit_and, slice_set, if◌then◌else◌}
use Rattle.std.proofs.lemmas.Bool.{ltb-false}
use Rattle.std.proofs.Math.Nat.{mod-eq_of_lt, div-one}
use Rattle.zw_num.proofs.ReversalLaws.{below}
use Rattle.zw_num.specs.Arithmetic.{IsIn, pattern, reversed, width, wrapped}
use Rattle.zw_num.specs.declared.int_ty.IntTy.{IntTy}
use Rattle.zw_num.specs.declared.int_ty.IntTy.TheVariants.{Sized}
use Rattle.zw_safety_narrow.proofs.CastRuns.{EndsOnOne}
use Rattle.zw_safety_narrow.proofs.DigitSwaps.{evens, swapped, swapped_below, by_pairs, one_digit, mask_of, masked_digits, swap_sum, bytes_power, dropped}
use Rattle.zw_safety_narrow.proofs.Going.{moves-tee}
use Rattle.zw_safety_narrow.proofs.Locals.{slice_get-set_same, keeps-same, keeps-set}
use Rattle.zw_safety_narrow.proofs.OrderRuns.{keeps-then, has-scratch}
use Rattle.zw_safety_narrow.proofs.Pieces.{having, steps-get, steps-long_const, steps-none, steps-then, steps-long}
use Rattle.zw_safety_narrow.proofs.ReversalRuns.{value_of_bits, zero_stays, bytes_below}
use Rattle.zw_safety_narrow.proofs.Words.{lower_bits}
use Rattle.zw_safety_narrow.specs.CastCode.{holds}
use Rattle.zw_safety_narrow.specs.Checked.{HasScratch}
use Rattle.zw_safety_narrow.specs.Operators.{IsStored, filled}
use Rattle.zw_safety_narrow.specs.ReversalCode.{every_other}
use Rattle.zw_safety_wide.proofs.WideCastRuns.{long, stored_width}
use Rattle.zw_safety_wide.specs.WideReversalCode.{long_neighbours_swapped, long_bytes_turned, long_bits_turned, long_lowered, with_bits, wide_byte_swap_code, wide_bit_reverse_code}
use Rattle.zw_safety_words.proofs.WideBitRuns.{Brings, leaves_one, truncated_for}
use Rattle.zw_safety_words.proofs.WideOrderRuns.{moved}
use Rattle.zw_safety_words.proofs.WideRuns.{Reaches, reaches, reaches-then, reaches-within, steps-settled, steps-widened}
use Rattle.zw_safety_words.proofs.WideWords.{power_long}
use Rattle.zw_safety_words.specs.WideCode.{widened, settled}
use Rattle.zw_wasm.specs.declared.module.BinaryOperator.TheVariants.{Add, And, Shl, ShrU}
use Rattle.zw_wasm.specs.declared.module.Instr.{Instr}
use Rattle.zw_wasm.specs.declared.module.Instr.TheVariants.{I64Const, Binary}
use Rattle.zw_wasm.specs.declared.module.Module.{Module}
use Rattle.zw_wasm.specs.declared.module.ValType.TheVariants as ty
use Rattle.zw_wasm.specs.declared.num.Num.{Num}
use Rattle.zw_wasm.specs.declared.num.Num.TheVariants.{I64}
use Rattle.zw_wasm.specs.Numerics.{Gives}
use Rattle.zw_wasm.specs.Reduction.{Config}
use Rattle.zw_wasm.specs.Signature.{View}
use Rattle.zw_wasm.specs.Structure.{long_of}

-- ---- eight bytes and 64 bits

abbrev long_turned_bytes : ℕ → ℕ
long_turned_bytes x = swapped (2 ^ 32) 1 (swapped (2 ^ 16) 2 (swapped (2 ^ 8) 4 x))

abbrev long_turned_bits : ℕ → ℕ
long_turned_bits x = long_turned_bytes (swapped (2 ^ 4) 8 (swapped (2 ^ 2) 16 (swapped (2 ^ 1) 32 x)))

long_bytes_turn : (x : ℕ) → reversed 256 8 x ≡ long_turned_bytes x
long_bytes_turn x =
    let y = swapped 256 4 x in
    let z = swapped 65536 2 y in
    by_pairs 256 4 x (omega arith) ∙ by_pairs 65536 2 y (omega arith) ∙ by_pairs 4294967296 1 z (omega arith)
    ∙ one_digit (4294967296 * 4294967296) (swapped 4294967296 1 z) (swapped_below 4294967296 1 z (omega arith))

long_bits_turn : (x : ℕ) → reversed 2 64 x ≡ long_turned_bits x
long_bits_turn x =
    let y = swapped 2 32 x in
    let z = swapped 4 16 y in
    by_pairs 2 32 x (omega arith) ∙ by_pairs 4 16 y (omega arith) ∙ by_pairs 16 8 z (omega arith) ∙ long_bytes_turn (swapped 16 8 z)

-- ---- neighbours change places

-- the constants of a swap of n pairs of digits of k bits
record IsSwap (k n : ℕ) : Type 0 where
  mask : long_of (pos (every_other 64 k)) ≡ mask_of k n
  amount : long_of (pos k) % 64 ≡ k
  whole : (2 ^ k * 2 ^ k) ^ n ≡ 2 ^ 64

swap_1 : IsSwap 1 32
unfolding mask_of
swap_1 = record { mask = refl; amount = refl; whole = refl }

swap_2 : IsSwap 2 16
unfolding mask_of
swap_2 = record { mask = refl; amount = refl; whole = refl }

swap_4 : IsSwap 4 8
unfolding mask_of
swap_4 = record { mask = refl; amount = refl; whole = refl }

swap_8 : IsSwap 8 4
unfolding mask_of
swap_8 = record { mask = refl; amount = refl; whole = refl }

swap_16 : IsSwap 16 2
unfolding mask_of
swap_16 = record { mask = refl; amount = refl; whole = refl }

swap_32 : IsSwap 32 1
unfolding mask_of
swap_32 = record { mask = refl; amount = refl; whole = refl }

brings-behind : {m : Module} {v : View} {c : Config} {is js : List Instr} {s i j : ℕ} {first second third locals : List Num} (a : Brings m v c is s first second locals i) → Brings m v c js s second third a.after j → Brings m v c (is ++ js) s first third locals (i + j)
brings-behind {m} {v} {c} {is} {js} {s} {i} {j} {first} {second} {third} {locals} a b =
    record { after = b.after; keeps = keeps-then s locals a.after b.after a.keeps b.keeps; runs = reaches-then a.runs b.runs }

swaps : (m : Module) (v : View) (c : Config) (k n s x : ℕ) (os locals : List Num) → IsSwap k n → HasScratch s locals → Brings m v c (long_neighbours_swapped k s) s (I64 x ∷ os) (I64 (swapped (2 ^ k) n x) ∷ os) locals 11
swaps m v c k n s x os locals swap scratch =
    let base = 2 ^ k in
    let mask = long_of (pos (every_other 64 k)) in
    let amount = long_of (pos k) in
    let low = evens base n x in
    let up = (low * base) % 2 ^ 64 in
    let high = evens base n (x / base) in
    let after = slice_set locals (s + 4) (I64 x) in
    let there = slice_get-set_same locals (s + 4) (I64 x) (omega (arith, scratch)) in
    let first = ap (λ y. Gives (bit_and x y)) swap.mask ∙ ap (λ y. Gives y) (masked_digits k n x) in
    let second = ap (λ y. Gives (bit_and (x / base) y)) swap.mask ∙ ap (λ y. Gives y) (masked_digits k n (x / base)) in
    let sum = ap (λ y. Gives y) (swap_sum k n x (2 ^ 64) swap.whole) in
    let lower = steps-then (steps-long_const m v c (pos (every_other 64 k)) (I64 x ∷ os) after)
    (steps-then (steps-long m v c And x mask low os after first)
    (steps-then (steps-long_const m v c (pos k) (I64 low ∷ os) after)
    (steps-long m v c Shl low amount up os after (ap (λ y. Gives ((low * 2 ^ y) % 2 ^ 64)) swap.amount)))) in
    let upper = steps-then (steps-get m v c (s + 4) (I64 x) (I64 up ∷ os) after there)
    (steps-then (steps-long_const m v c (pos k) (I64 x ∷ I64 up ∷ os) after)
    (steps-then (steps-long m v c ShrU x amount (x / base) (I64 up ∷ os) after (ap (λ y. Gives (x / 2 ^ y)) swap.amount))
    (steps-then (steps-long_const m v c (pos (every_other 64 k)) (I64 (x / base) ∷ I64 up ∷ os) after)
    (steps-then (steps-long m v c And (x / base) mask high (I64 up ∷ os) after second)
    (steps-long m v c Add up high (swapped base n x) os after sum))))) in
    record {
      after = after;
      keeps = keeps-set s 4 locals locals (I64 x) (lit< tt) (keeps-same s locals);
      runs = reaches-then (moved (moves-tee m v c (s + 4) (I64 x) os locals (omega (arith, scratch)))) (reaches (steps-then lower upper));
    }

turns_bytes : (m : Module) (v : View) (c : Config) (s x : ℕ) (os locals : List Num) → HasScratch s locals → Brings m v c (long_bytes_turned s) s (I64 x ∷ os) (I64 (long_turned_bytes x) ∷ os) locals 33
turns_bytes m v c s x os locals scratch =
    let y = swapped (2 ^ 8) 4 x in
    let first = swaps m v c 8 4 s x os locals swap_8 scratch in
    let one = has-scratch s locals first.after first.keeps scratch in
    let second = swaps m v c 16 2 s y os first.after swap_16 one in
    brings-behind first (brings-behind second
    (swaps m v c 32 1 s (swapped (2 ^ 16) 2 y) os second.after swap_32 (has-scratch s first.after second.after second.keeps one)))

turns_bits : (m : Module) (v : View) (c : Config) (s x : ℕ) (os locals : List Num) → HasScratch s locals → Brings m v c (long_bits_turned s) s (I64 x ∷ os) (I64 (long_turned_bits x) ∷ os) locals 66
turns_bits m v c s x os locals scratch =
    let y = swapped (2 ^ 1) 32 x in
    let z = swapped (2 ^ 2) 16 y in
    let first = swaps m v c 1 32 s x os locals swap_1 scratch in
    let one = has-scratch s locals first.after first.keeps scratch in
    let second = swaps m v c 2 16 s y os first.after swap_2 one in
    let two = has-scratch s first.after second.after second.keeps one in
    let third = swaps m v c 4 8 s z os second.after swap_4 two in
    brings-behind first (brings-behind second (brings-behind third
    (turns_bytes m v c s (swapped (2 ^ 4) 8 z) os third.after (has-scratch s second.after third.after third.keeps two))))

-- ---- the bits of the type

lowers : (b : Bool) (m : Module) (v : View) (c : Config) (count x : ℕ) (os locals : List Num) → nat_lt count 64 ≡ b → count ≤ 64 → 0 < count → Reaches m v c (if b then I64Const (pos (64 - count)) ∷ Binary ty.I64 ShrU ∷ [] else []) (having (I64 x ∷ os) locals) (having (I64 (x / 2 ^ (64 - count)) ∷ os) locals) 2
lowers true m v c count x os locals e h some =
    let amount : long_of (pos (64 - count)) % 64 ≡ 64 - count = omega (arith, some, h) in
    reaches (steps-then (steps-long_const m v c (pos (64 - count)) (I64 x ∷ os) locals)
    (steps-long m v c ShrU x (long_of (pos (64 - count))) (x / 2 ^ (64 - count)) os locals (ap (λ y. Gives (x / 2 ^ y)) amount)))
lowers false m v c count x os locals e h some =
    let whole : 64 ≡ count = omega (arith, h, ltb-false count 64 e) in
    subst (λ y. Reaches m v c [] (having (I64 x ∷ os) locals) (having (I64 y ∷ os) locals) 2) (sym (div-one x) ∙ ap (λ k. x / 2 ^ (64 - k)) whole)
    (reaches-within (reaches (steps-none m v c (having (I64 x ∷ os) locals))) 2 (lit≤ tt))

-- ---- the whole code

-- behind the operand in 64 bits
turned_for : (b : Bool) (m : Module) (v : View) (c : Config) (s : ℕ) (from to : IntTy) (a : ℤ) (y n : ℕ) (os locals : List Num) (turned : List Instr) → nat_eq (width from) 0 ≡ b → IsStored from → IsStored to → IsIn from a → y / 2 ^ (64 - width from) ≡ n → n < 2 ^ width from → Brings m v c turned s (long a os) (I64 y ∷ os) locals 66 →
    Brings m v c (if b then settled to else turned ++ (long_lowered from ++ with_bits (width from) to)) s (long a os) (filled to (wrapped to (pos n)) ∷ os) locals 75
turned_for true m v c s from to a y n os locals turned e hf ht i same small piece =
    let none : width from ≡ 0 = grind (arith, e) in
    let z = wrapped to (pos n) in
    record {
      after = locals;
      keeps = keeps-same s locals;
      runs = subst (λ x. Reaches m v c (settled to) (having (long x os) locals) (having (filled to z ∷ os) locals) 75) (sym (zero_stays from to a n hf ht none i small))
          (reaches-within (steps-settled m v c to z os locals) 75 (lit≤ tt));
    }
turned_for false m v c s from to a y n os locals turned e hf ht i same small piece =
    let w = width from in
    let fits = stored_width from hf in
    let some : 0 < w = grind (arith, e) in
    let few = power_long w fits in
    let bits : y / 2 ^ (64 - w) ≡ pattern 64 (pos n) = same ∙ sym (mod-eq_of_lt (omega (arith, small, few))) in
    let down = subst (λ k. Reaches m v c (long_lowered from) (having (I64 y ∷ os) piece.after) (having (I64 k ∷ os) piece.after) 2) bits (lowers (nat_lt w 64) m v c w y os piece.after refl fits some) in
    record {
      after = piece.after;
      keeps = piece.keeps;
      runs = reaches-then piece.runs (reaches-then down (truncated_for (holds to (Sized false w)) m v c (Sized false w) to (pos n) os piece.after refl ht (value_of_bits w n small)));
    }

reversal-ends : (m : Module) (v : View) (c : Config) (s : ℕ) (from to : IntTy) (a : ℤ) (y n : ℕ) (os : List Num) (turned rest : List Instr) → IsStored from → IsStored to → IsIn from a → y / 2 ^ (64 - width from) ≡ n → n < 2 ^ width from → Brings m v c turned s (long a os) (I64 y ∷ os) c.frame.locals 66 →
    EndsOnOne m v c s from to a os (widened from ++ (if nat_eq (width from) 0 then settled to else turned ++ (long_lowered from ++ with_bits (width from) to))) rest (Ok (wrapped to (pos n)))
reversal-ends m v c s from to a y n os turned rest hf ht i same small piece =
    let b = nat_eq (width from) 0 in
    let last = turned_for b m v c s from to a y n os c.frame.locals turned refl hf ht i same small piece in
    leaves_one m v c s from to a (wrapped to (pos n)) os (widened from ++ (if b then settled to else turned ++ (long_lowered from ++ with_bits (width from) to))) rest 76 (lit≤ tt)
    (record { after = last.after; keeps = last.keeps; runs = reaches-then (steps-widened m v c from a os c.frame.locals hf i) last.runs })

-- ---- `@bitReverse`

bits_value : (w : ℕ) (a : ℤ) → w ≤ 64 → long_turned_bits (pattern 64 a) / 2 ^ (64 - w) ≡ reversed 2 w (pattern w a)
bits_value w a h =
    let p = pattern 64 a in
    let d = 64 - w in
    let all : 64 ≡ w + d = omega (arith, h) in
    ap (λ y. y / 2 ^ d) (sym (long_bits_turn p) ∙ ap (λ k. reversed 2 k p) all) ∙ dropped 2 w d p w d (omega arith) refl refl ∙ ap (reversed 2 w) (lower_bits w 64 a h)

pub wide_bit_reverse-ends : (m : Module) (v : View) (c : Config) (s : ℕ) (from to : IntTy) (a : ℤ) (os : List Num) (rest : List Instr) → IsStored from → IsStored to → IsIn from a → HasScratch s c.frame.locals → EndsOnOne m v c s from to a os (wide_bit_reverse_code from to s) rest (Ok (wrapped to (pos (reversed 2 (width from) (pattern (width from) a)))))
wide_bit_reverse-ends m v c s from to a os rest hf ht i scratch =
    let w = width from in
    let p = pattern 64 a in
    reversal-ends m v c s from to a (long_turned_bits p) (reversed 2 w (pattern w a)) os (long_bits_turned s) rest hf ht i
    (bits_value w a (stored_width from hf)) (below 2 w (pattern w a) (omega arith)) (turns_bits m v c s p os c.frame.locals scratch)

-- ---- `@byteSwap`

bytes_value : (w : ℕ) (a : ℤ) → w ≤ 64 → w % 8 ≡ 0 → long_turned_bytes (pattern 64 a) / 2 ^ (64 - w) ≡ reversed 256 (w / 8) (pattern w a)
bytes_value w a h whole =
    let p = pattern 64 a in
    let n = w / 8 in
    let d = 8 - n in
    let all : 8 ≡ n + d = omega (arith, h, whole) in
    let bits : 8 * n ≡ w = omega (arith, whole) in
    let lack : 8 * d ≡ 64 - w = omega (arith, h, whole) in
    ap (λ y. y / 2 ^ (64 - w)) (sym (long_bytes_turn p) ∙ ap (λ k. reversed 256 k p) all)
    ∙ dropped 256 n d p w (64 - w) (omega arith) (bytes_power n ∙ ap (λ (k : ℕ). 2 ^ k) bits) (bytes_power d ∙ ap (λ (k : ℕ). 2 ^ k) lack)
    ∙ ap (reversed 256 n) (lower_bits w 64 a h)

pub wide_byte_swap-ends : (m : Module) (v : View) (c : Config) (s : ℕ) (from to : IntTy) (a : ℤ) (os : List Num) (rest : List Instr) → IsStored from → IsStored to → width from % 8 ≡ 0 → IsIn from a → HasScratch s c.frame.locals → EndsOnOne m v c s from to a os (wide_byte_swap_code from to s) rest (Ok (wrapped to (pos (reversed 256 (width from / 8) (pattern (width from) a)))))
wide_byte_swap-ends m v c s from to a os rest hf ht whole i scratch =
    let w = width from in
    let p = pattern 64 a in
    let piece = turns_bytes m v c s p os c.frame.locals scratch in
    reversal-ends m v c s from to a (long_turned_bytes p) (reversed 256 (w / 8) (pattern w a)) os (long_bytes_turned s) rest hf ht i
    (bytes_value w a (stored_width from hf) whole) (bytes_below w (pattern w a) whole)
    (record { after = piece.after; keeps = piece.keeps; runs = reaches-within piece.runs 66 (lit≤ tt) })
