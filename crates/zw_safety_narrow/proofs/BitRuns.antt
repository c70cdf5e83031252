-- Operators that work on the bits of both operands.
use Rattle.std.proofs.Common.{◌≡◌, ℕ, ◌+◌, ◌-◌, ◌%◌, ◌^◌, ◌<◌, min, max, ℤ, pos, negsuc, List, refl, sym, ap, ◌∙◌, arith, lit≤}
use Rattle.std.specs.Prelude.{bit_and, bit_or, bit_xor, Ok}
use Rattle.std.proofs.lemmas.Nat.{pow_pos, and_mask, or_lt, xor_lt, and_le_l}
use Rattle.std.proofs.lemmas.Nat.Bits.{bit_at_and, bit_at_or, bit_at_xor, bit_at_ones, bit_at_not, bit_at-lt, same_from_bits_below}
use Rattle.std.specs.Int.{Width, w32, bit_at}
use Rattle.zw_num.proofs.BitLaws.{both, either, just_one}
use Rattle.zw_num.proofs.WrappedLemmas.{pattern_below}
use Rattle.zw_num.specs.Arithmetic.{pattern, bit_of, bits_and, bits_or, bits_xor}
use Rattle.zw_num.specs.declared.int_ty.IntTy.{IntTy}
use Rattle.zw_safety_narrow.proofs.NarrowRuns.{EndsOn}
use Rattle.zw_safety_narrow.proofs.OrderRuns.{leads, ends_with}
use Rattle.zw_safety_narrow.proofs.Pieces.{steps-word}
use Rattle.zw_safety_narrow.specs.WordCode.{word_code}
use Rattle.zw_safety_narrow.specs.Operators.{IsNarrow}
use Rattle.zw_wasm.specs.declared.module.BinaryOperator.{BinaryOperator}
use Rattle.zw_wasm.specs.declared.module.Instr.{Instr}
use Rattle.zw_wasm.specs.declared.module.Module.{Module}
use Rattle.zw_wasm.specs.declared.num.Num.{Num}
use Rattle.zw_wasm.specs.Numerics.{Gives, binary_of}
use Rattle.zw_wasm.specs.Reduction.{Config}
use Rattle.zw_wasm.specs.Signature.{View}
use mir.Val.{bits}

-- the low bits of a number are its bits
low_below : (w : Width) (n : ℕ) → n % 2 ^ bits w < 2 ^ bits w
low_below w n = let some = pow_pos (bits w) in omega arith

low_bit : (w : Width) (n i : ℕ) → i < bits w → bit_at (n % 2 ^ bits w) i ≡ bit_at n i
low_bit w n i h =
    let below = bit_at-lt n i in
    let ones = bit_at_ones (bits w) i h in
    ap (λ k. bit_at k i) (sym (and_mask n (bits w))) ∙ bit_at_and n (2 ^ bits w - 1) i ∙ omega (arith, below, ones)

pub pattern_bit : (w : Width) (z : ℤ) (i : ℕ) → i < bits w → bit_at (pattern (bits w) z) i ≡ bit_of z i
pattern_bit w (pos n) i h = low_bit w n i h
pattern_bit w (negsuc n) i h = bit_at_not w (n % 2 ^ bits w) i (low_below w n) h ∙ ap (λ k. 1 - k) (low_bit w n i h)

pub and_bits : (w : Width) (a b : ℤ) → bit_and (pattern (bits w) a) (pattern (bits w) b) ≡ pattern (bits w) (bits_and a b)
and_bits w a b =
    let p = pattern (bits w) a in
    let q = pattern (bits w) b in
    same_from_bits_below (bits w) (bit_and p q) (pattern (bits w) (bits_and a b)) (omega (arith, and_le_l p q, pattern_below (bits w) a)) (pattern_below (bits w) (bits_and a b))
    (λ i h. bit_at_and p q i ∙ ap (λ k. min k (bit_at q i)) (pattern_bit w a i h) ∙ ap (λ k. min (bit_of a i) k) (pattern_bit w b i h) ∙ sym (both a b i) ∙ sym (pattern_bit w (bits_and a b) i h))

pub or_bits : (w : Width) (a b : ℤ) → bit_or (pattern (bits w) a) (pattern (bits w) b) ≡ pattern (bits w) (bits_or a b)
or_bits w a b =
    let p = pattern (bits w) a in
    let q = pattern (bits w) b in
    same_from_bits_below (bits w) (bit_or p q) (pattern (bits w) (bits_or a b)) (or_lt (bits w) p q (pattern_below (bits w) a) (pattern_below (bits w) b)) (pattern_below (bits w) (bits_or a b))
    (λ i h. bit_at_or p q i ∙ ap (λ k. max k (bit_at q i)) (pattern_bit w a i h) ∙ ap (λ k. max (bit_of a i) k) (pattern_bit w b i h) ∙ sym (either a b i) ∙ sym (pattern_bit w (bits_or a b) i h))

pub xor_bits : (w : Width) (a b : ℤ) → bit_xor (pattern (bits w) a) (pattern (bits w) b) ≡ pattern (bits w) (bits_xor a b)
xor_bits w a b =
    let p = pattern (bits w) a in
    let q = pattern (bits w) b in
    same_from_bits_below (bits w) (bit_xor p q) (pattern (bits w) (bits_xor a b)) (xor_lt (bits w) p q (pattern_below (bits w) a) (pattern_below (bits w) b)) (pattern_below (bits w) (bits_xor a b))
    (λ i h. bit_at_xor p q i ∙ ap (λ k. (k + bit_at q i) % 2) (pattern_bit w a i h) ∙ ap (λ k. (bit_of a i + k) % 2) (pattern_bit w b i h) ∙ sym (just_one a b i) ∙ sym (pattern_bit w (bits_xor a b) i h))

pub and_pattern : (a b : ℤ) → bit_and (pattern 32 a) (pattern 32 b) ≡ pattern 32 (bits_and a b)
and_pattern a b = and_bits w32 a b

pub or_pattern : (a b : ℤ) → bit_or (pattern 32 a) (pattern 32 b) ≡ pattern 32 (bits_or a b)
or_pattern a b = or_bits w32 a b

pub xor_pattern : (a b : ℤ) → bit_xor (pattern 32 a) (pattern 32 b) ≡ pattern 32 (bits_xor a b)
xor_pattern a b = xor_bits w32 a b

pub word-ends : (m : Module) (v : View) (c : Config) (o : BinaryOperator) (s : ℕ) (left right to : IntTy) (a b z : ℤ) (os : List Num) (rest : List Instr) → IsNarrow left → IsNarrow right → IsNarrow to → binary_of o w32 (pattern 32 a) (pattern 32 b) ≡ Gives (pattern 32 z) → EndsOn m v c s left right to a b os (word_code o) rest (Ok z)
word-ends m v c o s left right to a b z os rest hl hr ht e =
    ends_with m v c s left right to a b z os (word_code o) rest (pattern 32 z) 1 hl hr ht (lit≤ tt) refl
    (leads s (record { count = 1; few = lit≤ tt; steps = steps-word m v c o (pattern 32 a) (pattern 32 b) (pattern 32 z) os c.frame.locals e }))
