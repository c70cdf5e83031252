-- Products in two words.
use Rattle.std.proofs.Common.{◌≡◌, ℕ, ℤ, pos, negsuc, ◌+◌, ◌-◌, ◌*◌, ◌/◌, ◌%◌, ◌^◌, ◌<◌, ◌≤◌, ◌+ℤ◌, ◌-ℤ◌, ◌*ℤ◌, neg_ℤ, ◌⊎◌, inl, inr, sym, ap, ◌∙◌, subst, arith}
use Rattle.std.specs.Prelude.{bit_and}
use Rattle.std.proofs.lemmas.Int.{ints}
use Rattle.std.proofs.lemmas.Nat.{and_mask, and_comm}
use Rattle.std.proofs.Math.Nat.{mul-le-mul}
use Rattle.std.proofs.Math.IntN.{*ℤ_comm}
use Rattle.std.specs.Int.{w64}
use borrow.Author.Differences.{up, down}
use Rattle.zw_num.proofs.WrappedLemmas.{pattern_below}
use Rattle.zw_num.specs.Arithmetic.{IsIn, pattern}
use Rattle.zw_num.specs.declared.int_ty.IntTy.{IntTy}
use Rattle.zw_safety_words.proofs.WideWords.{high, two_words, one_number, IsHeld, held}
use Rattle.zw_safety_narrow.proofs.Words.{add_bits}
use Rattle.zw_safety_narrow.specs.Operators.{IsStored}

-- ---- the high word of a product of two low words, by halves

pub half_product : (x y : ℕ) → x < 2 ^ 32 → y < 2 ^ 32 → x * y ≤ (2 ^ 32 - 1) * (2 ^ 32 - 1)
half_product x y h k = mul-le-mul {n₂ = 2 ^ 32 - 1} {m₂ = 2 ^ 32 - 1} (omega arith) (omega arith)

abbrev pub middle_word : ℕ → ℕ → ℕ
middle_word x y = (x / 2 ^ 32) * (y % 2 ^ 32) + (x % 2 ^ 32) * (y % 2 ^ 32) / 2 ^ 32

abbrev pub other_middle : ℕ → ℕ → ℕ
other_middle x y = (x % 2 ^ 32) * (y / 2 ^ 32) + middle_word x y % 2 ^ 32

-- by the four products
from_halves : (p q r s x y xy : ℕ) → xy ≡ p * 2 ^ 64 + (q + r) * 2 ^ 32 + s → (r + (q + s / 2 ^ 32) % 2 ^ 32) / 2 ^ 32 + (q + s / 2 ^ 32) / 2 ^ 32 + p ≡ xy / 2 ^ 64
from_halves p q r s x y xy e = omega (arith, e)

expanded : (a b c d : ℕ) → (a * 2 ^ 32 + b) * (c * 2 ^ 32 + d) ≡ (a * c) * 2 ^ 64 + (a * d + b * c) * 2 ^ 32 + b * d
expanded a b c d = omega arith

pub high_of_low : (x y : ℕ) → other_middle x y / 2 ^ 32 + middle_word x y / 2 ^ 32 + (x / 2 ^ 32) * (y / 2 ^ 32) ≡ (x * y) / 2 ^ 64
high_of_low x y =
    let a = x / 2 ^ 32 in
    let b = x % 2 ^ 32 in
    let c = y / 2 ^ 32 in
    let d = y % 2 ^ 32 in
    let left : x ≡ a * 2 ^ 32 + b = omega arith in
    let right : y ≡ c * 2 ^ 32 + d = omega arith in
    from_halves (a * c) (a * d) (b * c) (b * d) x y (x * y) (ap (λ n. n * y) left ∙ (ap (λ n. (a * 2 ^ 32 + b) * n) right ∙ expanded a b c d))

pub middle_fits : (x y : ℕ) → x < 2 ^ 64 → middle_word x y < 2 ^ 64
middle_fits x y h =
    let one = half_product (x / 2 ^ 32) (y % 2 ^ 32) (omega (arith, h)) (omega arith) in
    let two = half_product (x % 2 ^ 32) (y % 2 ^ 32) (omega arith) (omega arith) in
    omega (arith, one, two)

pub other_fits : (x y : ℕ) → y < 2 ^ 64 → other_middle x y < 2 ^ 64
other_fits x y k =
    let one = half_product (x % 2 ^ 32) (y / 2 ^ 32) (omega arith) (omega (arith, k)) in
    let rest : middle_word x y % 2 ^ 32 < 2 ^ 32 = omega arith in
    omega (arith, one, rest)

pub high_fits : (x y : ℕ) → x < 2 ^ 64 → y < 2 ^ 64 → (x * y) / 2 ^ 64 < 2 ^ 64
high_fits x y h k =
    let most : x * y ≤ (2 ^ 64 - 1) * (2 ^ 64 - 1) = mul-le-mul {n₂ = 2 ^ 64 - 1} {m₂ = 2 ^ 64 - 1} (omega (arith, h)) (omega (arith, k)) in
    omega (arith, most)

-- ---- with signs

turn : (x : ℤ) → pattern 64 (x +ℤ pos (2 ^ 64)) ≡ pattern 64 x
turn x = sym (add_bits w64 x (pos (2 ^ 64))) ∙ (let below = pattern_below 64 x in omega (arith, below))

abbrev pub low_high : ℤ → ℕ → ℤ
low_high h x = pos x +ℤ h *ℤ pos (2 ^ 64)

abbrev pub by_words : ℕ → ℕ → ℤ → ℤ → ℤ
by_words x y h k = pos ((x * y) / 2 ^ 64) +ℤ h *ℤ pos y +ℤ k *ℤ pos x

-- multiples of a number add up
multiples : (k l : ℤ) (n : ℕ) → (k +ℤ l) *ℤ pos n ≡ k *ℤ pos n +ℤ l *ℤ pos n
multiples k l n =
    let parts : up (k +ℤ l) + down k + down l ≡ down (k +ℤ l) + up k + up l = omega (arith, ints) in
    let times = ap (λ (x : ℕ). x * n) parts in
    omega (arith, ints)

less : (x n : ℕ) → low_high (negsuc 0) x *ℤ pos n ≡ pos (x * n) -ℤ pos (2 ^ 64 * n)
less x n = multiples (pos x) (negsuc 0 *ℤ pos (2 ^ 64)) n ∙ omega (arith, ints)

-- a number times one that lies 2^64 lower
minus_times : (a : ℤ) (y : ℕ) → a *ℤ low_high (negsuc 0) y ≡ a *ℤ pos y -ℤ a *ℤ pos (2 ^ 64)
minus_times a y =
    let parts : up (low_high (negsuc 0) y) + 2 ^ 64 ≡ down (low_high (negsuc 0) y) + y = omega (arith, ints) in
    let above = ap (λ (n : ℕ). up a * n) parts in
    let below = ap (λ (n : ℕ). down a * n) parts in
    omega (arith, ints, above, below)

plain : (x : ℕ) → low_high (pos 0) x ≡ pos x
plain x = omega (arith, ints)

np_is : (x y : ℕ) → low_high (negsuc 0) x *ℤ low_high (pos 0) y ≡ pos (x * y) -ℤ pos (2 ^ 64 * y)
np_is x y = ap (λ n. low_high (negsuc 0) x *ℤ n) (plain y) ∙ less x y

pn_is : (x y : ℕ) → low_high (pos 0) x *ℤ low_high (negsuc 0) y ≡ pos (x * y) -ℤ pos (2 ^ 64 * x)
pn_is x y = *ℤ_comm (low_high (pos 0) x) (low_high (negsuc 0) y) ∙ np_is y x ∙ omega (arith, ints)

nn_is : (x y : ℕ) → low_high (negsuc 0) x *ℤ low_high (negsuc 0) y ≡ pos (x * y) -ℤ pos (2 ^ 64 * x) -ℤ pos (2 ^ 64 * y) +ℤ pos (2 ^ 128)
nn_is x y =
    minus_times (low_high (negsuc 0) x) y ∙ (let one = less x y in let other = less x (2 ^ 64) in omega (arith, ints, one, other))

product_pp : (x y : ℕ) → by_words x y (pos 0) (pos 0) ≡ high (low_high (pos 0) x *ℤ low_high (pos 0) y)
product_pp x y = sym (one_number (low_high (pos 0) x *ℤ low_high (pos 0) y) (by_words x y (pos 0) (pos 0)) ((x * y) % 2 ^ 64) (omega arith) (omega (arith, ints)))

product_np : (x y : ℕ) → by_words x y (negsuc 0) (pos 0) ≡ high (low_high (negsuc 0) x *ℤ low_high (pos 0) y)
product_np x y = sym (one_number (low_high (negsuc 0) x *ℤ low_high (pos 0) y) (by_words x y (negsuc 0) (pos 0)) ((x * y) % 2 ^ 64) (omega arith) (np_is x y ∙ omega (arith, ints)))

product_pn : (x y : ℕ) → by_words x y (pos 0) (negsuc 0) ≡ high (low_high (pos 0) x *ℤ low_high (negsuc 0) y)
product_pn x y = sym (one_number (low_high (pos 0) x *ℤ low_high (negsuc 0) y) (by_words x y (pos 0) (negsuc 0)) ((x * y) % 2 ^ 64) (omega arith) (pn_is x y ∙ omega (arith, ints)))

product_nn : (x y : ℕ) → by_words x y (negsuc 0) (negsuc 0) +ℤ pos (2 ^ 64) ≡ high (low_high (negsuc 0) x *ℤ low_high (negsuc 0) y)
product_nn x y = sym (one_number (low_high (negsuc 0) x *ℤ low_high (negsuc 0) y) (by_words x y (negsuc 0) (negsuc 0) +ℤ pos (2 ^ 64)) ((x * y) % 2 ^ 64) (omega arith) (nn_is x y ∙ omega (arith, ints)))

abbrev pub IsSign : ℤ → Type 0
IsSign h = (h ≡ pos 0) ⊎ (h ≡ negsuc 0)

product_at : (x y : ℕ) (h k : ℤ) → IsSign h → IsSign k → pattern 64 (by_words x y h k) ≡ pattern 64 (high (low_high h x *ℤ low_high k y))
product_at x y h k i j =
    let P : ℤ → ℤ → Type 0 = λ h k. pattern 64 (by_words x y h k) ≡ pattern 64 (high (low_high h x *ℤ low_high k y)) in
    elim i [
      | inl e ↦ elim j [
        | inl f ↦ subst (λ h. P h k) (sym e) (subst (λ k. P (pos 0) k) (sym f) (ap (pattern 64) (product_pp x y)))
        | inr f ↦ subst (λ h. P h k) (sym e) (subst (λ k. P (pos 0) k) (sym f) (ap (pattern 64) (product_pn x y)))
      ]
      | inr e ↦ elim j [
        | inl f ↦ subst (λ h. P h k) (sym e) (subst (λ k. P (negsuc 0) k) (sym f) (ap (pattern 64) (product_np x y)))
        | inr f ↦ subst (λ h. P h k) (sym e) (subst (λ k. P (negsuc 0) k) (sym f) (sym (turn (by_words x y (negsuc 0) (negsuc 0))) ∙ ap (pattern 64) (product_nn x y)))
      ]
    ]

-- by the high words of the two numbers
pub high_of_product : (a b : ℤ) → IsSign (high a) → IsSign (high b) → pattern 64 (by_words (pattern 64 a) (pattern 64 b) (high a) (high b)) ≡ pattern 64 (high (a *ℤ b))
high_of_product a b h k =
    product_at (pattern 64 a) (pattern 64 b) (high a) (high b) h k
    ∙ ap (λ n. pattern 64 (high (n *ℤ low_high (high b) (pattern 64 b)))) (sym (two_words a))
    ∙ ap (λ n. pattern 64 (high (a *ℤ n))) (sym (two_words b))

sign_for : (a : ℤ) → IsHeld a → IsSign (high a)
sign_for (pos n) h = inl (omega (arith, ints, h.high))
sign_for (negsuc n) h = inr (omega (arith, ints, h.low))

pub sign_of_value : (t : IntTy) (a : ℤ) → IsStored t → IsIn t a → IsSign (high a)
sign_of_value t a h i = sign_for a (held t a h i)

masked_plus : (y : ℕ) → bit_and (pattern 64 (pos 0)) y ≡ pattern 64 (neg_ℤ (pos 0 *ℤ pos y))
masked_plus y = let none : pos 0 ≡ neg_ℤ (pos 0 *ℤ pos y) = omega (arith, ints) in ap (pattern 64) none

masked_minus : (y : ℕ) → y < 2 ^ 64 → bit_and (pattern 64 (negsuc 0)) y ≡ pattern 64 (neg_ℤ (negsuc 0 *ℤ pos y))
masked_minus y h =
    let whole : pos y ≡ neg_ℤ (negsuc 0 *ℤ pos y) = omega (arith, ints) in
    and_comm (2 ^ 64 - 1) y ∙ and_mask y 64 ∙ ap (pattern 64) whole

-- what is taken away for it
pub masked_by_sign : (h : ℤ) (y : ℕ) → IsSign h → y < 2 ^ 64 → bit_and (pattern 64 h) y ≡ pattern 64 (neg_ℤ (h *ℤ pos y))
masked_by_sign h y i below =
    let P : ℤ → Type 0 = λ h. bit_and (pattern 64 h) y ≡ pattern 64 (neg_ℤ (h *ℤ pos y)) in
    elim i [ inl e ↦ subst P (sym e) (masked_plus y) | inr e ↦ subst P (sym e) (masked_minus y below) ]
