-- Texts that are the same, and texts of digits as numbers.
use Rattle.std.proofs.Common.{rules, ◌≡◌, ◌∙◌, ℕ, ◌<◌, ◌≤◌, Bool, true, false, cond, ◌&&◌, nat_lt, nat_eq, List, [], ◌∷◌, length, drop, refl, sym, subst, arith}
use Rattle.std.specs.Prelude.{pos, neg_ℤ, FitsSigned}
use Rattle.std.specs.Char.{is_ascii_digit}
use Rattle.std.specs.Int.{w128, IsInRange}
use Rattle.std.specs.List.{list_all}
use Rattle.std.specs.Str.{bytes_eq}
use Rattle.std.specs.Str.Parse.{AllDigits, IsNumeral, digits_value, starts_with_minus}
use Rattle.std.proofs.lemmas.Bool.Decides.{nat_tests}
use Rattle.std.proofs.lemmas.Slice.Eq.{bytes_eq-Decides}
use Rattle.std.proofs.lemmas.Str.Parse.{tells_digits}
use Rattle.zw_base.specs.Numbers.{IsNumber, after_minus, number_spelt}
use Rattle.zw_calls.specs.Requests.{IsStepCount}
use Rattle.zw_calls.specs.Words.{is_numeral}

pub same_bytes : (x y : List ℕ) → bytes_eq x y ≡ true → x ≡ y
same_bytes x y e = (bytes_eq-Decides x y).0 e

digit-range : (c : ℕ) → is_ascii_digit c ≡ true → IsInRange 48 57 c
digit-range c e = grind (arith, nat_tests)

digit-no_minus : (c : ℕ) → is_ascii_digit c ≡ true → nat_eq c 45 ≡ false
digit-no_minus c e = grind (arith, nat_tests)

and-parts : (a b : Bool) → (a && b) ≡ true → (a ≡ true) × (b ≡ true)
and-parts true b e = (refl, e)
and-parts false b e = cc

if-parts : (a b : Bool) → cond a b false ≡ true → (a ≡ true) × (b ≡ true)
if-parts true b e = (refl, e)
if-parts false b e = cc

all_digits : (ds : List ℕ) → list_all is_ascii_digit ds ≡ true → AllDigits 10 ds
all_digits [] e = tt
all_digits (c ∷ cs) e =
    let p : (is_ascii_digit c ≡ true) × (list_all is_ascii_digit cs ≡ true) = and-parts (is_ascii_digit c) (list_all is_ascii_digit cs) e in
    tells_digits.more c cs (digit-range c p.0) (all_digits cs p.1)

some_bytes : (n : ℕ) → nat_lt 0 n ≡ true → 0 < n
some_bytes n e = grind (arith, nat_tests)

-- a test of digits says what `parse` asks for
pub numeral-digits : (text : List ℕ) → is_numeral text ≡ true → IsNumeral 10 text
numeral-digits text e =
    let p : (nat_lt 0 (length text) ≡ true) × (list_all is_ascii_digit text ≡ true) = if-parts (nat_lt 0 (length text)) (list_all is_ascii_digit text) e in
    (some_bytes (length text) p.0, all_digits text p.1)

no_minus : (text : List ℕ) → is_numeral text ≡ true → starts_with_minus text ≡ false
no_minus [] e = cc
no_minus (c ∷ cs) e = digit-no_minus c (and-parts (is_ascii_digit c) (list_all is_ascii_digit cs) (if-parts (nat_lt 0 (length (c ∷ cs))) (list_all is_ascii_digit (c ∷ cs)) e).1).0

plain-step : (b : Bool) (text : List ℕ) → b ≡ false → cond b (drop 1 text) text ≡ text
plain-step true text e = cc
plain-step false text e = refl

spelt-step : (b : Bool) (text : List ℕ) → b ≡ false → cond b (neg_ℤ (pos (digits_value 10 (cond b (drop 1 text) text)))) (pos (digits_value 10 (cond b (drop 1 text) text))) ≡ pos (digits_value 10 text)
spelt-step true text e = cc
spelt-step false text e = refl

-- digits alone have no sign
pub numeral-plain : (text : List ℕ) → is_numeral text ≡ true → after_minus text ≡ text
numeral-plain text e = plain-step (starts_with_minus text) text (no_minus text e)

pub numeral-spelt : (text : List ℕ) → is_numeral text ≡ true → number_spelt text ≡ pos (digits_value 10 text)
numeral-spelt text e = spelt-step (starts_with_minus text) text (no_minus text e)

small_fits : (n : ℕ) → n ≤ 4000000000 → FitsSigned w128 (pos n)
small_fits n h = search (rules, arith)

-- a number of steps is a number that can be read
pub count-number : (text : List ℕ) → IsStepCount text → IsNumber text
count-number text h = (
  subst (IsNumeral 10) (sym (numeral-plain text h.0)) (numeral-digits text h.0),
  subst (FitsSigned w128) (sym (numeral-spelt text h.0)) (small_fits (digits_value 10 text) h.2),
)

-- a text that was found not to be empty
pub not_empty : (text : List ℕ) (empty : Bool) → empty ≡ nat_eq (length text) 0 → empty ≡ false → 0 < length text
not_empty [] empty e f = let wrong : true ≡ false = sym e ∙ f in cc
not_empty (x ∷ xs) empty e f = omega arith
