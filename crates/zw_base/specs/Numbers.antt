-- Numbers as words of the command line spell them: an optional `-` and decimal digits.
use Rattle.std.specs.Prelude.{ℕ, List, cond, drop, ℤ, pos, neg_ℤ, FitsSigned}
use Rattle.std.specs.Int.{w128}
use Rattle.std.specs.Str.Parse.{IsNumeral, digits_value, starts_with_minus}

-- the text without its `-`, where it begins with one
abbrev pub after_minus : List ℕ → List ℕ
after_minus text = cond (starts_with_minus text) (drop 1 text) text

-- the number that a text of this form spells
abbrev pub number_spelt : List ℕ → ℤ
number_spelt text =
    let size : ℤ = pos (digits_value 10 (after_minus text)) in
    cond (starts_with_minus text) (neg_ℤ size) size

-- one decimal digit or more behind an optional `-`, and the number fits in 128 bits with a sign
abbrev pub IsNumber : List ℕ → Type 0
IsNumber text = IsNumeral 10 (after_minus text) × FitsSigned w128 (number_spelt text)
