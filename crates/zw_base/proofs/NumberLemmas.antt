-- A text that spells a number is ASCII, and so UTF-8.
use Rattle.std.proofs.Common.{◌≡◌, ℕ, zero, suc, Bool, true, false, cond, List, [], ◌∷◌, drop, IsUtf8, IsAscii, refl, arith}
use Rattle.std.proofs.lemmas.Bool.Decides.{nat_tests}
use Rattle.std.proofs.lemmas.Fmt.{IsAscii-from_digits}
use Rattle.std.proofs.lemmas.Str.{IsUtf8-from_ascii}
use Rattle.std.specs.Str.Parse.{AllDigits, starts_with_minus}
use Rattle.zw_base.specs.Numbers.{IsNumber}

ascii : (text : List ℕ) (minus : Bool) → starts_with_minus text ≡ minus → AllDigits 10 (cond minus (drop 1 text) text) → IsAscii text
ascii text false e d i = IsAscii-from_digits text d i
ascii [] true e d i = omega arith
ascii (c ∷ cs) true e d zero = grind (arith, nat_tests)
ascii (c ∷ cs) true e d (suc i) = IsAscii-from_digits cs d i

pub number_is_utf8 : (text : List ℕ) → IsNumber text → IsUtf8 text
number_is_utf8 text n = IsUtf8-from_ascii text (ascii text (starts_with_minus text) refl n.0.1)
