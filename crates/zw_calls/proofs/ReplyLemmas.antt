-- Lines as replies, one after the other.
use Rattle.std.proofs.Common.{◌≡◌, ℕ, ◌+◌, Bool, true, false, not, cond, List, ◌++◌, refl, arith}
use Rattle.std.specs.Prelude.{ℤ, pos, negsuc, int_lt, FitsSigned}
use Rattle.std.specs.Int.{w128}
use Rattle.std.specs.List.{position_from}
use Rattle.std.proofs.lemmas.Int.{ints}
use Rattle.zw_base.specs.Numbers.{IsNumber, after_minus, number_spelt}
use Rattle.zw_calls.proofs.TextLemmas.{numeral-digits}
use Rattle.zw_calls.specs.Replies.{is_bad, is_reply, replies_of}
use Rattle.zw_calls.specs.Words.{is_numeral}

reply-tests : (a b c : Bool) → cond a (cond b false (not c)) false ≡ true → (a ≡ true) × (b ≡ false) × (c ≡ false)
reply-tests true true c e = cc
reply-tests true false true e = cc
reply-tests true false false e = (refl, refl, refl)
reply-tests false b c e = cc

reply_fits : (n : ℤ) → int_lt n (negsuc 9223372036854775807) ≡ false → int_lt (pos 18446744073709551615) n ≡ false → FitsSigned w128 n
reply_fits n low high = record { sfits = grind (arith, ints) }

-- a reply is a number that can be read
pub reply-number : (line : List ℕ) → is_reply line ≡ true → IsNumber line
reply-number line e =
    let n : ℤ = number_spelt line in
    let t : (is_numeral (after_minus line) ≡ true) × (int_lt n (negsuc 9223372036854775807) ≡ false) × (int_lt (pos 18446744073709551615) n ≡ false) =
    reply-tests (is_numeral (after_minus line)) (int_lt n (negsuc 9223372036854775807)) (int_lt (pos 18446744073709551615) n) e in
    (numeral-digits (after_minus line) t.0, reply_fits n t.1 t.2)

-- how far the lines are read: the replies so far, and no bad line among the first ones
pub record IsRead (all left : List (List ℕ)) (replies : List ℕ) (number : ℕ) : Type 0 where
  pub replies_are : replies ++ replies_of left ≡ replies_of all
  pub first_bad : position_from is_bad (number + 1) left ≡ position_from is_bad 1 all
