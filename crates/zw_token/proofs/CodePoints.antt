-- Whether a code point begins what is left of a text, by its first byte.
use Rattle.std.proofs.Common.{◌≡◌, ℕ, zero, suc, ◌+◌, ◌<◌, ◌≤◌, List, [], ◌∷◌, ◌++◌, length, get_or, take, sym, ap, ◌∙◌, subst, arith, length-append}
use Rattle.std.specs.Prelude.{nat_lt}
use Rattle.std.specs.Str.{IsUtf8, IsAscii, StartsWithNoChar, continuation_len}
use Rattle.std.proofs.Math.Utf8.{encode}
use Rattle.std.proofs.lemmas.Bool.Decides.{nat_tests}
use Rattle.std.proofs.lemmas.List.{take_at}
use Rattle.std.proofs.lemmas.Str.{IsUtf8-encode, IsUtf8-from_ascii, length-encode, len_utf8_bounds}
use Rattle.zw_token.proofs.Fronts.{choose}

encode_some : (c : ℕ) → 0 < length (encode c)
encode_some c = let size = length-encode c in let bounds = len_utf8_bounds c in omega (arith, size, bounds.0)

pub none_begins : (rest : List ℕ) → length rest < 1 → StartsWithNoChar rest
none_begins rest empty c more scalar e =
    let some = encode_some c in
    let size : length rest ≡ length (encode c ++ more) = ap length e in
    omega (arith, empty, some, size, length-append (encode c) more)

one_ascii : (b : ℕ) → b < 128 → IsAscii (b ∷ [])
one_ascii b low zero = low
one_ascii b low (suc i) = omega arith

-- an ASCII byte is a code point
pub ascii_point : (rest : List ℕ) → 1 ≤ length rest → get_or rest 0 0 < 128 → IsUtf8 (take 1 rest)
ascii_point [] some low = absurd (omega arith)
ascii_point (b ∷ rest) some low = IsUtf8-from_ascii (b ∷ []) (one_ascii b low)

-- the first byte of a code point tells how many it has
wide_size : (c : ℕ) (more : List ℕ) → 1 + continuation_len (get_or (encode c ++ more) 0 0) ≡ length (encode c)
unfolding encode
wide_size c more =
    choose (nat_lt c 128) _ _ (λ l. 1 + continuation_len (get_or (l ++ more) 0 0) ≡ length l) (λ low. grind (arith, nat_tests))
    (λ _. choose (nat_lt c 2048) _ _ (λ l. 1 + continuation_len (get_or (l ++ more) 0 0) ≡ length l) (λ low. grind (arith, nat_tests))
    (λ _. choose (nat_lt c 65536) _ _ (λ l. 1 + continuation_len (get_or (l ++ more) 0 0) ≡ length l) (λ low. grind (arith, nat_tests)) (λ _. grind (arith, nat_tests))))

-- where the bytes that the first asks for aren't there, or are no UTF-8, none begins
pub wide_none : (rest : List ℕ) (n : ℕ) → n ≡ 1 + continuation_len (get_or rest 0 0) → (n ≤ length rest → IsUtf8 (take n rest) → ⊥) → StartsWithNoChar rest
wide_none rest n is none c more scalar e =
    let size : n ≡ length (encode c) = is ∙ ap (λ l. 1 + continuation_len (get_or l 0 0)) e ∙ wide_size c more in
    let within : n ≤ length rest = omega (arith, size, ap length e, length-append (encode c) more) in
    let first : take n rest ≡ encode c = ap (take n) e ∙ take_at (encode c) more n (sym size) in
    none within (subst IsUtf8 (sym first) (IsUtf8-encode c scalar))
