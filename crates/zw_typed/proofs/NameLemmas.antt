-- The test of names is that of UTF-8.
use Rattle.std.proofs.Common.{◌≡◌, refl, ℕ, ◌<◌, Bool, true, false, List, [], ◌∷◌, sym, arith}
use Rattle.std.specs.Prelude.{◌&&◌, nat_lt}
use Rattle.std.specs.Str.{IsAscii, is_utf8}
use Rattle.std.proofs.lemmas.Str.{IsUtf8-from_ascii, is_utf8-from_IsUtf8}
use Rattle.std.proofs.lemmas.Str.Ascii.{IsAscii-nil, IsAscii-cons}
use Rattle.zw_typed.specs.HostTypes.{are_ascii, is_utf8_name}

both : (s t : Bool) → (s && t) ≡ true → (s ≡ true) × (t ≡ true)
both true true e = (refl, refl)
both true false e = cc
both false t e = cc

ascii_is : (bytes : List ℕ) → are_ascii bytes ≡ true → IsAscii bytes
ascii_is [] e = IsAscii-nil
ascii_is (b ∷ bytes) e =
    let first : b < 128 = below b (both (nat_lt b 128) (are_ascii bytes) e).0 in
    IsAscii-cons b bytes first (ascii_is bytes (both (nat_lt b 128) (are_ascii bytes) e).1)
  where
    below : (b : ℕ) → nat_lt b 128 ≡ true → b < 128
    below b e = grind arith

pub names_are_utf8 : (name : List ℕ) → is_utf8_name name ≡ is_utf8 name
names_are_utf8 name = by_ascii (are_ascii name) refl
  where
    by_ascii : (plain : Bool) → are_ascii name ≡ plain → (elim plain [ true ↦ true | false ↦ is_utf8 name ]) ≡ is_utf8 name
    by_ascii true e = sym (is_utf8-from_IsUtf8 name (IsUtf8-from_ascii name (ascii_is name e)))
    by_ascii false e = refl
