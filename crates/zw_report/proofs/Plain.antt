-- What is printed of names, bytes and numbers is visible ASCII.
use Rattle.std.proofs.Common.{◌≡◌, ℕ, zero, suc, ◌+◌, ◌-◌, ◌/◌, ◌%◌, ◌<◌, ◌≤◌, Bool, true, false, ◌&&◌, List, [], ◌∷◌, ◌++◌, slice_index, refl, ◌∙◌, arith, codes}
use Rattle.std.specs.Prelude.{ℤ, pos, negsuc, if◌then◌else◌, map, nat_le, nat_lt, not, nat_eq}
use Rattle.std.specs.Fmt.{decimal, signed_decimal, digits, digits_onto, digit_glyph}
use Rattle.std.proofs.lemmas.Bool.{and_from, le-leb}
use Rattle.std.proofs.lemmas.List.Folds.{list_all-append}
use Rattle.std.proofs.lemmas.List.Sums.{AllPass-from_list_all}
use Rattle.hex.specs.Hex.{IsBytes, encode_lower, encode_with, lower_digits}
use Rattle.zw_base.specs.declared.stop.StopKind.{StopKind}
use Rattle.zw_base.specs.declared.stop.StopKind.TheVariants.{Error, Limit}
use Rattle.zw_report.specs.declared.arg.Arg.{Arg}
use Rattle.zw_report.specs.declared.arg.Arg.TheVariants.{Number, Truth}
use Rattle.zw_report.specs.declared.item.ItemTy.{ItemTy}
use Rattle.zw_report.specs.declared.item.ItemTy.TheVariants.{Int, Bool as Logical, Bytes, Void}
use Rattle.zw_report.specs.declared.panics.TheConstants.{CAUSE_NAMES}
use Rattle.zw_report.specs.declared.stops.TheConstants.{ERROR_NAMES, LIMIT_NAMES}
use Rattle.zw_report.specs.Lines.{argument_text, bytes_text, cause_name, is_plain, number_text, shown, truth_text, value_text}
use Rattle.zw_report.specs.StopLines.{IsNamed, class_of, name_of}
use Rattle.zw_wasm.specs.Signature.{signed_value}
use Rattle.zw_wasm.specs.Structure.{bits_of}
use Rattle.zw_wasm.specs.declared.num.Num.{Num}

abbrev pub plain_byte : ℕ → Bool
plain_byte byte = nat_le 0x21 byte && nat_le byte 0x7e

byte_is_plain : (byte : ℕ) → 33 ≤ byte → byte ≤ 126 → plain_byte byte ≡ true
byte_is_plain byte low high = and_from _ _ (le-leb 33 byte low) (le-leb byte 126 high)

plain-cons : (byte : ℕ) (text : List ℕ) → plain_byte byte ≡ true → is_plain text ≡ true → is_plain (byte ∷ text) ≡ true
plain-cons byte text b t = and_from _ _ b t

pub plain-append : (a b : List ℕ) → is_plain a ≡ true → is_plain b ≡ true → is_plain (a ++ b) ≡ true
plain-append a b p q = list_all-append plain_byte a b ∙ and_from _ _ p q

digit_is_plain : (d : ℕ) → d < 16 → plain_byte (slice_index lower_digits d) ≡ true
digit_is_plain d less = AllPass-from_list_all plain_byte lower_digits refl d 0 less

plain-encoded : (bytes : List ℕ) → IsBytes bytes → is_plain (encode_lower bytes) ≡ true
unfolding encode_with
plain-encoded [] h = refl
plain-encoded (b ∷ rest) h =
    let fits : b < 256 = h 0 in
    let high : b / 16 < 16 = omega arith in
    let low : b % 16 < 16 = omega arith in
    plain-cons (slice_index lower_digits (b / 16)) (slice_index lower_digits (b % 16) ∷ encode_lower rest) (digit_is_plain (b / 16) high)
    (plain-cons (slice_index lower_digits (b % 16)) (encode_lower rest) (digit_is_plain (b % 16) low) (plain-encoded rest (λ i. h (suc i))))

pub plain-bytes : (bytes : List ℕ) → IsBytes bytes → is_plain (bytes_text bytes) ≡ true
plain-bytes bytes h = plain-append (codes "hex:") (encode_lower bytes) refl (plain-encoded bytes h)

pub plain-shown : (name : List ℕ) → IsBytes name → is_plain (shown name) ≡ true
plain-shown name h = by (is_plain name) refl
  where
    by : (b : Bool) → is_plain name ≡ b → is_plain (if b then name else codes "hex:" ++ encode_lower name) ≡ true
    by true e = e
    by false e = plain-bytes name h

glyph_is_plain : (d : ℕ) → d < 10 → plain_byte (digit_glyph false d) ≡ true
glyph_is_plain d less = by (nat_lt d 10)
  where
    by : (b : Bool) → plain_byte (if b then 48 + d else 87 + d) ≡ true
    by true = byte_is_plain (48 + d) (omega arith) (omega arith)
    by false = byte_is_plain (87 + d) (omega arith) (omega arith)

onto_is_plain : (k n : ℕ) (text : List ℕ) → is_plain text ≡ true → is_plain (digits_onto k 10 false n text) ≡ true
onto_is_plain zero n text t = t
onto_is_plain (suc k) n text t =
    let small : n % 10 < 10 = omega arith in
    let more = plain-cons (digit_glyph false (n % 10)) text (glyph_is_plain (n % 10) small) t in
    by (nat_eq (n / 10) 0) _ _ more (onto_is_plain k (n / 10) (digit_glyph false (n % 10) ∷ text) more)
  where
    by : (b : Bool) (xs ys : List ℕ) → is_plain xs ≡ true → is_plain ys ≡ true → is_plain (if b then xs else ys) ≡ true
    by true xs ys p q = p
    by false xs ys p q = q

pub plain-decimal : (n : ℕ) → is_plain (decimal n) ≡ true
unfolding digits
plain-decimal n = onto_is_plain 64 n [] refl

plain-signed : (z : ℤ) → is_plain (signed_decimal z) ≡ true
plain-signed (pos n) = plain-decimal n
plain-signed (negsuc n) = plain-cons 45 (decimal (suc n)) refl (plain-decimal (suc n))

plain-truth : (b : Bool) → is_plain (truth_text b) ≡ true
plain-truth true = refl
plain-truth false = refl

pub plain-argument : (arg : Arg) → is_plain (argument_text arg) ≡ true
plain-argument (Number z) = plain-signed z
plain-argument (Truth b) = plain-truth b

plain-number : (signed : Bool) (n : Num) → is_plain (number_text signed n) ≡ true
plain-number true n = plain-signed (signed_value n)
plain-number false n = plain-decimal (bits_of n)

pub plain-value : (ty : ItemTy) (n : Num) → is_plain (value_text ty n) ≡ true
plain-value (Int signed bits) n = plain-number signed n
plain-value Logical n = plain-truth (not (nat_eq (bits_of n) 0))
plain-value Bytes n = refl
plain-value Void n = refl

pub plain-cause : (cause : ℕ) → 1 ≤ cause → cause ≤ 19 → is_plain (cause_name cause) ≡ true
plain-cause cause low high = AllPass-from_list_all is_plain (map (λ name. name.now) CAUSE_NAMES) refl (cause - 1) [] (omega arith)

pub plain-class : (kind : StopKind) → is_plain (class_of kind) ≡ true
plain-class (Error number) = refl
plain-class (Limit number) = refl

pub plain-name : (kind : StopKind) → IsNamed kind → is_plain (name_of kind) ≡ true
plain-name (Error number) named = AllPass-from_list_all is_plain (map (λ name. name.now) ERROR_NAMES) refl (number - 1) [] (omega arith)
plain-name (Limit number) named = AllPass-from_list_all is_plain (map (λ name. name.now) LIMIT_NAMES) refl (number - 1) [] (omega arith)
