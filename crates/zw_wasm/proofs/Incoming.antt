-- What a declared type has can be handed over.
use Rattle.std.proofs.Common.{◌≡◌, ℕ, ◌-◌, ◌≤◌, ◌^◌, ℤ, pos, negsuc, Bool, true, false, cond, refl, arith, nat_lt, nat_le}
use Rattle.std.proofs.lemmas.Bool.Decides.{nat_tests}
use Rattle.std.proofs.Math.Pow.{pow_mono}
use Rattle.zw_session.specs.Incoming.{is_word}
use Rattle.zw_session.specs.Sessions.{Scalar, Number, Truth}
use Rattle.zw_wasm.specs.Laws.{IsCarried}
use Rattle.zw_wasm.specs.ModuleMachine.{carrier, comes_in}
use Rattle.zw_wasm.specs.Signature.{Reading, Unsigned, Signed, Logical, is_in_range}
use Rattle.zw_wasm.specs.declared.module.ValType.TheVariants as ty

-- a number below a power is below each greater power
below : (n bits width : ℕ) → nat_lt n (2 ^ bits) ≡ true → bits ≤ width → nat_lt n (2 ^ width) ≡ true
below n bits width h le = let more : 2 ^ bits ≤ 2 ^ width = pow_mono le in grind (arith, nat_tests, h, more)

unsigned_word : (n bits width : ℕ) → is_in_range (Unsigned bits) (Number (pos n)) ≡ true → bits ≤ width → is_word width (pos n) ≡ true
unsigned_word n bits width h le = below n bits width h le

signed_word : (z : ℤ) (bits width : ℕ) → is_in_range (Signed bits) (Number z) ≡ true → bits ≤ width → is_word width z ≡ true
signed_word (pos n) bits width h le = below n (bits - 1) width h (omega (arith, le))
signed_word (negsuc n) bits width h le = below n (bits - 1) (width - 1) h (omega (arith, le))

-- by the type that carries it
carried : (z : ℤ) (bits : ℕ) (b : Bool) → nat_le bits 32 ≡ b → ((width : ℕ) → bits ≤ width → is_word width z ≡ true) → bits ≤ 64 → comes_in (cond b ty.I32 ty.I64) (Number z) ≡ true
carried z bits true e word le = word 32 (grind (arith, nat_tests, e))
carried z bits false e word le = word 64 le

pub values_come : (r : Reading) (value : Scalar) → IsCarried r → is_in_range r value ≡ true → comes_in (carrier r) value ≡ true
values_come (Unsigned bits) (Number (pos n)) le h = carried (pos n) bits (nat_le bits 32) refl (λ width. unsigned_word n bits width h) le
values_come (Unsigned bits) (Number (negsuc n)) le h = absurd (cc)
values_come (Unsigned bits) (Truth b) le h = absurd (cc)
values_come (Signed bits) (Number z) le h = carried z bits (nat_le bits 32) refl (λ width. signed_word z bits width h) le
values_come (Signed bits) (Truth b) le h = absurd (cc)
values_come Logical (Truth b) le h = refl
values_come Logical (Number z) le h = absurd (cc)
