-- The bits of two's complement from the bits of an `i128`, and that the bit operators stay within a type.
use Rattle.std.proofs.Common.{◌≡◌, ℕ, zero, suc, ◌+◌, ◌-◌, ◌^◌, ◌<◌, ℤ, pos, negsuc, true, false, bit_and, bit_or, bit_xor, ap, ◌∙◌, arith}
use Rattle.std.proofs.lemmas.Int.{ints, to_z_pos}
use Rattle.std.proofs.lemmas.Nat.{and_le_l, and_le_r, and_comm, or_comm, xor_comm, and-not, or_lt, xor_lt, pow_pos}
use Rattle.std.proofs.Math.Nat.{pow-suc}
use Rattle.std.specs.Int.Bits.{or_add_and, xor_add_and}
use Rattle.std.specs.Int.{w128, cast_signed, cast_unsigned}
use lib.Signed.{mag}
use mir.Facts.{to_z-neg}
use Rattle.zw_num.specs.declared.int_ty.IntTy.{IntTy}
use Rattle.zw_num.specs.declared.int_ty.IntTy.TheVariants.{Sized, Comptime}
use Rattle.zw_num.specs.Arithmetic.{IsIn, bits_and, bits_or, bits_xor}

-- the bits of -(n + 1) in 128
complement : ℕ → ℕ
complement n = 2 ^ 128 - suc n

complement_is : (n : ℕ) → complement n ≡ 2 ^ 128 - 1 - n
unfolding complement
complement_is n = omega arith

-- a number and the complement of another
apart_and : (a b : ℕ) → a < 2 ^ 127 → b < 2 ^ 127 → bit_and a (complement b) + bit_and a b ≡ a
apart_and a b f g =
    let left = ap (λ (x : ℕ). bit_and a x) (complement_is b) ∙ and_comm a (2 ^ 128 - 1 - b) in
    omega (arith, left, and-not 128 b a (omega arith) (omega arith), and_comm a b)

complement_below : (n : ℕ) → complement n < 2 ^ 128
unfolding complement
complement_below n = omega arith

both_and : (a b : ℕ) → a < 2 ^ 127 → b < 2 ^ 127 → bit_and (complement a) (complement b) + bit_or a b ≡ 2 ^ 128 - 1
both_and a b f g =
    let left = ap (λ (x : ℕ). bit_and x (complement b)) (complement_is a) in
    omega (arith, left, and-not 128 a (complement b) (omega arith) (complement_below b), apart_and a b f g, or_add_and a b, complement_is b)

-- bits that are a number from 0 on, and bits that are one below it
from_bits_pos : (n x : ℕ) → x ≡ n → n < 2 ^ 127 → cast_signed w128 x ≡ pos n
from_bits_pos n x e h = ap (cast_signed w128) e ∙ to_z_pos w128 n h

from_bits_neg : (n x : ℕ) → x ≡ 2 ^ 128 - suc n → n < 2 ^ 127 → cast_signed w128 x ≡ negsuc n
from_bits_neg n x e h = ap (cast_signed w128) e ∙ to_z-neg w128 n h

pub and_is : (a b : ℤ) → mag a < 2 ^ 127 → mag b < 2 ^ 127 → cast_signed w128 (bit_and (cast_unsigned w128 a) (cast_unsigned w128 b)) ≡ bits_and a b
unfolding complement
and_is (pos a) (pos b) f g = from_bits_pos (bit_and a b) (bit_and a b) (omega arith) (omega (arith, and_le_l a b))
and_is (pos a) (negsuc b) f g = from_bits_pos (a - bit_and a b) (bit_and a (complement b)) (omega (arith, apart_and a b f g)) (omega arith)
and_is (negsuc a) (pos b) f g =
    from_bits_pos (b - bit_and a b) (bit_and (complement a) b) (omega (arith, and_comm (complement a) b, apart_and b a g f, and_comm a b)) (omega arith)
and_is (negsuc a) (negsuc b) f g = from_bits_neg (bit_or a b) (bit_and (complement a) (complement b)) (omega (arith, both_and a b f g)) (or_lt 127 a b f g)

pub or_is : (a b : ℤ) → mag a < 2 ^ 127 → mag b < 2 ^ 127 → cast_signed w128 (bit_or (cast_unsigned w128 a) (cast_unsigned w128 b)) ≡ bits_or a b
unfolding complement
or_is (pos a) (pos b) f g = from_bits_pos (bit_or a b) (bit_or a b) (omega arith) (or_lt 127 a b f g)
or_is (pos a) (negsuc b) f g =
    from_bits_neg (b - bit_and a b) (bit_or a (complement b)) (omega (arith, or_add_and a (complement b), apart_and a b f g, complement_is b, and_le_r a b)) (omega arith)
or_is (negsuc a) (pos b) f g =
    from_bits_neg (a - bit_and a b) (bit_or (complement a) b) (omega (arith, or_comm (complement a) b, or_add_and b (complement a), apart_and b a g f, complement_is a, and_comm a b, and_le_l a b)) (omega arith)
or_is (negsuc a) (negsuc b) f g =
    from_bits_neg (bit_and a b) (bit_or (complement a) (complement b)) (omega (arith, or_add_and (complement a) (complement b), both_and a b f g, or_add_and a b, complement_is a, complement_is b)) (omega (arith, and_le_l a b))

pub xor_is : (a b : ℤ) → mag a < 2 ^ 127 → mag b < 2 ^ 127 → cast_signed w128 (bit_xor (cast_unsigned w128 a) (cast_unsigned w128 b)) ≡ bits_xor a b
unfolding complement
xor_is (pos a) (pos b) f g = from_bits_pos (bit_xor a b) (bit_xor a b) (omega arith) (xor_lt 127 a b f g)
xor_is (pos a) (negsuc b) f g =
    from_bits_neg (bit_xor a b) (bit_xor a (complement b)) (omega (arith, xor_add_and a (complement b), xor_add_and a b, apart_and a b f g, complement_is b, and_le_l a b)) (xor_lt 127 a b f g)
xor_is (negsuc a) (pos b) f g =
    from_bits_neg (bit_xor a b) (bit_xor (complement a) b) (omega (arith, xor_comm (complement a) b, xor_add_and b (complement a), xor_add_and a b, apart_and b a g f, complement_is a, and_comm a b, and_le_r a b)) (xor_lt 127 a b f g)
xor_is (negsuc a) (negsuc b) f g =
    from_bits_pos (bit_xor a b) (bit_xor (complement a) (complement b)) (omega (arith, xor_add_and (complement a) (complement b), xor_add_and a b, both_and a b f g, or_add_and a b, complement_is a, complement_is b)) (xor_lt 127 a b f g)

-- ---- ranges

-- The values of a type are the numbers of so many bits, and, where it has one below 0, those with a sign.
record Room (ty : IntTy) (k : ℕ) : Type 0 where
  pos_in : (n : ℕ) → n < 2 ^ k → IsIn ty (pos n)
  neg_in : (m n : ℕ) → IsIn ty (negsuc m) → n < 2 ^ k → IsIn ty (negsuc n)
  pos_out : (n : ℕ) → IsIn ty (pos n) → n < 2 ^ k
  neg_out : (n : ℕ) → IsIn ty (negsuc n) → n < 2 ^ k

room_unsigned : (bits : ℕ) → Room (Sized false bits) bits
room_unsigned bits = let some = pow_pos bits in record {
  pos_in = λ n h. record { at_least = omega (arith, ints); at_most = omega (arith, ints) };
  neg_in = λ m n i h. absurd (omega (arith, ints, i.at_least));
  pos_out = λ n i. omega (arith, ints, i.at_most);
  neg_out = λ n i. absurd (omega (arith, ints, i.at_least));
}

room_none : Room (Sized true 0) 0
room_none = record {
  pos_in = λ n h. record { at_least = omega (arith, ints); at_most = omega (arith, ints) };
  neg_in = λ m n i h. absurd (omega (arith, ints, i.at_least));
  pos_out = λ n i. omega (arith, ints, i.at_most);
  neg_out = λ n i. absurd (omega (arith, ints, i.at_least));
}

room_signed : (k : ℕ) → Room (Sized true (suc k)) k
room_signed k = let some = pow_pos k in let twice = pow-suc 2 k in record {
  pos_in = λ n h. record { at_least = omega (arith, ints); at_most = omega (arith, ints) };
  neg_in = λ m n i h. record { at_least = omega (arith, ints); at_most = omega (arith, ints) };
  pos_out = λ n i. omega (arith, ints, i.at_most);
  neg_out = λ n i. omega (arith, ints, i.at_least);
}

room_comptime : Room Comptime 127
room_comptime = record {
  pos_in = λ n h. record { at_least = omega (arith, ints); at_most = omega (arith, ints) };
  neg_in = λ m n i h. record { at_least = omega (arith, ints); at_most = omega (arith, ints) };
  pos_out = λ n i. omega (arith, ints, i.at_most);
  neg_out = λ n i. omega (arith, ints, i.at_least);
}

room : (ty : IntTy) → (k : ℕ) × Room ty k
room (Sized false bits) = (bits, room_unsigned bits)
room (Sized true zero) = (0, room_none)
room (Sized true (suc k)) = (k, room_signed k)
room Comptime = (127, room_comptime)

and_room : (ty : IntTy) (k : ℕ) → Room ty k → (a b : ℤ) → IsIn ty a → IsIn ty b → IsIn ty (bits_and a b)
and_room ty k r (pos a) (pos b) i j = r.pos_in (bit_and a b) (omega (arith, and_le_l a b, r.pos_out a i))
and_room ty k r (pos a) (negsuc b) i j = r.pos_in (a - bit_and a b) (omega (arith, r.pos_out a i))
and_room ty k r (negsuc a) (pos b) i j = r.pos_in (b - bit_and a b) (omega (arith, r.pos_out b j))
and_room ty k r (negsuc a) (negsuc b) i j = r.neg_in a (bit_or a b) i (or_lt k a b (r.neg_out a i) (r.neg_out b j))

or_room : (ty : IntTy) (k : ℕ) → Room ty k → (a b : ℤ) → IsIn ty a → IsIn ty b → IsIn ty (bits_or a b)
or_room ty k r (pos a) (pos b) i j = r.pos_in (bit_or a b) (or_lt k a b (r.pos_out a i) (r.pos_out b j))
or_room ty k r (pos a) (negsuc b) i j = r.neg_in b (b - bit_and a b) j (omega (arith, r.neg_out b j))
or_room ty k r (negsuc a) (pos b) i j = r.neg_in a (a - bit_and a b) i (omega (arith, r.neg_out a i))
or_room ty k r (negsuc a) (negsuc b) i j = r.neg_in a (bit_and a b) i (omega (arith, and_le_l a b, r.neg_out a i))

xor_room : (ty : IntTy) (k : ℕ) → Room ty k → (a b : ℤ) → IsIn ty a → IsIn ty b → IsIn ty (bits_xor a b)
xor_room ty k r (pos a) (pos b) i j = r.pos_in (bit_xor a b) (xor_lt k a b (r.pos_out a i) (r.pos_out b j))
xor_room ty k r (pos a) (negsuc b) i j = r.neg_in b (bit_xor a b) j (xor_lt k a b (r.pos_out a i) (r.neg_out b j))
xor_room ty k r (negsuc a) (pos b) i j = r.neg_in a (bit_xor a b) i (xor_lt k a b (r.neg_out a i) (r.pos_out b j))
xor_room ty k r (negsuc a) (negsuc b) i j = r.pos_in (bit_xor a b) (xor_lt k a b (r.neg_out a i) (r.neg_out b j))

pub and_in : (ty : IntTy) (a b : ℤ) → IsIn ty a → IsIn ty b → IsIn ty (bits_and a b)
and_in ty a b i j = let r = room ty in and_room ty r.0 r.1 a b i j

pub or_in : (ty : IntTy) (a b : ℤ) → IsIn ty a → IsIn ty b → IsIn ty (bits_or a b)
or_in ty a b i j = let r = room ty in or_room ty r.0 r.1 a b i j

pub xor_in : (ty : IntTy) (a b : ℤ) → IsIn ty a → IsIn ty b → IsIn ty (bits_xor a b)
xor_in ty a b i j = let r = room ty in xor_room ty r.0 r.1 a b i j
