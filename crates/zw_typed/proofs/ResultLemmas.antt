-- What an operator gives on numbers is a number of its result type.
use Rattle.std.proofs.Common.{◌≡◌, ℕ, zero, suc, ◌/◌, ◌^◌, ◌<◌, ◌≤◌, ℤ, pos, negsuc, neg_ℤ, ◌+ℤ◌, ◌-ℤ◌, ◌*ℤ◌, ◌≤ℤ◌, Bool, true, false, refl, sym, subst, arith}
use Rattle.std.specs.Prelude.{Result, Ok, Err, int_rem, unsigned_abs, if◌then◌else◌}
use Rattle.std.specs.Int.{int_min, int_max}
use Rattle.std.proofs.lemmas.Int.{ints}
use Rattle.std.proofs.Math.Nat.{div-le_self}
use Rattle.std.proofs.lemmas.Nat.{pow_pos, leading_le, trailing_le}
use Rattle.zw_num.specs.declared.int_ty.IntTy.{IntTy}
use Rattle.zw_num.specs.declared.int_ty.IntTy.TheVariants.{Sized, Comptime}
use Rattle.zw_num.specs.declared.num_fault.NumFault.{NumFault}
use Rattle.zw_num.specs.declared.num_fault.NumFault.TheVariants as fault
use Rattle.zw_num.specs.declared.operator.Arithmetic.{Arithmetic}
use Rattle.zw_num.specs.declared.operator.Arithmetic.TheVariants as sum
use Rattle.zw_num.specs.declared.operator.Bitwise.{Bitwise}
use Rattle.zw_num.specs.declared.operator.Bitwise.TheVariants as bitwise_op
use Rattle.zw_num.specs.declared.operator.Count.{Count}
use Rattle.zw_num.specs.declared.operator.Count.TheVariants as counts
use Rattle.zw_num.specs.declared.operator.Division.{Division}
use Rattle.zw_num.specs.declared.operator.Division.TheVariants as quotient
use Rattle.zw_num.specs.declared.operator.Extreme.{Extreme}
use Rattle.zw_num.specs.declared.operator.Extreme.TheVariants as extremes
use Rattle.zw_num.specs.declared.operator.Shift.{Shift}
use Rattle.zw_num.specs.declared.operator.Shift.TheVariants as by
use Rattle.zw_num.specs.declared.operator.Unary.{Unary}
use Rattle.zw_num.specs.declared.operator.Unary.TheVariants as one
use Rattle.zw_num.specs.Arithmetic.{IsType, IsIn, least, greatest, width, is_in, exact, cast_to, truncated, floored, rest_of, divided, without_rest, exact_quotient, power, is_amount, shifted, kept, none_lost, none_dropped, pattern, reversed, bits_not}
use Rattle.zw_num.specs.Meanings.{wrapping, saturating, arithmetic, division, bitwise, shift, unary, counted, extreme}
use Rattle.zw_num.proofs.WrappedLemmas.{in_from_test, wrapped_in}
use Rattle.zw_num.proofs.BitLemmas.{and_in, or_in, xor_in}
use Rattle.zw_num.proofs.DivisionLemmas.{rest_is, rest_less, rest_same, rem_in, modulo_in, is_across}
use Rattle.zw_num.proofs.CountLaws.{all_bits}

-- ---- results are in a type

abbrev pub ResultIn : IntTy → Result ℤ NumFault → Type 0
ResultIn ty (Ok z) = IsIn ty z
ResultIn ty (Err e) = Unit {0}

pub tested-in : (ty : IntTy) (z : ℤ) (e : NumFault) → ResultIn ty (if is_in ty z then Ok z else Err e)
tested-in ty z e = by_test (is_in ty z) refl
  where
    by_test : (there : Bool) → is_in ty z ≡ there → ResultIn ty (if there then Ok z else Err e)
    by_test true is = in_from_test ty z is
    by_test false is = tt

pub exact-in : (ty : IntTy) (z : ℤ) → ResultIn ty (exact ty z)
exact-in ty z = tested-in ty z fault.Overflow

pub wrapping-in : (ty : IntTy) (z : ℤ) → ResultIn ty (wrapping ty z)
wrapping-in (Sized signed bits) z = wrapped_in signed bits z
wrapping-in Comptime z = exact-in Comptime z

ends_in_order : (signed : Bool) (bits : ℕ) → least (Sized signed bits) ≤ℤ greatest (Sized signed bits)
ends_in_order false bits = omega (arith, ints)
ends_in_order true bits = omega (arith, ints)

nearest-in : (low high z : ℤ) → low ≤ℤ high → (low ≤ℤ int_max low (int_min z high)) × (int_max low (int_min z high) ≤ℤ high)
nearest-in low high z order = (grind (arith, ints), grind (arith, ints))

pub saturating-in : (ty : IntTy) (z : ℤ) → ResultIn ty (saturating ty z)
saturating-in (Sized signed bits) z =
    let near = nearest-in (least (Sized signed bits)) (greatest (Sized signed bits)) z (ends_in_order signed bits) in
    record { at_least = near.0; at_most = near.1 }
saturating-in Comptime z = exact-in Comptime z

pub divided-in : (ty : IntTy) (b : ℤ) (r : Result ℤ NumFault) → ((b ≡ pos 0 → ⊥) → ResultIn ty r) → ResultIn ty (divided b r)
divided-in ty (pos zero) r i = tt
divided-in ty (pos (suc n)) r i = i (λ e. cc)
divided-in ty (negsuc n) r i = i (λ e. cc)

pub without_rest-in : (ty : IntTy) (r : ℤ) (e : NumFault) (answer : Result ℤ NumFault) → ResultIn ty answer → ResultIn ty (without_rest r e answer)
without_rest-in ty (pos zero) e answer i = i
without_rest-in ty (pos (suc n)) e answer i = tt
without_rest-in ty (negsuc n) e answer i = tt

pub exact_quotient-in : (ty : IntTy) (a b : ℤ) → ResultIn ty (exact_quotient ty a b)
exact_quotient-in ty a b = by_test (is_in ty (truncated a b)) refl
  where
    by_test : (there : Bool) → is_in ty (truncated a b) ≡ there → ResultIn ty (if there then without_rest (rest_of a b (truncated a b)) fault.Remainder (Ok (truncated a b)) else Err fault.Overflow)
    by_test true is = without_rest-in ty (rest_of a b (truncated a b)) fault.Remainder (Ok (truncated a b)) (in_from_test ty (truncated a b) is)
    by_test false is = tt

rest-in : (ty : IntTy) → IsType ty → (a b : ℤ) → IsIn ty a → IsIn ty (rest_of a b (truncated a b))
rest-in ty h a b i = subst (λ (z : ℤ). IsIn ty z) (sym (rest_is a b)) (rem_in ty h a b i)

modulo-in : (ty : IntTy) → IsType ty → (a b : ℤ) → (b ≡ pos 0 → ⊥) → IsIn ty a → IsIn ty b → IsIn ty (rest_of a b (floored a b))
modulo-in ty h a b n i j = by_side (is_across (int_rem a b) b) refl
  where
    by_side : (across : Bool) → is_across (int_rem a b) b ≡ across → IsIn ty (rest_of a b (floored a b))
    by_side true e = subst (λ (z : ℤ). IsIn ty z) (sym (rest_less a b n e)) (modulo_in ty h a b n j e)
    by_side false e = subst (λ (z : ℤ). IsIn ty z) (sym (rest_same a b n e)) (rem_in ty h a b i)

pub arithmetic-in : (op : Arithmetic) (ty : IntTy) (a b : ℤ) → ResultIn ty (arithmetic op ty a b)
arithmetic-in sum.Add ty a b = exact-in ty (a +ℤ b)
arithmetic-in sum.Sub ty a b = exact-in ty (a -ℤ b)
arithmetic-in sum.Mul ty a b = exact-in ty (a *ℤ b)
arithmetic-in sum.AddWrap ty a b = wrapping-in ty (a +ℤ b)
arithmetic-in sum.SubWrap ty a b = wrapping-in ty (a -ℤ b)
arithmetic-in sum.MulWrap ty a b = wrapping-in ty (a *ℤ b)
arithmetic-in sum.AddSat ty a b = saturating-in ty (a +ℤ b)
arithmetic-in sum.SubSat ty a b = saturating-in ty (a -ℤ b)
arithmetic-in sum.MulSat ty a b = saturating-in ty (a *ℤ b)

pub division-in : (op : Division) (ty : IntTy) → IsType ty → (a b : ℤ) → IsIn ty a → IsIn ty b → ResultIn ty (division op ty a b)
division-in quotient.Div ty h a b i j = divided-in ty b (exact ty (truncated a b)) (λ n. exact-in ty (truncated a b))
division-in quotient.Rem ty h a b i j = divided-in ty b (Ok (rest_of a b (truncated a b))) (λ n. rest-in ty h a b i)
division-in quotient.DivTrunc ty h a b i j = divided-in ty b (exact ty (truncated a b)) (λ n. exact-in ty (truncated a b))
division-in quotient.DivFloor ty h a b i j = divided-in ty b (exact ty (floored a b)) (λ n. exact-in ty (floored a b))
division-in quotient.DivExact ty h a b i j = divided-in ty b (exact_quotient ty a b) (λ n. exact_quotient-in ty a b)
division-in quotient.RemTrunc ty h a b i j = divided-in ty b (Ok (rest_of a b (truncated a b))) (λ n. rest-in ty h a b i)
division-in quotient.Mod ty h a b i j = divided-in ty b (Ok (rest_of a b (floored a b))) (λ n. modulo-in ty h a b n i j)

pub bitwise-in : (op : Bitwise) (ty : IntTy) (a b : ℤ) → IsIn ty a → IsIn ty b → IsIn ty (bitwise op a b)
bitwise-in bitwise_op.And ty a b i j = and_in ty a b i j
bitwise-in bitwise_op.Or ty a b i j = or_in ty a b i j
bitwise-in bitwise_op.Xor ty a b i j = xor_in ty a b i j

shifted-in : (ty : IntTy) (b : ℤ) (r : Result ℤ NumFault) → ResultIn ty r → ResultIn ty (shifted ty b r)
shifted-in ty b r i = by_test (is_amount ty b)
  where
    by_test : (fine : Bool) → ResultIn ty (if fine then r else Err fault.ShiftAmount)
    by_test true = i
    by_test false = tt

around_zero : (ty : IntTy) → (least ty ≤ℤ pos 0) × (pos 0 ≤ℤ greatest ty)
around_zero (Sized false bits) = (omega (arith, ints), omega (arith, ints))
around_zero (Sized true bits) = (omega (arith, ints), omega (arith, ints))
around_zero Comptime = (omega (arith, ints), omega (arith, ints))

-- a number divided by a whole number above 0 lies between 0 or -1 and it
dropped-in : (ty : IntTy) (a : ℤ) (p : ℕ) → 0 < p → IsIn ty a → IsIn ty (floored a (pos p))
dropped-in ty (pos n) p h i = let ends = around_zero ty in record { at_least = omega (arith, ints, ends.0, ends.1, i.at_least, i.at_most); at_most = omega (arith, ints, ends.0, ends.1, i.at_least, i.at_most, div-le_self n p) }
dropped-in ty (negsuc n) p h i = let ends = around_zero ty in record { at_least = omega (arith, ints, ends.0, ends.1, i.at_least, i.at_most, div-le_self n p); at_most = omega (arith, ints, ends.0, ends.1, i.at_least, i.at_most) }

drop-in : (ty : IntTy) (a b : ℤ) → IsIn ty a → IsIn ty (floored a (power b))
unfolding power
drop-in ty a b i = dropped-in ty a (2 ^ unsigned_abs b) (pow_pos (unsigned_abs b)) i

kept-in : (ty : IntTy) (z : ℤ) → ResultIn ty (kept ty z)
kept-in (Sized signed bits) z = wrapped_in signed bits z
kept-in Comptime z = exact-in Comptime z

none_lost-in : (ty : IntTy) (z : ℤ) → ResultIn ty (none_lost ty z)
none_lost-in (Sized signed bits) z = tested-in (Sized signed bits) z fault.ShiftBits
none_lost-in Comptime z = exact-in Comptime z

pub shift-in : (op : Shift) (ty : IntTy) (a b : ℤ) → IsIn ty a → ResultIn ty (shift op ty a b)
shift-in by.Shl ty a b i = shifted-in ty b (kept ty (a *ℤ power b)) (kept-in ty (a *ℤ power b))
shift-in by.Shr ty a b i = shifted-in ty b (Ok (floored a (power b))) (drop-in ty a b i)
shift-in by.ShlSat ty a b i = saturating-in ty (a *ℤ power b)
shift-in by.ShlExact ty a b i = shifted-in ty b (none_lost ty (a *ℤ power b)) (none_lost-in ty (a *ℤ power b))
shift-in by.ShrExact ty a b i =
    shifted-in ty b (none_dropped a (power b)) (without_rest-in ty (rest_of a (power b) (floored a (power b))) fault.ShiftBits (Ok (floored a (power b))) (drop-in ty a b i))

pub cast-in : (ty : IntTy) (z : ℤ) → ResultIn ty (cast_to ty z)
cast-in (Sized false bits) (negsuc n) = tt
cast-in (Sized false bits) (pos n) = tested-in (Sized false bits) (pos n) fault.Truncated
cast-in (Sized true bits) z = tested-in (Sized true bits) z fault.Truncated
cast-in Comptime z = tested-in Comptime z fault.Truncated

pub unary-in : (op : Unary) (from : IntTy) (signed : Bool) (bits : ℕ) (a : ℤ) → ResultIn (Sized signed bits) (unary op from (Sized signed bits) a)
unary-in one.Neg from signed bits a = exact-in (Sized signed bits) (neg_ℤ a)
unary-in one.NegWrap from signed bits a = wrapping-in (Sized signed bits) (neg_ℤ a)
unary-in one.BitNot from signed bits a = wrapped_in signed bits (bits_not a)
unary-in one.ByteSwap from signed bits a = wrapped_in signed bits (pos (reversed 256 (width from / 8) (pattern (width from) a)))
unary-in one.BitReverse from signed bits a = wrapped_in signed bits (pos (reversed 2 (width from) (pattern (width from) a)))
unary-in one.Abs from signed bits a = exact-in (Sized signed bits) (pos (unsigned_abs a))

-- ---- counts, the least and the greatest

pub counted_le : (count : Count) (bits : ℕ) (z : ℤ) → counted count bits (pattern bits z) ≤ bits
counted_le counts.Clz bits z = leading_le bits (pattern bits z)
counted_le counts.Ctz bits z = trailing_le bits (pattern bits z)
counted_le counts.PopCount bits z = omega (arith, all_bits bits z)

pub one_of-in : (op : Extreme) (ty : IntTy) (a b : ℤ) → IsIn ty a → IsIn ty b → IsIn ty (extreme op a b)
one_of-in extremes.Min ty a b i j = record { at_least = grind (arith, ints, i.at_least, j.at_least); at_most = grind (arith, ints, i.at_most, j.at_most) }
one_of-in extremes.Max ty a b i j = record { at_least = grind (arith, ints, i.at_least, j.at_least); at_most = grind (arith, ints, i.at_most, j.at_most) }
