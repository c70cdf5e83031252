-- What the parts of the meanings can fault with, and so each family.
use Rattle.std.proofs.Common.{ℤ, ◌+ℤ◌, ◌-ℤ◌, ◌*ℤ◌, neg_ℤ, unsigned_abs, pos, negsuc, zero, suc, Bool, true, false, List, [], ◌∷◌, Contains, Result, Ok, Err, if◌then◌else◌, refl, arith}
use Rattle.zw_num.specs.declared.int_ty.IntTy.{IntTy}
use Rattle.zw_num.specs.declared.int_ty.IntTy.TheVariants.{Sized, Comptime}
use Rattle.zw_num.specs.declared.num_fault.NumFault.{NumFault}
use Rattle.zw_num.specs.declared.num_fault.NumFault.TheVariants.{Overflow, DivZero, Remainder, ShiftAmount, ShiftBits, Truncated, Negative}
use Rattle.zw_num.specs.declared.operator.Arithmetic.{Arithmetic}
use Rattle.zw_num.specs.declared.operator.Arithmetic.TheVariants.{Add, Sub, Mul, AddWrap, SubWrap, MulWrap, AddSat, SubSat, MulSat}
use Rattle.zw_num.specs.declared.operator.Division.{Division}
use Rattle.zw_num.specs.declared.operator.Division.TheVariants.{Div, Rem, DivTrunc, DivFloor, DivExact, RemTrunc, Mod}
use Rattle.zw_num.specs.declared.operator.Shift.{Shift}
use Rattle.zw_num.specs.declared.operator.Shift.TheVariants.{Shl, Shr, ShlSat, ShlExact, ShrExact}
use Rattle.zw_num.specs.declared.operator.Unary.{Unary}
use Rattle.zw_num.specs.declared.operator.Unary.TheVariants.{Neg, NegWrap, BitNot, ByteSwap, BitReverse, Abs}
use Rattle.zw_num.specs.declared.operator.Cast.{Cast}
use Rattle.zw_num.specs.declared.operator.Cast.TheVariants.{As, IntCast, Truncate, BitCast, IntFromBool}
use Rattle.zw_num.specs.declared.operator.Operator.TheVariants as family
use Rattle.zw_num.specs.Arithmetic.{is_in, exact, truncated, floored, rest_of, divided, without_rest, exact_quotient, power, is_amount, shifted, kept, none_lost, none_dropped}
use Rattle.zw_num.specs.Meanings.{arithmetic, division, shift, unary, converted, faults_in, FaultsAmong}

first : (x : NumFault) (xs : List NumFault) → Contains (x ∷ xs) x
first x xs = (0, omega arith, refl)

second : (x y : NumFault) (xs : List NumFault) → Contains (y ∷ x ∷ xs) x
second x y xs = (1, omega arith, refl)

third : (x y z : NumFault) (xs : List NumFault) → Contains (z ∷ y ∷ x ∷ xs) x
third x y z xs = (2, omega arith, refl)

fourth : (x y z w : NumFault) (xs : List NumFault) → Contains (w ∷ z ∷ y ∷ x ∷ xs) x
fourth x y z w xs = (3, omega arith, refl)

-- ---- the parts

tested : (among : List NumFault) (test : Bool) (result : Result ℤ NumFault) (fault : NumFault) →
    FaultsAmong among result → Contains among fault → FaultsAmong among (if test then result else Err fault)
tested among true result fault told has = told
tested among false result fault told has = has

exact_told : (among : List NumFault) (ty : IntTy) (z : ℤ) → Contains among Overflow → FaultsAmong among (exact ty z)
exact_told among ty z has = tested among (is_in ty z) (Ok z) Overflow tt has

divided_told : (among : List NumFault) (b : ℤ) (result : Result ℤ NumFault) → Contains among DivZero → FaultsAmong among result →
    FaultsAmong among (divided b result)
divided_told among (pos zero) result has told = has
divided_told among (pos (suc n)) result has told = told
divided_told among (negsuc n) result has told = told

rest_told : (among : List NumFault) (rest : ℤ) (fault : NumFault) (z : ℤ) → Contains among fault → FaultsAmong among (without_rest rest fault (Ok z))
rest_told among (pos zero) fault z has = tt
rest_told among (pos (suc n)) fault z has = has
rest_told among (negsuc n) fault z has = has

-- ---- the families

pub arithmetic_told : (op : Arithmetic) (ty : IntTy) (a b : ℤ) → FaultsAmong (faults_in ty (family.Arithmetic op)) (arithmetic op ty a b)
arithmetic_told Add (Sized signed bits) a b = exact_told (Overflow ∷ []) (Sized signed bits) (a +ℤ b) (first Overflow [])
arithmetic_told Add Comptime a b = exact_told (Overflow ∷ Overflow ∷ []) Comptime (a +ℤ b) (first Overflow (Overflow ∷ []))
arithmetic_told AddWrap (Sized signed bits) a b = tt
arithmetic_told AddWrap Comptime a b = exact_told (Overflow ∷ []) Comptime (a +ℤ b) (first Overflow [])
arithmetic_told AddSat (Sized signed bits) a b = tt
arithmetic_told AddSat Comptime a b = exact_told (Overflow ∷ []) Comptime (a +ℤ b) (first Overflow [])
arithmetic_told Sub (Sized signed bits) a b = exact_told (Overflow ∷ []) (Sized signed bits) (a -ℤ b) (first Overflow [])
arithmetic_told Sub Comptime a b = exact_told (Overflow ∷ Overflow ∷ []) Comptime (a -ℤ b) (first Overflow (Overflow ∷ []))
arithmetic_told SubWrap (Sized signed bits) a b = tt
arithmetic_told SubWrap Comptime a b = exact_told (Overflow ∷ []) Comptime (a -ℤ b) (first Overflow [])
arithmetic_told SubSat (Sized signed bits) a b = tt
arithmetic_told SubSat Comptime a b = exact_told (Overflow ∷ []) Comptime (a -ℤ b) (first Overflow [])
arithmetic_told Mul (Sized signed bits) a b = exact_told (Overflow ∷ []) (Sized signed bits) (a *ℤ b) (first Overflow [])
arithmetic_told Mul Comptime a b = exact_told (Overflow ∷ Overflow ∷ []) Comptime (a *ℤ b) (first Overflow (Overflow ∷ []))
arithmetic_told MulWrap (Sized signed bits) a b = tt
arithmetic_told MulWrap Comptime a b = exact_told (Overflow ∷ []) Comptime (a *ℤ b) (first Overflow [])
arithmetic_told MulSat (Sized signed bits) a b = tt
arithmetic_told MulSat Comptime a b = exact_told (Overflow ∷ []) Comptime (a *ℤ b) (first Overflow [])

quotient_told : (among : List NumFault) (ty : IntTy) (a b q : ℤ) → Contains among DivZero → Contains among Overflow →
    FaultsAmong among (divided b (exact ty q))
quotient_told among ty a b q zero_told over = divided_told among b (exact ty q) zero_told (exact_told among ty q over)

exact_quotient_told : (among : List NumFault) (ty : IntTy) (a b : ℤ) → Contains among DivZero → Contains among Overflow → Contains among Remainder →
    FaultsAmong among (divided b (exact_quotient ty a b))
exact_quotient_told among ty a b zero_told over left =
    divided_told among b (exact_quotient ty a b) zero_told
    (tested among (is_in ty (truncated a b)) (without_rest (rest_of a b (truncated a b)) Remainder (Ok (truncated a b))) Overflow (rest_told among (rest_of a b (truncated a b)) Remainder (truncated a b) left) over)

pub division_told : (op : Division) (ty : IntTy) (a b : ℤ) → FaultsAmong (faults_in ty (family.Division op)) (division op ty a b)
division_told Div (Sized signed bits) a b = quotient_told (DivZero ∷ Overflow ∷ []) (Sized signed bits) a b (truncated a b) (first DivZero (Overflow ∷ [])) (second Overflow DivZero [])
division_told DivTrunc (Sized signed bits) a b = quotient_told (DivZero ∷ Overflow ∷ []) (Sized signed bits) a b (truncated a b) (first DivZero (Overflow ∷ [])) (second Overflow DivZero [])
division_told DivFloor (Sized signed bits) a b = quotient_told (DivZero ∷ Overflow ∷ []) (Sized signed bits) a b (floored a b) (first DivZero (Overflow ∷ [])) (second Overflow DivZero [])
division_told DivExact (Sized signed bits) a b =
    exact_quotient_told (DivZero ∷ Overflow ∷ Remainder ∷ []) (Sized signed bits) a b (first DivZero (Overflow ∷ Remainder ∷ [])) (second Overflow DivZero (Remainder ∷ [])) (third Remainder Overflow DivZero [])
division_told Rem (Sized signed bits) a b = divided_told (DivZero ∷ []) b (Ok (rest_of a b (truncated a b))) (first DivZero []) tt
division_told RemTrunc (Sized signed bits) a b = divided_told (DivZero ∷ []) b (Ok (rest_of a b (truncated a b))) (first DivZero []) tt
division_told Mod (Sized signed bits) a b = divided_told (DivZero ∷ []) b (Ok (rest_of a b (floored a b))) (first DivZero []) tt
division_told Div Comptime a b = quotient_told (Overflow ∷ DivZero ∷ Overflow ∷ []) Comptime a b (truncated a b) (second DivZero Overflow (Overflow ∷ [])) (first Overflow (DivZero ∷ Overflow ∷ []))
division_told DivTrunc Comptime a b = quotient_told (Overflow ∷ DivZero ∷ Overflow ∷ []) Comptime a b (truncated a b) (second DivZero Overflow (Overflow ∷ [])) (first Overflow (DivZero ∷ Overflow ∷ []))
division_told DivFloor Comptime a b = quotient_told (Overflow ∷ DivZero ∷ Overflow ∷ []) Comptime a b (floored a b) (second DivZero Overflow (Overflow ∷ [])) (first Overflow (DivZero ∷ Overflow ∷ []))
division_told DivExact Comptime a b =
    exact_quotient_told (Overflow ∷ DivZero ∷ Overflow ∷ Remainder ∷ []) Comptime a b (second DivZero Overflow (Overflow ∷ Remainder ∷ [])) (first Overflow (DivZero ∷ Overflow ∷ Remainder ∷ [])) (fourth Remainder Overflow DivZero Overflow [])
division_told Rem Comptime a b = divided_told (Overflow ∷ DivZero ∷ []) b (Ok (rest_of a b (truncated a b))) (second DivZero Overflow []) tt
division_told RemTrunc Comptime a b = divided_told (Overflow ∷ DivZero ∷ []) b (Ok (rest_of a b (truncated a b))) (second DivZero Overflow []) tt
division_told Mod Comptime a b = divided_told (Overflow ∷ DivZero ∷ []) b (Ok (rest_of a b (floored a b))) (second DivZero Overflow []) tt

shifted_told : (among : List NumFault) (ty : IntTy) (amount : ℤ) (result : Result ℤ NumFault) → FaultsAmong among result → Contains among ShiftAmount →
    FaultsAmong among (shifted ty amount result)
shifted_told among ty amount result told has = tested among (is_amount ty amount) result ShiftAmount told has

pub shift_told : (op : Shift) (ty : IntTy) (a b : ℤ) → FaultsAmong (faults_in ty (family.Shift op)) (shift op ty a b)
shift_told Shl (Sized signed bits) a b = shifted_told (ShiftAmount ∷ []) (Sized signed bits) b (kept (Sized signed bits) (a *ℤ power b)) tt (first ShiftAmount [])
shift_told Shr (Sized signed bits) a b = shifted_told (ShiftAmount ∷ []) (Sized signed bits) b (Ok (floored a (power b))) tt (first ShiftAmount [])
shift_told ShlSat (Sized signed bits) a b = tt
shift_told ShlExact (Sized signed bits) a b =
    shifted_told (ShiftAmount ∷ ShiftBits ∷ []) (Sized signed bits) b (none_lost (Sized signed bits) (a *ℤ power b)) (tested (ShiftAmount ∷ ShiftBits ∷ []) (is_in (Sized signed bits) (a *ℤ power b)) (Ok (a *ℤ power b)) ShiftBits tt (second ShiftBits ShiftAmount [])) (first ShiftAmount (ShiftBits ∷ []))
shift_told ShrExact (Sized signed bits) a b =
    shifted_told (ShiftAmount ∷ ShiftBits ∷ []) (Sized signed bits) b (none_dropped a (power b))
    (rest_told (ShiftAmount ∷ ShiftBits ∷ []) (rest_of a (power b) (floored a (power b))) ShiftBits (floored a (power b)) (second ShiftBits ShiftAmount [])) (first ShiftAmount (ShiftBits ∷ []))
shift_told Shl Comptime a b = shifted_told (Overflow ∷ ShiftAmount ∷ []) Comptime b (kept Comptime (a *ℤ power b)) (exact_told (Overflow ∷ ShiftAmount ∷ []) Comptime (a *ℤ power b) (first Overflow (ShiftAmount ∷ []))) (second ShiftAmount Overflow [])
shift_told Shr Comptime a b = shifted_told (Overflow ∷ ShiftAmount ∷ []) Comptime b (Ok (floored a (power b))) tt (second ShiftAmount Overflow [])
shift_told ShlSat Comptime a b = exact_told (Overflow ∷ []) Comptime (a *ℤ power b) (first Overflow [])
shift_told ShlExact Comptime a b =
    shifted_told (Overflow ∷ ShiftAmount ∷ ShiftBits ∷ []) Comptime b (none_lost Comptime (a *ℤ power b)) (exact_told (Overflow ∷ ShiftAmount ∷ ShiftBits ∷ []) Comptime (a *ℤ power b) (first Overflow (ShiftAmount ∷ ShiftBits ∷ []))) (second ShiftAmount Overflow (ShiftBits ∷ []))
shift_told ShrExact Comptime a b =
    shifted_told (Overflow ∷ ShiftAmount ∷ ShiftBits ∷ []) Comptime b (none_dropped a (power b))
    (rest_told (Overflow ∷ ShiftAmount ∷ ShiftBits ∷ []) (rest_of a (power b) (floored a (power b))) ShiftBits (floored a (power b)) (third ShiftBits ShiftAmount Overflow [])) (second ShiftAmount Overflow (ShiftBits ∷ []))

pub unary_told : (op : Unary) (own ty : IntTy) (a : ℤ) → FaultsAmong (faults_in ty (family.Unary op)) (unary op own ty a)
unary_told Neg own (Sized signed bits) a = exact_told (Overflow ∷ []) (Sized signed bits) (neg_ℤ a) (first Overflow [])
unary_told Neg own Comptime a = exact_told (Overflow ∷ Overflow ∷ []) Comptime (neg_ℤ a) (first Overflow (Overflow ∷ []))
unary_told Abs own (Sized signed bits) a = exact_told (Overflow ∷ []) (Sized signed bits) (pos (unsigned_abs a)) (first Overflow [])
unary_told Abs own Comptime a = exact_told (Overflow ∷ Overflow ∷ []) Comptime (pos (unsigned_abs a)) (first Overflow (Overflow ∷ []))
unary_told NegWrap own (Sized signed bits) a = tt
unary_told NegWrap own Comptime a = exact_told (Overflow ∷ []) Comptime (neg_ℤ a) (first Overflow [])
unary_told BitNot own ty a = tt
unary_told ByteSwap own ty a = tt
unary_told BitReverse own ty a = tt

pub converted_told : (op : Cast) (ty : IntTy) (a : ℤ) → FaultsAmong (faults_in ty (family.Cast op)) (converted op ty a)
converted_told As ty a = tt
converted_told IntCast (Sized false bits) (negsuc n) = second Negative Truncated []
converted_told IntCast (Sized false bits) (pos n) = tested (Truncated ∷ Negative ∷ []) (is_in (Sized false bits) (pos n)) (Ok (pos n)) Truncated tt (first Truncated (Negative ∷ []))
converted_told IntCast (Sized true bits) a = tested (Truncated ∷ Negative ∷ []) (is_in (Sized true bits) a) (Ok a) Truncated tt (first Truncated (Negative ∷ []))
converted_told IntCast Comptime a = tested (Overflow ∷ Truncated ∷ Negative ∷ []) (is_in Comptime a) (Ok a) Truncated tt (second Truncated Overflow (Negative ∷ []))
converted_told Truncate ty a = tt
converted_told BitCast ty a = tt
converted_told IntFromBool ty a = tt
