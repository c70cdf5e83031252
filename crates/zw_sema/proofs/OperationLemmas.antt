-- What an operator gives is a value of its result type.
use Rattle.std.proofs.Common.{◌≡◌, refl, ℕ, zero, suc, ◌/◌, ◌^◌, ◌<◌, ◌≤◌, ℤ, pos, negsuc, neg_ℤ, ◌+ℤ◌, ◌-ℤ◌, ◌*ℤ◌, ◌≤ℤ◌, Bool, true, false, List, [], ◌∷◌, sym, subst, arith}
use Rattle.std.specs.Prelude.{Result, Ok, Err, int_rem, unsigned_abs, if◌then◌else◌, not}
use Rattle.std.specs.Int.{int_min, int_max}
use Rattle.std.proofs.lemmas.Int.{ints}
use Rattle.std.proofs.Math.Nat.{div-le_self}
use Rattle.std.proofs.lemmas.Nat.{pow_pos, leading_le, trailing_le}
use Rattle.zw_num.specs.declared.int_ty.IntTy.{IntTy}
use Rattle.zw_num.specs.declared.int_ty.IntTy.TheVariants.{Sized, Comptime}
use Rattle.zw_num.specs.declared.num_fault.NumFault.{NumFault}
use Rattle.zw_num.specs.declared.num_fault.NumFault.TheVariants as fault
use Rattle.zw_num.specs.declared.operator.Arithmetic.{Arithmetic}
use Rattle.zw_num.specs.declared.operator.Arithmetic.TheVariants as sum
use Rattle.zw_num.specs.declared.operator.Bitwise.{Bitwise}
use Rattle.zw_num.specs.declared.operator.Bitwise.TheVariants as bitwise_op
use Rattle.zw_num.specs.declared.operator.Cast.{Cast}
use Rattle.zw_num.specs.declared.operator.Cast.TheVariants as cast
use Rattle.zw_num.specs.declared.operator.Comparison.{Comparison}
use Rattle.zw_num.specs.declared.operator.Comparison.TheVariants as order
use Rattle.zw_num.specs.declared.operator.Count.{Count}
use Rattle.zw_num.specs.declared.operator.Count.TheVariants as counts
use Rattle.zw_num.specs.declared.operator.Division.{Division}
use Rattle.zw_num.specs.declared.operator.Division.TheVariants as quotient
use Rattle.zw_num.specs.declared.operator.Extreme.{Extreme}
use Rattle.zw_num.specs.declared.operator.Extreme.TheVariants as extremes
use Rattle.zw_num.specs.declared.operator.Logic.TheVariants as logic
use Rattle.zw_num.specs.declared.operator.Operator.TheVariants as family
use Rattle.zw_num.specs.declared.operator.Shift.{Shift}
use Rattle.zw_num.specs.declared.operator.Shift.TheVariants as by
use Rattle.zw_num.specs.declared.operator.Unary.{Unary}
use Rattle.zw_num.specs.declared.operator.Unary.TheVariants as one
use Rattle.zw_num.specs.Arithmetic.{IsType, IsIn, least, greatest, width, is_in, exact, cast_to, truncated, floored, rest_of, divided, without_rest, exact_quotient, power, is_amount, shifted, kept, none_lost, none_dropped, pattern, reversed, bits_not}
use Rattle.zw_num.specs.Meanings.{wrapping, saturating, arithmetic, division, bitwise, shift, unary, compared, counted, extreme, converted}
use Rattle.zw_num.proofs.WrappedLemmas.{in_from_test, wrapped_in}
use Rattle.zw_num.proofs.BitLemmas.{and_in, or_in, xor_in}
use Rattle.zw_num.proofs.DivisionLemmas.{rest_is, rest_less, rest_same, rem_in, modulo_in, is_across}
use Rattle.zw_num.proofs.CountLaws.{all_bits}
use Rattle.zw_types.specs.TypeTrees as tree
use Rattle.zw_types.specs.TypeTrees.{TypeTree, ValueTree}
use Rattle.zw_values.specs.Sameness.{is_same}
use Rattle.zw_values.specs.Applied.{Gives, outcome_of, outcome_of_fault, of_two_numbers, of_number, on_integers, on_integer, equality, compared_values, extreme_from, extreme_of, negated, int_from_bool, applied}
use Rattle.zw_typed.specs.ValueTypes.{HasWidths, IsNumberIn, IsTruth, IsValueOf, AreValuesOf}

-- ---- results are in a type

abbrev pub ResultIn : IntTy → Result ℤ NumFault → Type 0
ResultIn ty (Ok z) = IsIn ty z
ResultIn ty (Err e) = Unit {0}

pub fault_is_none : (ty : IntTy) (e : NumFault) (v : ValueTree) → outcome_of_fault ty e ≡ Gives v → ⊥
fault_is_none Comptime fault.Overflow v is = cc
fault_is_none (Sized signed bits) fault.Overflow v is = cc
fault_is_none ty fault.DivZero v is = cc
fault_is_none ty fault.Remainder v is = cc
fault_is_none ty fault.ShiftAmount v is = cc
fault_is_none ty fault.ShiftBits v is = cc
fault_is_none ty fault.Truncated v is = cc
fault_is_none ty fault.Negative v is = cc

given_is : (u v : ValueTree) → Gives u ≡ Gives v → u ≡ v
given_is u v e = cc

pub outcome-in : (ty : IntTy) (r : Result ℤ NumFault) → ResultIn ty r → (v : ValueTree) → outcome_of ty r ≡ Gives v → IsNumberIn ty v
outcome-in ty (Ok z) i v e = subst (λ (u : ValueTree). IsNumberIn ty u) (given_is (tree.NumberValue z) v e) i
outcome-in ty (Err e) i v is = absurd (fault_is_none ty e v is)

pub tested-in : (ty : IntTy) (z : ℤ) (e : NumFault) → ResultIn ty (if is_in ty z then Ok z else Err e)
tested-in ty z e = by_test (is_in ty z) refl
  where
    by_test : (there : Bool) → is_in ty z ≡ there → ResultIn ty (if there then Ok z else Err e)
    by_test true is = in_from_test ty z is
    by_test false is = tt

pub exact-in : (ty : IntTy) (z : ℤ) → ResultIn ty (exact ty z)
exact-in ty z = tested-in ty z fault.Overflow

pub wrapping-in : (ty : IntTy) (z : ℤ) → ResultIn ty (wrapping ty z)
wrapping-in (Sized signed bits) z = wrapped_in signed bits z
wrapping-in Comptime z = exact-in Comptime z

ends_in_order : (signed : Bool) (bits : ℕ) → least (Sized signed bits) ≤ℤ greatest (Sized signed bits)
ends_in_order false bits = omega (arith, ints)
ends_in_order true bits = omega (arith, ints)

nearest-in : (low high z : ℤ) → low ≤ℤ high → (low ≤ℤ int_max low (int_min z high)) × (int_max low (int_min z high) ≤ℤ high)
nearest-in low high z order = (grind (arith, ints), grind (arith, ints))

pub saturating-in : (ty : IntTy) (z : ℤ) → ResultIn ty (saturating ty z)
saturating-in (Sized signed bits) z =
    let near = nearest-in (least (Sized signed bits)) (greatest (Sized signed bits)) z (ends_in_order signed bits) in
    record { at_least = near.0; at_most = near.1 }
saturating-in Comptime z = exact-in Comptime z

pub divided-in : (ty : IntTy) (b : ℤ) (r : Result ℤ NumFault) → ((b ≡ pos 0 → ⊥) → ResultIn ty r) → ResultIn ty (divided b r)
divided-in ty (pos zero) r i = tt
divided-in ty (pos (suc n)) r i = i (λ e. cc)
divided-in ty (negsuc n) r i = i (λ e. cc)

pub without_rest-in : (ty : IntTy) (r : ℤ) (e : NumFault) (answer : Result ℤ NumFault) → ResultIn ty answer → ResultIn ty (without_rest r e answer)
without_rest-in ty (pos zero) e answer i = i
without_rest-in ty (pos (suc n)) e answer i = tt
without_rest-in ty (negsuc n) e answer i = tt

pub exact_quotient-in : (ty : IntTy) (a b : ℤ) → ResultIn ty (exact_quotient ty a b)
exact_quotient-in ty a b = by_test (is_in ty (truncated a b)) refl
  where
    by_test : (there : Bool) → is_in ty (truncated a b) ≡ there → ResultIn ty (if there then without_rest (rest_of a b (truncated a b)) fault.Remainder (Ok (truncated a b)) else Err fault.Overflow)
    by_test true is = without_rest-in ty (rest_of a b (truncated a b)) fault.Remainder (Ok (truncated a b)) (in_from_test ty (truncated a b) is)
    by_test false is = tt

rest-in : (ty : IntTy) → IsType ty → (a b : ℤ) → IsIn ty a → IsIn ty (rest_of a b (truncated a b))
rest-in ty h a b i = subst (λ (z : ℤ). IsIn ty z) (sym (rest_is a b)) (rem_in ty h a b i)

modulo-in : (ty : IntTy) → IsType ty → (a b : ℤ) → (b ≡ pos 0 → ⊥) → IsIn ty a → IsIn ty b → IsIn ty (rest_of a b (floored a b))
modulo-in ty h a b n i j = by_side (is_across (int_rem a b) b) refl
  where
    by_side : (across : Bool) → is_across (int_rem a b) b ≡ across → IsIn ty (rest_of a b (floored a b))
    by_side true e = subst (λ (z : ℤ). IsIn ty z) (sym (rest_less a b n e)) (modulo_in ty h a b n j e)
    by_side false e = subst (λ (z : ℤ). IsIn ty z) (sym (rest_same a b n e)) (rem_in ty h a b i)

pub arithmetic-in : (op : Arithmetic) (ty : IntTy) (a b : ℤ) → ResultIn ty (arithmetic op ty a b)
arithmetic-in sum.Add ty a b = exact-in ty (a +ℤ b)
arithmetic-in sum.Sub ty a b = exact-in ty (a -ℤ b)
arithmetic-in sum.Mul ty a b = exact-in ty (a *ℤ b)
arithmetic-in sum.AddWrap ty a b = wrapping-in ty (a +ℤ b)
arithmetic-in sum.SubWrap ty a b = wrapping-in ty (a -ℤ b)
arithmetic-in sum.MulWrap ty a b = wrapping-in ty (a *ℤ b)
arithmetic-in sum.AddSat ty a b = saturating-in ty (a +ℤ b)
arithmetic-in sum.SubSat ty a b = saturating-in ty (a -ℤ b)
arithmetic-in sum.MulSat ty a b = saturating-in ty (a *ℤ b)

pub division-in : (op : Division) (ty : IntTy) → IsType ty → (a b : ℤ) → IsIn ty a → IsIn ty b → ResultIn ty (division op ty a b)
division-in quotient.Div ty h a b i j = divided-in ty b (exact ty (truncated a b)) (λ n. exact-in ty (truncated a b))
division-in quotient.Rem ty h a b i j = divided-in ty b (Ok (rest_of a b (truncated a b))) (λ n. rest-in ty h a b i)
division-in quotient.DivTrunc ty h a b i j = divided-in ty b (exact ty (truncated a b)) (λ n. exact-in ty (truncated a b))
division-in quotient.DivFloor ty h a b i j = divided-in ty b (exact ty (floored a b)) (λ n. exact-in ty (floored a b))
division-in quotient.DivExact ty h a b i j = divided-in ty b (exact_quotient ty a b) (λ n. exact_quotient-in ty a b)
division-in quotient.RemTrunc ty h a b i j = divided-in ty b (Ok (rest_of a b (truncated a b))) (λ n. rest-in ty h a b i)
division-in quotient.Mod ty h a b i j = divided-in ty b (Ok (rest_of a b (floored a b))) (λ n. modulo-in ty h a b n i j)

pub bitwise-in : (op : Bitwise) (ty : IntTy) (a b : ℤ) → IsIn ty a → IsIn ty b → IsIn ty (bitwise op a b)
bitwise-in bitwise_op.And ty a b i j = and_in ty a b i j
bitwise-in bitwise_op.Or ty a b i j = or_in ty a b i j
bitwise-in bitwise_op.Xor ty a b i j = xor_in ty a b i j

shifted-in : (ty : IntTy) (b : ℤ) (r : Result ℤ NumFault) → ResultIn ty r → ResultIn ty (shifted ty b r)
shifted-in ty b r i = by_test (is_amount ty b)
  where
    by_test : (fine : Bool) → ResultIn ty (if fine then r else Err fault.ShiftAmount)
    by_test true = i
    by_test false = tt

around_zero : (ty : IntTy) → (least ty ≤ℤ pos 0) × (pos 0 ≤ℤ greatest ty)
around_zero (Sized false bits) = (omega (arith, ints), omega (arith, ints))
around_zero (Sized true bits) = (omega (arith, ints), omega (arith, ints))
around_zero Comptime = (omega (arith, ints), omega (arith, ints))

-- a number divided by a whole number above 0 lies between 0 or -1 and it
dropped-in : (ty : IntTy) (a : ℤ) (p : ℕ) → 0 < p → IsIn ty a → IsIn ty (floored a (pos p))
dropped-in ty (pos n) p h i = let ends = around_zero ty in record { at_least = omega (arith, ints, ends.0, ends.1, i.at_least, i.at_most); at_most = omega (arith, ints, ends.0, ends.1, i.at_least, i.at_most, div-le_self n p) }
dropped-in ty (negsuc n) p h i = let ends = around_zero ty in record { at_least = omega (arith, ints, ends.0, ends.1, i.at_least, i.at_most, div-le_self n p); at_most = omega (arith, ints, ends.0, ends.1, i.at_least, i.at_most) }

drop-in : (ty : IntTy) (a b : ℤ) → IsIn ty a → IsIn ty (floored a (power b))
unfolding power
drop-in ty a b i = dropped-in ty a (2 ^ unsigned_abs b) (pow_pos (unsigned_abs b)) i

kept-in : (ty : IntTy) (z : ℤ) → ResultIn ty (kept ty z)
kept-in (Sized signed bits) z = wrapped_in signed bits z
kept-in Comptime z = exact-in Comptime z

none_lost-in : (ty : IntTy) (z : ℤ) → ResultIn ty (none_lost ty z)
none_lost-in (Sized signed bits) z = tested-in (Sized signed bits) z fault.ShiftBits
none_lost-in Comptime z = exact-in Comptime z

pub shift-in : (op : Shift) (ty : IntTy) (a b : ℤ) → IsIn ty a → ResultIn ty (shift op ty a b)
shift-in by.Shl ty a b i = shifted-in ty b (kept ty (a *ℤ power b)) (kept-in ty (a *ℤ power b))
shift-in by.Shr ty a b i = shifted-in ty b (Ok (floored a (power b))) (drop-in ty a b i)
shift-in by.ShlSat ty a b i = saturating-in ty (a *ℤ power b)
shift-in by.ShlExact ty a b i = shifted-in ty b (none_lost ty (a *ℤ power b)) (none_lost-in ty (a *ℤ power b))
shift-in by.ShrExact ty a b i =
    shifted-in ty b (none_dropped a (power b)) (without_rest-in ty (rest_of a (power b) (floored a (power b))) fault.ShiftBits (Ok (floored a (power b))) (drop-in ty a b i))

cast-in : (ty : IntTy) (z : ℤ) → ResultIn ty (cast_to ty z)
cast-in (Sized false bits) (negsuc n) = tt
cast-in (Sized false bits) (pos n) = tested-in (Sized false bits) (pos n) fault.Truncated
cast-in (Sized true bits) z = tested-in (Sized true bits) z fault.Truncated
cast-in Comptime z = tested-in Comptime z fault.Truncated

pub unary-in : (op : Unary) (from : IntTy) (signed : Bool) (bits : ℕ) (a : ℤ) → ResultIn (Sized signed bits) (unary op from (Sized signed bits) a)
unary-in one.Neg from signed bits a = exact-in (Sized signed bits) (neg_ℤ a)
unary-in one.NegWrap from signed bits a = wrapping-in (Sized signed bits) (neg_ℤ a)
unary-in one.BitNot from signed bits a = wrapped_in signed bits (bits_not a)
unary-in one.ByteSwap from signed bits a = wrapped_in signed bits (pos (reversed 256 (width from / 8) (pattern (width from) a)))
unary-in one.BitReverse from signed bits a = wrapped_in signed bits (pos (reversed 2 (width from) (pattern (width from) a)))
unary-in one.Abs from signed bits a = exact-in (Sized signed bits) (pos (unsigned_abs a))

-- those that give a `comptime_int`
pub data IsWide : Unary → Type 0 where
  negates : IsWide one.Neg
  measures : IsWide one.Abs

pub wide-in : (op : Unary) → IsWide op → (from : IntTy) (a : ℤ) → ResultIn Comptime (unary op from Comptime a)
wide-in _ negates from a = exact-in Comptime (neg_ℤ a)
wide-in _ measures from a = exact-in Comptime (pos (unsigned_abs a))

-- casts of integers
pub data IsConversion : Cast → Type 0 where
  int_cast : IsConversion cast.IntCast
  truncates : IsConversion cast.Truncate
  bit_cast : IsConversion cast.BitCast

-- ---- on values

-- a meaning on two numbers, and on one, that keeps to a type
two-in : (ty : IntTy) (meaning : ℤ → ℤ → Result ℤ NumFault) → ((x y : ℤ) → IsIn ty x → IsIn ty y → ResultIn ty (meaning x y)) →
    (a b : ValueTree) → IsNumberIn ty a → IsNumberIn ty b → (v : ValueTree) → of_two_numbers ty meaning a b ≡ Gives v → IsNumberIn ty v
two-in ty meaning keeps (tree.NumberValue x) (tree.NumberValue y) i j v e = outcome-in ty (meaning x y) (keeps x y i j) v e
two-in ty meaning keeps (tree.NumberValue x) _ i j v e = absurd j
two-in ty meaning keeps _ b i j v e = absurd i

one-in : (ty : IntTy) (meaning : ℤ → Result ℤ NumFault) → ((x : ℤ) → ResultIn ty (meaning x)) → (a v : ValueTree) → of_number ty meaning a ≡ Gives v → IsNumberIn ty v
one-in ty meaning keeps (tree.NumberValue x) v e = outcome-in ty (meaning x) (keeps x) v e
one-in ty meaning keeps _ v e = cc

-- two integers of the result type
stays-two : (meaning : IntTy → ℤ → ℤ → Result ℤ NumFault) → ((ty : IntTy) → IsType ty → (x y : ℤ) → IsIn ty x → IsIn ty y → ResultIn ty (meaning ty x y)) →
    (ty : TypeTree) → HasWidths ty → (values : List ValueTree) → AreValuesOf (ty ∷ ty ∷ []) values → (v : ValueTree) → on_integers meaning ty values ≡ Gives v → IsValueOf ty v
stays-two meaning keeps (tree.IntType signed bits size) h (a ∷ b ∷ []) (i, (j, k)) v e = two-in (Sized signed bits) (meaning (Sized signed bits)) (keeps (Sized signed bits) h) a b i j v e
stays-two meaning keeps tree.ComptimeIntType h (a ∷ b ∷ []) (i, (j, k)) v e = two-in Comptime (meaning Comptime) (keeps Comptime tt) a b i j v e
stays-two meaning keeps _ h (a ∷ b ∷ []) i v e = cc
stays-two meaning keeps ty h (a ∷ b ∷ c ∷ more) (i, (j, k)) v e = absurd k
stays-two meaning keeps ty h (a ∷ []) (i, k) v e = absurd k
stays-two meaning keeps ty h [] k v e = absurd k

pub stays-arithmetic : (op : Arithmetic) (ty : TypeTree) → HasWidths ty → (values : List ValueTree) → AreValuesOf (ty ∷ ty ∷ []) values → (v : ValueTree) →
    applied (family.Arithmetic op) (ty ∷ ty ∷ []) ty values ≡ Gives v → IsValueOf ty v
stays-arithmetic op ty h values i v e = stays-two (arithmetic op) (λ own w x y j k. arithmetic-in op own x y) ty h values i v e

pub stays-division : (op : Division) (ty : TypeTree) → HasWidths ty → (values : List ValueTree) → AreValuesOf (ty ∷ ty ∷ []) values → (v : ValueTree) →
    applied (family.Division op) (ty ∷ ty ∷ []) ty values ≡ Gives v → IsValueOf ty v
stays-division op ty h values i v e = stays-two (division op) (λ own w x y j k. division-in op own w x y j k) ty h values i v e

pub stays-bitwise : (op : Bitwise) (ty : TypeTree) → HasWidths ty → (values : List ValueTree) → AreValuesOf (ty ∷ ty ∷ []) values → (v : ValueTree) →
    applied (family.Bitwise op) (ty ∷ ty ∷ []) ty values ≡ Gives v → IsValueOf ty v
stays-bitwise op ty h values i v e = stays-two (λ own x y. Ok (bitwise op x y)) (λ own w x y j k. bitwise-in op own x y j k) ty h values i v e

-- an integer of the result type by an amount of any integer type
by-in : (op : Shift) (ty : IntTy) (a b : ValueTree) → IsNumberIn ty a → (v : ValueTree) → of_two_numbers ty (shift op ty) a b ≡ Gives v → IsNumberIn ty v
by-in op ty (tree.NumberValue x) (tree.NumberValue y) i v e = outcome-in ty (shift op ty x y) (shift-in op ty x y i) v e
by-in op ty (tree.NumberValue x) _ i v e = cc
by-in op ty _ b i v e = absurd i

pub stays-shift : (op : Shift) (ty amount : TypeTree) → (values : List ValueTree) → AreValuesOf (ty ∷ amount ∷ []) values → (v : ValueTree) →
    applied (family.Shift op) (ty ∷ amount ∷ []) ty values ≡ Gives v → IsValueOf ty v
stays-shift op (tree.IntType signed bits size) amount (a ∷ b ∷ []) (i, (j, k)) v e = by-in op (Sized signed bits) a b i v e
stays-shift op tree.ComptimeIntType amount (a ∷ b ∷ []) (i, (j, k)) v e = by-in op Comptime a b i v e
stays-shift op _ amount (a ∷ b ∷ []) i v e = cc
stays-shift op ty amount (a ∷ b ∷ c ∷ more) (i, (j, k)) v e = absurd k
stays-shift op ty amount (a ∷ []) (i, k) v e = absurd k
stays-shift op ty amount [] k v e = absurd k

-- one integer, which becomes one of a sized type, or of `comptime_int`
stays-sized : (meaning : IntTy → IntTy → ℤ → Result ℤ NumFault) (from : TypeTree) (signed : Bool) (bits : ℕ) (size : Bool) →
    ((own : IntTy) (x : ℤ) → ResultIn (Sized signed bits) (meaning own (Sized signed bits) x)) → (values : List ValueTree) → AreValuesOf (from ∷ []) values → (v : ValueTree) →
    on_integer meaning (from ∷ []) (tree.IntType signed bits size) values ≡ Gives v → IsValueOf (tree.IntType signed bits size) v
stays-sized meaning (tree.IntType s n l) signed bits size keeps (a ∷ []) i v e = one-in (Sized signed bits) (meaning (Sized s n) (Sized signed bits)) (keeps (Sized s n)) a v e
stays-sized meaning tree.ComptimeIntType signed bits size keeps (a ∷ []) i v e = one-in (Sized signed bits) (meaning Comptime (Sized signed bits)) (keeps Comptime) a v e
stays-sized meaning _ signed bits size keeps (a ∷ []) i v e = cc
stays-sized meaning from signed bits size keeps (a ∷ b ∷ more) (i, k) v e = absurd k
stays-sized meaning from signed bits size keeps [] k v e = absurd k

stays-comptime : (meaning : IntTy → IntTy → ℤ → Result ℤ NumFault) (from : TypeTree) → ((own : IntTy) (x : ℤ) → ResultIn Comptime (meaning own Comptime x)) →
    (values : List ValueTree) → AreValuesOf (from ∷ []) values → (v : ValueTree) → on_integer meaning (from ∷ []) tree.ComptimeIntType values ≡ Gives v → IsValueOf tree.ComptimeIntType v
stays-comptime meaning (tree.IntType signed bits size) keeps (a ∷ []) i v e = one-in Comptime (meaning (Sized signed bits) Comptime) (keeps (Sized signed bits)) a v e
stays-comptime meaning tree.ComptimeIntType keeps (a ∷ []) i v e = one-in Comptime (meaning Comptime Comptime) (keeps Comptime) a v e
stays-comptime meaning _ keeps (a ∷ []) i v e = cc
stays-comptime meaning from keeps (a ∷ b ∷ more) (i, k) v e = absurd k
stays-comptime meaning from keeps [] k v e = absurd k

pub stays-one : (op : Unary) (from : TypeTree) (signed : Bool) (bits : ℕ) (size : Bool) → (values : List ValueTree) → AreValuesOf (from ∷ []) values → (v : ValueTree) →
    applied (family.Unary op) (from ∷ []) (tree.IntType signed bits size) values ≡ Gives v → IsValueOf (tree.IntType signed bits size) v
stays-one op from signed bits size values i v e = stays-sized (unary op) from signed bits size (λ own x. unary-in op own signed bits x) values i v e

pub stays-wide : (op : Unary) → IsWide op → (from : TypeTree) (values : List ValueTree) → AreValuesOf (from ∷ []) values → (v : ValueTree) →
    applied (family.Unary op) (from ∷ []) tree.ComptimeIntType values ≡ Gives v → IsValueOf tree.ComptimeIntType v
stays-wide op w from values i v e = stays-comptime (unary op) from (λ own x. wide-in op w own x) values i v e

pub stays-cast : (op : Cast) → IsConversion op → (from : TypeTree) (signed : Bool) (bits : ℕ) (size : Bool) → (values : List ValueTree) → AreValuesOf (from ∷ []) values → (v : ValueTree) →
    applied (family.Cast op) (from ∷ []) (tree.IntType signed bits size) values ≡ Gives v → IsValueOf (tree.IntType signed bits size) v
stays-cast _ int_cast from signed bits size values i v e = stays-sized (λ own. converted cast.IntCast) from signed bits size (λ own x. cast-in (Sized signed bits) x) values i v e
stays-cast _ truncates from signed bits size values i v e = stays-sized (λ own. converted cast.Truncate) from signed bits size (λ own x. wrapped_in signed bits x) values i v e
stays-cast _ bit_cast from signed bits size values i v e = stays-sized (λ own. converted cast.BitCast) from signed bits size (λ own x. wrapped_in signed bits x) values i v e

pub stays-wide-cast : (from : TypeTree) (values : List ValueTree) → AreValuesOf (from ∷ []) values → (v : ValueTree) →
    applied (family.Cast cast.IntCast) (from ∷ []) tree.ComptimeIntType values ≡ Gives v → IsValueOf tree.ComptimeIntType v
stays-wide-cast from values i v e = stays-comptime (λ own. converted cast.IntCast) from (λ own x. cast-in Comptime x) values i v e

-- a `comptime_int` that is cut down to one stays as it is
pub stays-cut : (values : List ValueTree) → AreValuesOf (tree.ComptimeIntType ∷ []) values → (v : ValueTree) →
    applied (family.Cast cast.Truncate) (tree.ComptimeIntType ∷ []) tree.ComptimeIntType values ≡ Gives v → IsValueOf tree.ComptimeIntType v
stays-cut (tree.NumberValue z ∷ []) (i, k) v e = subst (λ (u : ValueTree). IsNumberIn Comptime u) (given_is (tree.NumberValue z) v e) i
stays-cut (a ∷ b ∷ more) (i, k) v e = absurd k
stays-cut (_ ∷ []) (i, k) v e = absurd i
stays-cut [] k v e = absurd k

-- ---- counts

counted_le : (count : Count) (bits : ℕ) (z : ℤ) → counted count bits (pattern bits z) ≤ bits
counted_le counts.Clz bits z = leading_le bits (pattern bits z)
counted_le counts.Ctz bits z = trailing_le bits (pattern bits z)
counted_le counts.PopCount bits z = omega (arith, all_bits bits z)

-- a count of at most so many bits is a value of an unsigned type that holds their number
pub stays-count : (count : Count) (signed : Bool) (bits : ℕ) (size : Bool) (wide : ℕ) → bits < 2 ^ wide → (values : List ValueTree) → AreValuesOf (tree.IntType signed bits size ∷ []) values → (v : ValueTree) →
    applied (family.Count count) (tree.IntType signed bits size ∷ []) (tree.IntType false wide false) values ≡ Gives v → IsValueOf (tree.IntType false wide false) v
stays-count count signed bits size wide room (tree.NumberValue z ∷ []) (i, k) v e =
    let few = counted_le count bits z in
    subst (λ (u : ValueTree). IsNumberIn (Sized false wide) u) (given_is (tree.NumberValue (pos (counted count bits (pattern bits z)))) v e)
    (record { at_least = omega (arith, ints); at_most = omega (arith, ints, few, room) })
stays-count count signed bits size wide room (a ∷ b ∷ more) (i, k) v e = absurd k
stays-count count signed bits size wide room (_ ∷ []) (i, k) v e = absurd i
stays-count count signed bits size wide room [] k v e = absurd k

-- ---- the least and the greatest

abbrev pub AllNumbersIn : IntTy → List ValueTree → Type 0
AllNumbersIn ty [] = Unit {0}
AllNumbersIn ty (v ∷ values) = IsNumberIn ty v × AllNumbersIn ty values

one_of-in : (op : Extreme) (ty : IntTy) (a b : ℤ) → IsIn ty a → IsIn ty b → IsIn ty (extreme op a b)
one_of-in extremes.Min ty a b i j = record { at_least = grind (arith, ints, i.at_least, j.at_least); at_most = grind (arith, ints, i.at_most, j.at_most) }
one_of-in extremes.Max ty a b i j = record { at_least = grind (arith, ints, i.at_least, j.at_least); at_most = grind (arith, ints, i.at_most, j.at_most) }

from-in : (op : Extreme) (ty : IntTy) (a : ℤ) → IsIn ty a → (values : List ValueTree) → AllNumbersIn ty values → (v : ValueTree) → extreme_from op a values ≡ Gives v → IsNumberIn ty v
from-in op ty a i [] k v e = subst (λ (u : ValueTree). IsNumberIn ty u) (given_is (tree.NumberValue a) v e) i
from-in op ty a i (tree.NumberValue b ∷ values) (j, k) v e = from-in op ty (extreme op a b) (one_of-in op ty a b i j) values k v e
from-in op ty a i (_ ∷ values) (j, k) v e = absurd j

of-in : (op : Extreme) (ty : IntTy) (values : List ValueTree) → AllNumbersIn ty values → (v : ValueTree) → extreme_of op values ≡ Gives v → IsNumberIn ty v
of-in op ty [] k v e = cc
of-in op ty (tree.NumberValue a ∷ values) (i, k) v e = from-in op ty a i values k v e
of-in op ty (_ ∷ values) (i, k) v e = absurd i

-- each type is this one
abbrev pub AllAre : TypeTree → List TypeTree → Type 0
AllAre ty [] = Unit {0}
AllAre ty (t ∷ types) = (t ≡ ty) × AllAre ty types

numbers_among : (ity : IntTy) (ty : TypeTree) → ((v : ValueTree) → IsValueOf ty v → IsNumberIn ity v) → (types : List TypeTree) → AllAre ty types → (values : List ValueTree) → AreValuesOf types values → AllNumbersIn ity values
numbers_among ity ty each [] same [] k = tt
numbers_among ity ty each [] same (v ∷ values) k = absurd k
numbers_among ity ty each (t ∷ types) same [] k = absurd k
numbers_among ity ty each (t ∷ types) (is, same) (v ∷ values) (i, k) = (each v (subst (λ (s : TypeTree). IsValueOf s v) is i), numbers_among ity ty each types same values k)

pub stays-all : (op : Extreme) (ty : TypeTree) (ity : IntTy) → ((v : ValueTree) → IsValueOf ty v → IsNumberIn ity v) → ((v : ValueTree) → IsNumberIn ity v → IsValueOf ty v) →
    (types : List TypeTree) → AllAre ty types → (values : List ValueTree) → AreValuesOf types values → (v : ValueTree) → applied (family.Extreme op) types ty values ≡ Gives v → IsValueOf ty v
stays-all op ty ity into out types same values k v e = out v (of-in op ity values (numbers_among ity ty into types same values k) v e)

-- ---- truth values

truth_is : (b : Bool) (v : ValueTree) → Gives (tree.TruthValue b) ≡ Gives v → IsTruth v
truth_is b v e = subst (λ (u : ValueTree). IsTruth u) (given_is (tree.TruthValue b) v e) tt

same-truth : (op : Comparison) (same : Bool) (v : ValueTree) → equality op same ≡ Gives v → IsTruth v
same-truth order.Equal same v e = truth_is same v e
same-truth order.NotEqual same v e = truth_is (not same) v e
same-truth order.Less same v e = cc
same-truth order.LessOrEqual same v e = cc
same-truth order.Greater same v e = cc
same-truth order.GreaterOrEqual same v e = cc

compared-truth : (op : Comparison) (a b v : ValueTree) → compared_values op a b ≡ Gives v → IsTruth v
compared-truth op (tree.NumberValue x) (tree.NumberValue y) v e = truth_is (compared op x y) v e
compared-truth op (tree.TruthValue x) (tree.TruthValue y) v e = same-truth op (if x then y else not y) v e
compared-truth op (tree.TypeValue x) (tree.TypeValue y) v e = same-truth op (is_same x y) v e
compared-truth op (tree.NumberValue x) _ v e = cc
compared-truth op (tree.TruthValue x) _ v e = cc
compared-truth op (tree.TypeValue x) _ v e = cc
compared-truth op _ b v e = cc

pub stays-order : (op : Comparison) (from : List TypeTree) (values : List ValueTree) → AreValuesOf from values → (v : ValueTree) → applied (family.Comparison op) from tree.BoolType values ≡ Gives v → IsValueOf tree.BoolType v
stays-order op from (a ∷ b ∷ []) k v e = compared-truth op a b v e
stays-order op from (a ∷ b ∷ c ∷ more) k v e = cc
stays-order op from (a ∷ []) k v e = cc
stays-order op from [] k v e = cc

negated-truth : (a v : ValueTree) → negated a ≡ Gives v → IsTruth v
negated-truth (tree.TruthValue b) v e = truth_is (not b) v e
negated-truth _ v e = cc

pub stays-negation : (from : List TypeTree) (values : List ValueTree) → AreValuesOf from values → (v : ValueTree) → applied (family.Logic logic.Not) from tree.BoolType values ≡ Gives v → IsValueOf tree.BoolType v
stays-negation from (a ∷ []) k v e = negated-truth a v e
stays-negation from (a ∷ b ∷ more) k v e = cc
stays-negation from [] k v e = cc

bit-in : (a v : ValueTree) → int_from_bool a ≡ Gives v → IsNumberIn (Sized false 1) v
bit-in (tree.TruthValue true) v e = subst (λ (u : ValueTree). IsNumberIn (Sized false 1) u) (given_is (tree.NumberValue (pos 1)) v e) (record { at_least = omega (arith, ints); at_most = omega (arith, ints) })
bit-in (tree.TruthValue false) v e = subst (λ (u : ValueTree). IsNumberIn (Sized false 1) u) (given_is (tree.NumberValue (pos 0)) v e) (record { at_least = omega (arith, ints); at_most = omega (arith, ints) })
bit-in _ v e = cc

pub stays-bit : (from : List TypeTree) (values : List ValueTree) → AreValuesOf from values → (v : ValueTree) → applied (family.Cast cast.IntFromBool) from (tree.IntType false 1 false) values ≡ Gives v → IsValueOf (tree.IntType false 1 false) v
stays-bit from (a ∷ []) k v e = bit-in a v e
stays-bit from (a ∷ b ∷ more) k v e = cc
stays-bit from [] k v e = cc
