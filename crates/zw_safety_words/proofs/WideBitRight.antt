-- The code of operators on bits, of shifts, comparisons and operators of one operand is right wherever it stands where a type has more
-- than 32 bits.
use Rattle.std.proofs.Common.{◌≡◌, ℕ, ℤ, pos, negsuc, ◌+◌, Bool, true, false, not, neg_ℤ, List, [], ◌∷◌, ◌++◌, Ok, refl, sym, ap, subst}
use Rattle.std.specs.Prelude.{int_lt, int_le, if◌then◌else◌}
use Rattle.std.specs.Int.{w64, int_min, int_max}
use Rattle.std.specs.Ordering.{int_eq}
use Rattle.zw_num.specs.Meanings.{compared, number_of_truth}
use Rattle.zw_num.specs.Arithmetic.{width, bits_and, bits_or, bits_xor, bits_not}
use Rattle.zw_num.specs.declared.int_ty.IntTy.{IntTy}
use Rattle.zw_num.specs.declared.operator.Operator.TheVariants as family
use Rattle.zw_num.specs.declared.operator.Bitwise.TheVariants as bitwise_op
use Rattle.zw_num.specs.declared.operator.Cast.TheVariants as cast_op
use Rattle.zw_num.specs.declared.operator.Comparison.{Comparison as Compares}
use Rattle.zw_num.specs.declared.operator.Comparison.TheVariants as comparison_op
use Rattle.zw_num.specs.declared.operator.Extreme.TheVariants as extreme_op
use Rattle.zw_num.specs.declared.operator.Shift.TheVariants as shift_op
use Rattle.zw_num.specs.declared.operator.Unary.TheVariants as unary_op
use Rattle.zw_safety_narrow.proofs.BitRuns.{and_bits, or_bits, xor_bits}
use Rattle.zw_safety_narrow.proofs.CheckedTypes.{takes-if_panics}
use Rattle.zw_safety_narrow.proofs.NarrowTypes.{takes-long, takes-long_const, takes-compare_long}
use Rattle.zw_safety_narrow.proofs.CastRuns.{EndsOnOne}
use Rattle.zw_safety_narrow.proofs.NarrowRuns.{EndsOn}
use Rattle.zw_safety_narrow.proofs.OrderRight.{takes-select}
use Rattle.zw_safety_narrow.proofs.Orders.{equal as equals, not_equal as differs, less as lies_below, less_or_equal as lies_not_above, greater as lies_above, greater_or_equal as lies_not_below, lesser}
use Rattle.zw_safety_narrow.proofs.SaturatingRight.{takes-select_long}
use Rattle.zw_safety_narrow.proofs.SizedTypes.{sized_wraps, stored_sized}
use Rattle.zw_safety_narrow.specs.CastCode.{holds}
use Rattle.zw_safety_narrow.specs.Checked.{ScratchIsTyped, PanicStateIsTyped}
use Rattle.zw_safety_narrow.specs.Operators.{IsStored, IsRightOfTwo, IsRightOfOne, fills_word, type_of}
use Rattle.zw_safety_narrow.specs.declared.setting.Setting.{Setting}
use Rattle.zw_safety_narrow.specs.ShiftCode.{right_operator}
use Rattle.zw_safety_words.proofs.WideBitRuns.{wide_word-ends, wide_left-ends, wide_right-ends, wide_minus_one-ends, turned_bits, negated_bits, wide_same-ends, wide_truncated-ends, wide_opposite-ends}
use Rattle.zw_safety_words.proofs.WideClosed.{closed-then, either_closed, widened-closed, settled-closed, left_widened-closed, spread-closed, fitted-for as fitted-closed, long-closed, difference_test-closed, tested-closed}
use Rattle.zw_safety_words.proofs.WideOrderRuns.{IsOf, wide_comparison-ends, wide_choice-ends}
use Rattle.zw_safety_words.proofs.WideTypes.{LongsAreTyped, longs, type_by, takes-widened, settled-for, left_widened-for, takes-spread, fitted-for, takes-tested, difference_test-for}
use Rattle.zw_safety_words.specs.declared.order.Compared.{Compared}
use Rattle.zw_safety_words.specs.WideBitCode.{wide_word_code, both_got, are_wide_amounts, far_tested, wide_amount, wide_left_code, wide_right_code, wide_minus_one, wide_same_code, wide_truncated_code, zero_spread, wide_opposite_code}
use Rattle.zw_safety_words.specs.WideCode.{settled, both_widened, spread, wide_fitted, all_unsigned, all_signed, is_signed}
use Rattle.zw_safety_words.specs.WideOrderCode.{equal, not_equal, less, less_or_equal, greater, greater_or_equal, both_fit, both_unsigned, mixed_code, wide_comparison_code, wide_choice_code}
use Rattle.zw_wasm.proofs.TypingTakes.{takes-none, takes-then, takes-instr, takes-local_get, takes-local_set, takes-i32_const}
use Rattle.zw_wasm.specs.declared.module.BinaryOperator.{BinaryOperator}
use Rattle.zw_wasm.specs.declared.module.BinaryOperator.TheVariants.{And, Or, Xor, Mul, Shl}
use Rattle.zw_wasm.specs.declared.module.Comparison.{Comparison}
use Rattle.zw_wasm.specs.declared.module.Comparison.TheVariants.{GeS, GeU}
use Rattle.zw_wasm.specs.declared.module.Conversion.TheVariants.{ExtendU}
use Rattle.zw_wasm.specs.declared.module.Instr.TheVariants.{LocalGet, I64Const, Binary, Compare, Convert, Select}
use Rattle.zw_wasm.specs.declared.module.ValType.{ValType}
use Rattle.zw_wasm.specs.declared.module.ValType.TheVariants.{I32, I64}
use Rattle.zw_wasm.specs.Numerics.{Gives}
use Rattle.zw_wasm.specs.Sequences.{Takes}
use Rattle.zw_wasm.specs.Typing.{Context}
use Rattle.zw_wasm.specs.WellFormed.{IsClosed}

-- ---- types

takes-both_widened : (x : Context) (left right : IntTy) (s : ℕ) (ts : List ValType) → LongsAreTyped s x.locals → Takes x (both_widened left right s) (type_of right ∷ type_of left ∷ ts) (I64 ∷ I64 ∷ ts)
takes-both_widened x left right s ts h = takes-then (takes-widened x right (type_of left ∷ ts)) (left_widened-for (fills_word left) x left s ts h)

pub takes-settled : (x : Context) (to : IntTy) (ts : List ValType) → Takes x (settled to) (I64 ∷ ts) (type_of to ∷ ts)
takes-settled x to ts = settled-for (fills_word to) x ts

takes-wide_fitted : (x : Context) (to : IntTy) (ts : List ValType) → Takes x (wide_fitted to) (I64 ∷ ts) (type_of to ∷ ts)
takes-wide_fitted x to ts = fitted-for (fills_word to) x to ts

pub takes-both_got : (x : Context) (s : ℕ) (ts : List ValType) → LongsAreTyped s x.locals → Takes x (both_got s) ts (I64 ∷ I64 ∷ ts)
takes-both_got x s ts h = takes-then (takes-local_get x (s + 5) I64 ts h.left) (takes-local_get x (s + 4) I64 (I64 ∷ ts) h.right)

pub takes-far : (x : Context) (count s : ℕ) (ts : List ValType) → LongsAreTyped s x.locals → PanicStateIsTyped x.module_ → Takes x (far_tested count s) ts ts
takes-far x count s ts h state =
    takes-then (takes-local_get x (s + 4) I64 ts h.right)
    (takes-then (takes-long_const x (pos count) (I64 ∷ ts)) (takes-then (takes-compare_long x GeU ts) (takes-if_panics x 9 ts state)))

takes-amount_for : (u : Bool) (x : Context) (left right : IntTy) (count s : ℕ) (ts : List ValType) → LongsAreTyped s x.locals → PanicStateIsTyped x.module_ → Takes x (if u then both_widened left right s else spread left right s ++ (far_tested count s ++ both_got s)) (type_of right ∷ type_of left ∷ ts) (I64 ∷ I64 ∷ ts)
takes-amount_for true x left right count s ts h state = takes-both_widened x left right s ts h
takes-amount_for false x left right count s ts h state = takes-then (takes-spread x left right s ts h) (takes-then (takes-far x count s ts h state) (takes-both_got x s ts h))

takes-amount : (x : Context) (left right : IntTy) (count s : ℕ) (ts : List ValType) → LongsAreTyped s x.locals → PanicStateIsTyped x.module_ → Takes x (wide_amount left right count s) (type_of right ∷ type_of left ∷ ts) (I64 ∷ I64 ∷ ts)
takes-amount x left right count s ts h state = takes-amount_for (are_wide_amounts right count) x left right count s ts h state

-- ---- it ends all that it begins

both_widened-closed : (left right : IntTy) (s : ℕ) → IsClosed (both_widened left right s)
both_widened-closed left right s = closed-then (widened-closed right) (left_widened-closed left s)

pub both_got-closed : (s : ℕ) → IsClosed (both_got s)
both_got-closed s = record { by = λ open_ifs rest h. h }

amount_for-closed : (u : Bool) (left right : IntTy) (count s : ℕ) → IsClosed (if u then both_widened left right s else spread left right s ++ (far_tested count s ++ both_got s))
amount_for-closed true left right count s = both_widened-closed left right s
amount_for-closed false left right count s = closed-then (spread-closed left right s) (record { by = λ open_ifs rest h. h })

-- ---- bits and shifts

takes-word : (x : Context) (o : BinaryOperator) (left right to : IntTy) (s : ℕ) (ts : List ValType) → ScratchIsTyped s x.locals → Takes x (wide_word_code o left right to s) (type_of right ∷ type_of left ∷ ts) (type_of to ∷ ts)
takes-word x o left right to s ts h = takes-then (takes-both_widened x left right s ts (longs s x.locals h)) (takes-then (takes-long x o ts) (takes-settled x to ts))

word-closed : (o : BinaryOperator) (left right to : IntTy) (s : ℕ) → IsClosed (wide_word_code o left right to s)
word-closed o left right to s = closed-then (both_widened-closed left right s) (closed-then (long-closed o) (settled-closed to))

-- the three types of an operator
pub record AreStored (left right to : IntTy) : Type 0 where
  pub left_stored : IsStored left
  pub right_stored : IsStored right
  pub to_stored : IsStored to

pub wide_and-right : (t : Setting) → AreStored t.left t.right t.to → IsRightOfTwo (family.Bitwise bitwise_op.And) t (wide_word_code And t.left t.right t.to t.scratch)
wide_and-right t h = record {
  ends = λ m v c a b os rest il ir scratch state. wide_word-ends m v c And t.scratch t.left t.right t.to a b (bits_and a b) os rest h.left_stored h.right_stored il ir (scratch refl) (ap (λ n. Gives n) (and_bits w64 a b));
  typed = λ x ts scratch state. takes-word x And t.left t.right t.to t.scratch ts (scratch refl);
  closed = word-closed And t.left t.right t.to t.scratch;
}

pub wide_or-right : (t : Setting) → AreStored t.left t.right t.to → IsRightOfTwo (family.Bitwise bitwise_op.Or) t (wide_word_code Or t.left t.right t.to t.scratch)
wide_or-right t h = record {
  ends = λ m v c a b os rest il ir scratch state. wide_word-ends m v c Or t.scratch t.left t.right t.to a b (bits_or a b) os rest h.left_stored h.right_stored il ir (scratch refl) (ap (λ n. Gives n) (or_bits w64 a b));
  typed = λ x ts scratch state. takes-word x Or t.left t.right t.to t.scratch ts (scratch refl);
  closed = word-closed Or t.left t.right t.to t.scratch;
}

pub wide_xor-right : (t : Setting) → AreStored t.left t.right t.to → IsRightOfTwo (family.Bitwise bitwise_op.Xor) t (wide_word_code Xor t.left t.right t.to t.scratch)
wide_xor-right t h = record {
  ends = λ m v c a b os rest il ir scratch state. wide_word-ends m v c Xor t.scratch t.left t.right t.to a b (bits_xor a b) os rest h.left_stored h.right_stored il ir (scratch refl) (ap (λ n. Gives n) (xor_bits w64 a b));
  typed = λ x ts scratch state. takes-word x Xor t.left t.right t.to t.scratch ts (scratch refl);
  closed = word-closed Xor t.left t.right t.to t.scratch;
}

pub wide_shl-right : (t : Setting) → AreStored t.left t.right t.to → IsRightOfTwo (family.Shift shift_op.Shl) t (wide_left_code t.left t.right t.to t.scratch)
wide_shl-right t h = record {
  ends = λ m v c a b os rest il ir scratch state. wide_left-ends m v c t.scratch t.left t.right t.to a b os rest h.left_stored h.right_stored h.to_stored il ir (scratch refl) state;
  typed = λ x ts scratch state. takes-then (takes-amount x t.left t.right (width t.to) t.scratch ts (longs t.scratch x.locals (scratch refl)) state) (takes-then (takes-long x Shl ts) (takes-wide_fitted x t.to ts));
  closed = closed-then (amount_for-closed (are_wide_amounts t.right (width t.to)) t.left t.right (width t.to) t.scratch) (closed-then (long-closed Shl) (fitted-closed (fills_word t.to) t.to));
}

pub wide_shr-right : (t : Setting) → AreStored t.left t.right t.to → IsRightOfTwo (family.Shift shift_op.Shr) t (wide_right_code t.left t.right t.to t.scratch)
wide_shr-right t h = record {
  ends = λ m v c a b os rest il ir scratch state. wide_right-ends m v c t.scratch t.left t.right t.to a b os rest h.left_stored h.right_stored h.to_stored il ir (scratch refl) state;
  typed = λ x ts scratch state. takes-then (takes-amount x t.left t.right (width t.to) t.scratch ts (longs t.scratch x.locals (scratch refl)) state) (takes-then (takes-long x (right_operator t.left) ts) (takes-settled x t.to ts));
  closed = closed-then (amount_for-closed (are_wide_amounts t.right (width t.to)) t.left t.right (width t.to) t.scratch) (closed-then (long-closed (right_operator t.left)) (settled-closed t.to));
}

-- ---- comparisons

takes-signed_local : (x : Context) (left : IntTy) (s : ℕ) (ts : List ValType) → LongsAreTyped s x.locals → (t : Bool) → Takes x (LocalGet (if t then s + 5 else s + 4) ∷ []) ts (I64 ∷ ts)
takes-signed_local x left s ts h true = takes-local_get x (s + 5) I64 ts h.left
takes-signed_local x left s ts h false = takes-local_get x (s + 4) I64 ts h.right

takes-mixed : (x : Context) (o : Compared) (left : IntTy) (s : ℕ) (ts : List ValType) → LongsAreTyped s x.locals → Takes x (mixed_code o left s) (I64 ∷ I64 ∷ ts) (I32 ∷ ts)
takes-mixed x o left s ts h =
    takes-then (takes-compare_long x o.unsigned ts)
    (takes-then (takes-i32_const x _ (I32 ∷ ts))
    (takes-then (takes-signed_local x left s (I32 ∷ I32 ∷ ts) h (is_signed left))
    (takes-then (takes-long_const x (pos 0) (I64 ∷ I32 ∷ I32 ∷ ts)) (takes-then (takes-compare_long x GeS (I32 ∷ I32 ∷ ts)) (takes-select x ts)))))

takes-relation_for : (p q : Bool) (x : Context) (o : Compared) (left : IntTy) (s : ℕ) (ts : List ValType) → LongsAreTyped s x.locals → Takes x (if p then Compare I64 o.signed ∷ [] else (if q then Compare I64 o.unsigned ∷ [] else mixed_code o left s)) (I64 ∷ I64 ∷ ts) (I32 ∷ ts)
takes-relation_for true q x o left s ts h = takes-compare_long x o.signed ts
takes-relation_for false true x o left s ts h = takes-compare_long x o.unsigned ts
takes-relation_for false false x o left s ts h = takes-mixed x o left s ts h

takes-compared_for : (p q : Bool) (x : Context) (o : Compared) (left right : IntTy) (s : ℕ) (ts : List ValType) → LongsAreTyped s x.locals → Takes x (if p then both_widened left right s ++ Compare I64 o.signed ∷ [] else (if q then both_widened left right s ++ Compare I64 o.unsigned ∷ [] else spread left right s ++ (both_got s ++ mixed_code o left s))) (type_of right ∷ type_of left ∷ ts) (I32 ∷ ts)
takes-compared_for true q x o left right s ts h = takes-then (takes-both_widened x left right s ts h) (takes-compare_long x o.signed ts)
takes-compared_for false true x o left right s ts h = takes-then (takes-both_widened x left right s ts h) (takes-compare_long x o.unsigned ts)
takes-compared_for false false x o left right s ts h = takes-then (takes-spread x left right s ts h) (takes-then (takes-both_got x s ts h) (takes-mixed x o left s ts h))

takes-extend_u : (x : Context) (ts : List ValType) → Takes x (Convert ExtendU ∷ []) (I32 ∷ ts) (I64 ∷ ts)
takes-extend_u x ts = takes-instr x (Convert ExtendU) (I32 ∷ ts) (I64 ∷ ts) (λ below c outer. refl)

pub takes-truth_for : (w : Bool) (x : Context) (ts : List ValType) → Takes x (if w then [] else Convert ExtendU ∷ []) (I32 ∷ ts) (type_by w ∷ ts)
takes-truth_for true x ts = takes-none x (I32 ∷ ts)
takes-truth_for false x ts = takes-extend_u x ts

takes-comparison : (x : Context) (o : Compared) (left right to : IntTy) (s : ℕ) (ts : List ValType) → ScratchIsTyped s x.locals → Takes x (wide_comparison_code o left right to s) (type_of right ∷ type_of left ∷ ts) (type_of to ∷ ts)
takes-comparison x o left right to s ts h =
    takes-then (takes-compared_for (both_fit left right) (both_unsigned left right) x o left right s ts (longs s x.locals h)) (takes-truth_for (fills_word to) x ts)

compare-closed : (o : Comparison) → IsClosed (Compare I64 o ∷ [])
compare-closed o = record { by = λ open_ifs rest h. h }

mixed-closed : (o : Compared) (left : IntTy) (s : ℕ) → IsClosed (mixed_code o left s)
mixed-closed o left s = record { by = λ open_ifs rest h. h }

pub truth-closed : (w : Bool) → IsClosed (if w then [] else Convert ExtendU ∷ [])
truth-closed true = record { by = λ open_ifs rest h. h }
truth-closed false = record { by = λ open_ifs rest h. h }

select-closed : IsClosed (Select ∷ [])
select-closed = record { by = λ open_ifs rest h. h }

const-closed : (o : BinaryOperator) → IsClosed (I64Const (negsuc 0) ∷ Binary I64 o ∷ [])
const-closed o = record { by = λ open_ifs rest h. h }

comparison-closed : (o : Compared) (left right to : IntTy) (s : ℕ) → IsClosed (wide_comparison_code o left right to s)
comparison-closed o left right to s =
    closed-then (either_closed (both_fit left right) (both_unsigned left right) (both_widened left right s ++ Compare I64 o.signed ∷ []) (both_widened left right s ++ Compare I64 o.unsigned ∷ []) (spread left right s ++ (both_got s ++ mixed_code o left s))
    (closed-then (both_widened-closed left right s) (compare-closed o.signed)) (closed-then (both_widened-closed left right s) (compare-closed o.unsigned))
    (closed-then (spread-closed left right s) (closed-then (both_got-closed s) (mixed-closed o left s))))
    (truth-closed (fills_word to))

compared-right : (op : Compares) (o : Compared) (test : ℤ → ℤ → Bool) (t : Setting) → AreStored t.left t.right t.to → IsOf o test → ((a b : ℤ) → compared op a b ≡ test a b) → IsRightOfTwo (family.Comparison op) t (wide_comparison_code o t.left t.right t.to t.scratch)
compared-right op o test t h is same = record {
  ends = λ m v c a b os rest il ir scratch state.
      subst (λ r. EndsOn m v c t.scratch t.left t.right t.to a b os (wide_comparison_code o t.left t.right t.to t.scratch) rest (Ok (number_of_truth r))) (sym (same a b))
      (wide_comparison-ends m v c o test t.scratch t.left t.right t.to a b os rest is h.left_stored h.right_stored il ir (scratch refl));
  typed = λ x ts scratch state. takes-comparison x o t.left t.right t.to t.scratch ts (scratch refl);
  closed = comparison-closed o t.left t.right t.to t.scratch;
}

is_equal : IsOf equal (λ a b. int_eq a b)
is_equal = record { relation = equals; left_below = λ n y. refl; right_below = λ x n. refl }

is_not_equal : IsOf not_equal (λ a b. not (int_eq a b))
is_not_equal = record { relation = differs; left_below = λ n y. refl; right_below = λ x n. refl }

is_less : IsOf less (λ a b. int_lt a b)
is_less = record { relation = lies_below; left_below = λ n y. refl; right_below = λ x n. refl }

is_less_or_equal : IsOf less_or_equal (λ a b. int_le a b)
is_less_or_equal = record { relation = lies_not_above; left_below = λ n y. refl; right_below = λ x n. refl }

is_greater : IsOf greater (λ a b. int_lt b a)
is_greater = record { relation = lies_above; left_below = λ n y. refl; right_below = λ x n. refl }

is_greater_or_equal : IsOf greater_or_equal (λ a b. int_le b a)
is_greater_or_equal = record { relation = lies_not_below; left_below = λ n y. refl; right_below = λ x n. refl }

pub wide_equal-right : (t : Setting) → AreStored t.left t.right t.to → IsRightOfTwo (family.Comparison comparison_op.Equal) t (wide_comparison_code equal t.left t.right t.to t.scratch)
wide_equal-right t h = compared-right comparison_op.Equal equal (λ a b. int_eq a b) t h is_equal (λ a b. refl)

pub wide_not_equal-right : (t : Setting) → AreStored t.left t.right t.to → IsRightOfTwo (family.Comparison comparison_op.NotEqual) t (wide_comparison_code not_equal t.left t.right t.to t.scratch)
wide_not_equal-right t h = compared-right comparison_op.NotEqual not_equal (λ a b. not (int_eq a b)) t h is_not_equal (λ a b. refl)

pub wide_less-right : (t : Setting) → AreStored t.left t.right t.to → IsRightOfTwo (family.Comparison comparison_op.Less) t (wide_comparison_code less t.left t.right t.to t.scratch)
wide_less-right t h = compared-right comparison_op.Less less (λ a b. int_lt a b) t h is_less (λ a b. refl)

pub wide_less_or_equal-right : (t : Setting) → AreStored t.left t.right t.to → IsRightOfTwo (family.Comparison comparison_op.LessOrEqual) t (wide_comparison_code less_or_equal t.left t.right t.to t.scratch)
wide_less_or_equal-right t h = compared-right comparison_op.LessOrEqual less_or_equal (λ a b. int_le a b) t h is_less_or_equal (λ a b. refl)

pub wide_greater-right : (t : Setting) → AreStored t.left t.right t.to → IsRightOfTwo (family.Comparison comparison_op.Greater) t (wide_comparison_code greater t.left t.right t.to t.scratch)
wide_greater-right t h = compared-right comparison_op.Greater greater (λ a b. int_lt b a) t h is_greater (λ a b. refl)

pub wide_greater_or_equal-right : (t : Setting) → AreStored t.left t.right t.to → IsRightOfTwo (family.Comparison comparison_op.GreaterOrEqual) t (wide_comparison_code greater_or_equal t.left t.right t.to t.scratch)
wide_greater_or_equal-right t h = compared-right comparison_op.GreaterOrEqual greater_or_equal (λ a b. int_le b a) t h is_greater_or_equal (λ a b. refl)

-- ---- the lesser and the greater of two

takes-choice : (x : Context) (o : Compared) (left right to : IntTy) (s : ℕ) (ts : List ValType) → ScratchIsTyped s x.locals → Takes x (wide_choice_code o left right to s) (type_of right ∷ type_of left ∷ ts) (type_of to ∷ ts)
takes-choice x o left right to s ts h =
    let there = longs s x.locals h in
    takes-then (takes-spread x left right s ts there)
    (takes-then (takes-both_got x s ts there)
    (takes-then (takes-both_got x s (I64 ∷ I64 ∷ ts) there)
    (takes-then (takes-relation_for (both_fit left right) (both_unsigned left right) x o left s (I64 ∷ I64 ∷ ts) there)
    (takes-then (takes-select_long x ts) (takes-settled x to ts)))))

choice-closed : (o : Compared) (left right to : IntTy) (s : ℕ) → IsClosed (wide_choice_code o left right to s)
choice-closed o left right to s =
    closed-then (spread-closed left right s)
    (closed-then (both_got-closed s)
    (closed-then (both_got-closed s)
    (closed-then (either_closed (both_fit left right) (both_unsigned left right) (Compare I64 o.signed ∷ []) (Compare I64 o.unsigned ∷ []) (mixed_code o left s) (compare-closed o.signed) (compare-closed o.unsigned) (mixed-closed o left s))
    (closed-then select-closed (settled-closed to)))))

pub wide_min-right : (t : Setting) → AreStored t.left t.right t.to → IsRightOfTwo (family.Extreme extreme_op.Min) t (wide_choice_code less t.left t.right t.to t.scratch)
wide_min-right t h = record {
  ends = λ m v c a b os rest il ir scratch state. wide_choice-ends m v c less (λ a b. int_lt a b) t.scratch t.left t.right t.to a b (int_min a b) os rest is_less h.left_stored h.right_stored il ir (scratch refl) (lesser a b);
  typed = λ x ts scratch state. takes-choice x less t.left t.right t.to t.scratch ts (scratch refl);
  closed = choice-closed less t.left t.right t.to t.scratch;
}

pub wide_max-right : (t : Setting) → AreStored t.left t.right t.to → IsRightOfTwo (family.Extreme extreme_op.Max) t (wide_choice_code greater t.left t.right t.to t.scratch)
wide_max-right t h = record {
  ends = λ m v c a b os rest il ir scratch state. wide_choice-ends m v c greater (λ a b. int_lt b a) t.scratch t.left t.right t.to a b (int_max a b) os rest is_greater h.left_stored h.right_stored il ir (scratch refl) refl;
  typed = λ x ts scratch state. takes-choice x greater t.left t.right t.to t.scratch ts (scratch refl);
  closed = choice-closed greater t.left t.right t.to t.scratch;
}

-- ---- operators of one operand

takes-minus_one : (x : Context) (o : BinaryOperator) (from to : IntTy) (ts : List ValType) → Takes x (wide_minus_one o from to) (type_of from ∷ ts) (type_of to ∷ ts)
takes-minus_one x o from to ts = takes-then (takes-widened x from ts) (takes-then (takes-long_const x _ (I64 ∷ ts)) (takes-then (takes-long x o ts) (takes-wide_fitted x to ts)))

minus_one-closed : (o : BinaryOperator) (from to : IntTy) → IsClosed (wide_minus_one o from to)
minus_one-closed o from to = closed-then (widened-closed from) (closed-then (const-closed o) (fitted-closed (fills_word to) to))

pub wide_not-right : (t : Setting) → IsStored t.left → IsStored t.to → IsRightOfOne (family.Unary unary_op.BitNot) t (wide_minus_one Xor t.left t.to)
wide_not-right t hf ht = record {
  ends = λ m v c a os rest i scratch state. wide_minus_one-ends m v c Xor t.scratch t.left t.to a (bits_not a) os rest hf ht i (turned_bits a);
  typed = λ x ts scratch state. takes-minus_one x Xor t.left t.to ts;
  closed = minus_one-closed Xor t.left t.to;
}

pub wide_neg_wrap-right : (t : Setting) → IsStored t.left → IsStored t.to → IsRightOfOne (family.Unary unary_op.NegWrap) t (wide_minus_one Mul t.left t.to)
wide_neg_wrap-right t hf ht = record {
  ends = λ m v c a os rest i scratch state.
      subst (λ r. EndsOnOne m v c t.scratch t.left t.to a os (wide_minus_one Mul t.left t.to) rest r) (sym (sized_wraps t.to (neg_ℤ a) (stored_sized t.to ht)))
      (wide_minus_one-ends m v c Mul t.scratch t.left t.to a (neg_ℤ a) os rest hf ht i (negated_bits a));
  typed = λ x ts scratch state. takes-minus_one x Mul t.left t.to ts;
  closed = minus_one-closed Mul t.left t.to;
}

takes-same : (x : Context) (from to : IntTy) (ts : List ValType) → Takes x (wide_same_code from to) (type_of from ∷ ts) (type_of to ∷ ts)
takes-same x from to ts = takes-then (takes-widened x from ts) (takes-settled x to ts)

same-closed : (from to : IntTy) → IsClosed (wide_same_code from to)
same-closed from to = closed-then (widened-closed from) (settled-closed to)

pub wide_as-right : (t : Setting) → IsStored t.left → IsStored t.to → IsRightOfOne (family.Cast cast_op.As) t (wide_same_code t.left t.to)
wide_as-right t hf ht = record {
  ends = λ m v c a os rest i scratch state. wide_same-ends m v c t.scratch t.left t.to a os rest hf i;
  typed = λ x ts scratch state. takes-same x t.left t.to ts;
  closed = same-closed t.left t.to;
}

pub wide_from_bool-right : (t : Setting) → IsStored t.left → IsStored t.to → IsRightOfOne (family.Cast cast_op.IntFromBool) t (wide_same_code t.left t.to)
wide_from_bool-right t hf ht = record {
  ends = λ m v c a os rest i scratch state. wide_same-ends m v c t.scratch t.left t.to a os rest hf i;
  typed = λ x ts scratch state. takes-same x t.left t.to ts;
  closed = same-closed t.left t.to;
}

pub takes-truncated_for : (t : Bool) (x : Context) (to : IntTy) (ts : List ValType) → Takes x (if t then settled to else wide_fitted to) (I64 ∷ ts) (type_of to ∷ ts)
takes-truncated_for true x to ts = takes-settled x to ts
takes-truncated_for false x to ts = takes-wide_fitted x to ts

pub truncated_for-closed : (t : Bool) (to : IntTy) → IsClosed (if t then settled to else wide_fitted to)
truncated_for-closed true to = settled-closed to
truncated_for-closed false to = fitted-closed (fills_word to) to

pub wide_truncate-right : (t : Setting) → IsStored t.left → IsStored t.to → IsRightOfOne (family.Cast cast_op.Truncate) t (wide_truncated_code t.left t.to)
wide_truncate-right t hf ht = record {
  ends = λ m v c a os rest i scratch state. wide_truncated-ends m v c t.scratch t.left t.to a os rest hf ht i;
  typed = λ x ts scratch state. takes-then (takes-widened x t.left ts) (takes-truncated_for (holds t.to t.left) x t.to ts);
  closed = closed-then (widened-closed t.left) (truncated_for-closed (holds t.to t.left) t.to);
}

pub wide_bit_cast-right : (t : Setting) → IsStored t.left → IsStored t.to → IsRightOfOne (family.Cast cast_op.BitCast) t (wide_truncated_code t.left t.to)
wide_bit_cast-right t hf ht = record {
  ends = λ m v c a os rest i scratch state. wide_truncated-ends m v c t.scratch t.left t.to a os rest hf ht i;
  typed = λ x ts scratch state. takes-then (takes-widened x t.left ts) (takes-truncated_for (holds t.to t.left) x t.to ts);
  closed = closed-then (widened-closed t.left) (truncated_for-closed (holds t.to t.left) t.to);
}

takes-zero_spread : (x : Context) (from : IntTy) (s : ℕ) (ts : List ValType) → LongsAreTyped s x.locals → Takes x (zero_spread from s) (type_of from ∷ ts) ts
takes-zero_spread x from s ts h =
    takes-then (takes-widened x from ts)
    (takes-then (takes-local_set x (s + 4) I64 ts h.right) (takes-then (takes-long_const x (pos 0) ts) (takes-local_set x (s + 5) I64 ts h.left)))

zero_spread-closed : (from : IntTy) (s : ℕ) → IsClosed (zero_spread from s)
zero_spread-closed from s = closed-then (widened-closed from) (record { by = λ open_ifs rest h. h })

pub wide_neg-right : (t : Setting) → IsStored t.left → IsStored t.to → IsRightOfOne (family.Unary unary_op.Neg) t (wide_opposite_code t.left t.to t.scratch)
wide_neg-right t hf ht = record {
  ends = λ m v c a os rest i scratch state. wide_opposite-ends m v c t.scratch t.left t.to a os rest hf ht i scratch state;
  typed = λ x ts scratch state.
      let there = longs t.scratch x.locals scratch in
      takes-then (takes-zero_spread x t.left t.scratch ts there)
      (takes-then (difference_test-for (all_unsigned t.left t.left t.to) (all_signed t.left t.left t.to) x t.left t.left t.to t.scratch ts there) (takes-tested x t.to t.scratch ts there state));
  closed = closed-then (zero_spread-closed t.left t.scratch) (closed-then (difference_test-closed t.left t.left t.to t.scratch) (tested-closed t.to t.scratch));
}
