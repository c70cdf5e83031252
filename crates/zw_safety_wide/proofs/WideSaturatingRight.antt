-- The code of operators that stop at the bounds of their type is right wherever it stands where a type has more than 32 bits.
use Rattle.std.proofs.Common.{◌≡◌, ℕ, pos, ◌+ℤ◌, ◌-ℤ◌, ◌*ℤ◌, ◌+◌, Bool, true, false, List, [], ◌∷◌, ◌++◌, Some, refl, sym, subst}
use Rattle.std.specs.Prelude.{slice_get, if◌then◌else◌}
use Rattle.zw_num.specs.Arithmetic.{least}
use Rattle.zw_num.specs.declared.int_ty.IntTy.{IntTy}
use Rattle.zw_num.specs.declared.operator.Operator.TheVariants as family
use Rattle.zw_num.specs.declared.operator.Arithmetic.TheVariants as arithmetic_op
use Rattle.zw_safety_narrow.proofs.NarrowTypes.{takes-long_const, takes-compare_long}
use Rattle.zw_safety_narrow.proofs.SaturatingRight.{takes-select_long}
use Rattle.zw_safety_narrow.proofs.SizedTypes.{sized_saturates, stored_sized}
use Rattle.zw_safety_narrow.specs.Operators.{IsRightOfTwo, type_of}
use Rattle.zw_safety_narrow.specs.declared.setting.Setting.{Setting}
use Rattle.zw_safety_narrow.proofs.NarrowRuns.{EndsOn}
use Rattle.zw_safety_wide.proofs.WideSaturatingRuns.{wide_product_sat-ends}
use Rattle.zw_safety_wide.proofs.WideSaturatingShort.{wide_sum_sat-ends, wide_difference_sat-ends}
use Rattle.zw_safety_wide.specs.WideSaturatingCode.{greatest_long, bound, nearest, by_one_test, sum_nearest, difference_nearest, wide_sum_sat_code, wide_difference_sat_code, wide_product_sat_code}
use Rattle.zw_safety_words.proofs.WideBitRight.{AreStored, takes-settled}
use Rattle.zw_safety_words.proofs.WideClosed.{closed-then, either_closed, low_word-closed, spread-closed, settled-closed, sum_words-closed, difference_words-closed, product_words-closed, outside-closed}
use Rattle.zw_safety_words.proofs.WideTypes.{LongsAreTyped, longs, takes-spread, takes-low_word, takes-long_less, takes-crossed, takes-sum_words, takes-difference_words, takes-product_words, takes-outside}
use Rattle.zw_safety_words.specs.WideCode.{spread, low_word, all_unsigned, all_signed, long_less, crossed, sum_words, difference_words, product_words}
use Rattle.zw_safety_words.specs.WideOrderCode.{both_unsigned}
use Rattle.zw_wasm.proofs.TypingTakes.{takes-then, takes-local_get, takes-local_set}
use Rattle.zw_wasm.specs.declared.module.BinaryOperator.{BinaryOperator}
use Rattle.zw_wasm.specs.declared.module.BinaryOperator.TheVariants.{Add, Sub}
use Rattle.zw_wasm.specs.declared.module.Comparison.{Comparison}
use Rattle.zw_wasm.specs.declared.module.Comparison.TheVariants.{LtS, GtS}
use Rattle.zw_wasm.specs.declared.module.Instr.{Instr}
use Rattle.zw_wasm.specs.declared.module.Instr.TheVariants.{LocalGet, LocalSet, I64Const, Compare, Select}
use Rattle.zw_wasm.specs.declared.module.ValType.{ValType}
use Rattle.zw_wasm.specs.declared.module.ValType.TheVariants.{I32, I64}
use Rattle.zw_wasm.specs.Sequences.{Takes}
use Rattle.zw_wasm.specs.Typing.{Context}
use Rattle.zw_wasm.specs.WellFormed.{IsClosed}

-- ---- types

takes-bound_for : (t : Bool) (x : Context) (to : IntTy) (n : ℕ) (ts : List ValType) → slice_get x.locals n ≡ Some I64 → Takes x (if t then I64Const (greatest_long to) ∷ [] else I64Const (least to) ∷ I64Const (greatest_long to) ∷ LocalGet n ∷ I64Const (pos 0) ∷ Compare I64 LtS ∷ Select ∷ []) ts (I64 ∷ ts)
takes-bound_for true x to n ts e = takes-long_const x (greatest_long to) ts
takes-bound_for false x to n ts e =
    takes-then (takes-long_const x (least to) ts)
    (takes-then (takes-long_const x (greatest_long to) (I64 ∷ ts))
    (takes-then (takes-local_get x n I64 (I64 ∷ I64 ∷ ts) e)
    (takes-then (takes-long_const x (pos 0) (I64 ∷ I64 ∷ I64 ∷ ts)) (takes-then (takes-compare_long x LtS (I64 ∷ I64 ∷ ts)) (takes-select_long x ts)))))

pub takes-bound : (t : Bool) (x : Context) (to : IntTy) (n : ℕ) (ts : List ValType) → slice_get x.locals n ≡ Some I64 → Takes x (bound t to n) ts (I64 ∷ ts)
takes-bound t x to n ts e = takes-bound_for t x to n ts e

takes-nearest : (t : Bool) (x : Context) (to : IntTy) (s : ℕ) (ts : List ValType) → LongsAreTyped s x.locals → Takes x (nearest t to s) (I64 ∷ ts) (type_of to ∷ ts)
takes-nearest t x to s ts h =
    takes-then (takes-local_set x (s + 7) I64 ts h.mid)
    (takes-then (takes-bound t x to (s + 7) ts h.mid)
    (takes-then (takes-local_get x (s + 6) I64 (I64 ∷ ts) h.low)
    (takes-then (takes-local_get x (s + 7) I64 (I64 ∷ I64 ∷ ts) h.mid)
    (takes-then (takes-outside x to (s + 6) (I64 ∷ I64 ∷ ts) h.low) (takes-then (takes-select_long x ts) (takes-settled x to ts))))))

takes-words : (t : Bool) (x : Context) (ws : List Instr) (left right to : IntTy) (s : ℕ) (ts : List ValType) → LongsAreTyped s x.locals → Takes x ws ts (I64 ∷ ts) → Takes x (spread left right s ++ (ws ++ nearest t to s)) (type_of right ∷ type_of left ∷ ts) (type_of to ∷ ts)
takes-words t x ws left right to s ts h takes = takes-then (takes-spread x left right s ts h) (takes-then takes (takes-nearest t x to s ts h))

takes-one_test : (x : Context) (edge test : List Instr) (to : IntTy) (s : ℕ) (ts : List ValType) → LongsAreTyped s x.locals → Takes x edge ts (I64 ∷ ts) → Takes x test (I64 ∷ I64 ∷ ts) (I32 ∷ I64 ∷ I64 ∷ ts) → Takes x (by_one_test edge test to s) ts (type_of to ∷ ts)
takes-one_test x edge test to s ts h one two =
    takes-then one (takes-then (takes-local_get x (s + 6) I64 (I64 ∷ ts) h.low) (takes-then two (takes-then (takes-select_long x ts) (takes-settled x to ts))))

takes-sum_for : (p q : Bool) (x : Context) (left right to : IntTy) (s : ℕ) (ts : List ValType) → LongsAreTyped s x.locals →
    Takes x (if p then low_word Add s ++ by_one_test (bound true to (s + 5)) (long_less (s + 6) (s + 4)) to s else (if q then low_word Add s ++ by_one_test (bound false to (s + 5)) (crossed LtS s) to s else sum_words left right s ++ nearest (both_unsigned left right) to s)) ts (type_of to ∷ ts)
takes-sum_for true q x left right to s ts h =
    takes-then (takes-low_word x Add s ts h)
    (takes-one_test x (bound true to (s + 5)) (long_less (s + 6) (s + 4)) to s ts h (takes-bound true x to (s + 5) ts h.left) (takes-long_less x (s + 6) (s + 4) (I64 ∷ I64 ∷ ts) h.low h.right))
takes-sum_for false true x left right to s ts h =
    takes-then (takes-low_word x Add s ts h)
    (takes-one_test x (bound false to (s + 5)) (crossed LtS s) to s ts h (takes-bound false x to (s + 5) ts h.left) (takes-crossed x LtS s (I64 ∷ I64 ∷ ts) h))
takes-sum_for false false x left right to s ts h = takes-then (takes-sum_words x left right s ts h) (takes-nearest (both_unsigned left right) x to s ts h)

takes-difference_for : (p q : Bool) (x : Context) (left right to : IntTy) (s : ℕ) (ts : List ValType) → LongsAreTyped s x.locals →
    Takes x (if p then low_word Sub s ++ by_one_test (I64Const (pos 0) ∷ []) (long_less (s + 5) (s + 4)) to s else (if q then low_word Sub s ++ by_one_test (bound false to (s + 5)) (crossed GtS s) to s else difference_words left right s ++ nearest false to s)) ts (type_of to ∷ ts)
takes-difference_for true q x left right to s ts h =
    takes-then (takes-low_word x Sub s ts h)
    (takes-one_test x (I64Const (pos 0) ∷ []) (long_less (s + 5) (s + 4)) to s ts h (takes-long_const x (pos 0) ts) (takes-long_less x (s + 5) (s + 4) (I64 ∷ I64 ∷ ts) h.left h.right))
takes-difference_for false true x left right to s ts h =
    takes-then (takes-low_word x Sub s ts h)
    (takes-one_test x (bound false to (s + 5)) (crossed GtS s) to s ts h (takes-bound false x to (s + 5) ts h.left) (takes-crossed x GtS s (I64 ∷ I64 ∷ ts) h))
takes-difference_for false false x left right to s ts h = takes-then (takes-difference_words x left right s ts h) (takes-nearest false x to s ts h)

-- ---- it ends all that it begins

bound_for-closed : (t : Bool) (to : IntTy) (n : ℕ) → IsClosed (if t then I64Const (greatest_long to) ∷ [] else I64Const (least to) ∷ I64Const (greatest_long to) ∷ LocalGet n ∷ I64Const (pos 0) ∷ Compare I64 LtS ∷ Select ∷ [])
bound_for-closed true to n = record { by = λ open_ifs rest h. h }
bound_for-closed false to n = record { by = λ open_ifs rest h. h }

pub bound-closed : (t : Bool) (to : IntTy) (n : ℕ) → IsClosed (bound t to n)
bound-closed t to n = bound_for-closed t to n

set-closed : (n : ℕ) → IsClosed (LocalSet n ∷ [])
set-closed n = record { by = λ open_ifs rest h. h }

gets-closed : (n k : ℕ) → IsClosed (LocalGet n ∷ LocalGet k ∷ [])
gets-closed n k = record { by = λ open_ifs rest h. h }

pub select-closed : IsClosed (Select ∷ [])
select-closed = record { by = λ open_ifs rest h. h }

nearest-closed : (t : Bool) (to : IntTy) (s : ℕ) → IsClosed (nearest t to s)
nearest-closed t to s =
    closed-then (set-closed (s + 7))
    (closed-then (bound-closed t to (s + 7))
    (closed-then (gets-closed (s + 6) (s + 7)) (closed-then (outside-closed to (s + 6)) (closed-then select-closed (settled-closed to)))))

get-closed : (n : ℕ) → IsClosed (LocalGet n ∷ [])
get-closed n = record { by = λ open_ifs rest h. h }

less-closed : (n k : ℕ) → IsClosed (long_less n k)
less-closed n k = record { by = λ open_ifs rest h. h }

cross-closed : (o : Comparison) (s : ℕ) → IsClosed (crossed o s)
cross-closed o s = record { by = λ open_ifs rest h. h }

none-closed : IsClosed (I64Const (pos 0) ∷ [])
none-closed = record { by = λ open_ifs rest h. h }

one_test-closed : (o : BinaryOperator) (edge test : List Instr) (to : IntTy) (s : ℕ) → IsClosed edge → IsClosed test → IsClosed (low_word o s ++ by_one_test edge test to s)
one_test-closed o edge test to s one two =
    closed-then (low_word-closed o s) (closed-then one (closed-then (get-closed (s + 6)) (closed-then two (closed-then select-closed (settled-closed to)))))

sum_nearest-closed : (left right to : IntTy) (s : ℕ) → IsClosed (sum_nearest left right to s)
sum_nearest-closed left right to s =
    either_closed (all_unsigned left right to) (all_signed left right to) (low_word Add s ++ by_one_test (bound true to (s + 5)) (long_less (s + 6) (s + 4)) to s) (low_word Add s ++ by_one_test (bound false to (s + 5)) (crossed LtS s) to s) (sum_words left right s ++ nearest (both_unsigned left right) to s)
    (one_test-closed Add (bound true to (s + 5)) (long_less (s + 6) (s + 4)) to s (bound-closed true to (s + 5)) (less-closed (s + 6) (s + 4)))
    (one_test-closed Add (bound false to (s + 5)) (crossed LtS s) to s (bound-closed false to (s + 5)) (cross-closed LtS s))
    (closed-then (sum_words-closed left right s) (nearest-closed (both_unsigned left right) to s))

difference_nearest-closed : (left right to : IntTy) (s : ℕ) → IsClosed (difference_nearest left right to s)
difference_nearest-closed left right to s =
    either_closed (all_unsigned left right to) (all_signed left right to) (low_word Sub s ++ by_one_test (I64Const (pos 0) ∷ []) (long_less (s + 5) (s + 4)) to s) (low_word Sub s ++ by_one_test (bound false to (s + 5)) (crossed GtS s) to s) (difference_words left right s ++ nearest false to s)
    (one_test-closed Sub (I64Const (pos 0) ∷ []) (long_less (s + 5) (s + 4)) to s none-closed (less-closed (s + 5) (s + 4)))
    (one_test-closed Sub (bound false to (s + 5)) (crossed GtS s) to s (bound-closed false to (s + 5)) (cross-closed GtS s))
    (closed-then (difference_words-closed left right s) (nearest-closed false to s))

-- ---- the operators

pub wide_add_sat-right : (t : Setting) → AreStored t.left t.right t.to → IsRightOfTwo (family.Arithmetic arithmetic_op.AddSat) t (wide_sum_sat_code t.left t.right t.to t.scratch)
wide_add_sat-right t h = record {
  ends = λ m v c a b os rest il ir scratch state.
      subst (λ r. EndsOn m v c t.scratch t.left t.right t.to a b os (wide_sum_sat_code t.left t.right t.to t.scratch) rest r) (sym (sized_saturates t.to (a +ℤ b) (stored_sized t.to h.to_stored)))
      (wide_sum_sat-ends m v c t.scratch t.left t.right t.to a b os rest h.left_stored h.right_stored h.to_stored il ir (scratch refl));
  typed = λ x ts scratch state. takes-then (takes-spread x t.left t.right t.scratch ts (longs t.scratch x.locals (scratch refl))) (takes-sum_for (all_unsigned t.left t.right t.to) (all_signed t.left t.right t.to) x t.left t.right t.to t.scratch ts (longs t.scratch x.locals (scratch refl)));
  closed = closed-then (spread-closed t.left t.right t.scratch) (sum_nearest-closed t.left t.right t.to t.scratch);
}

pub wide_sub_sat-right : (t : Setting) → AreStored t.left t.right t.to → IsRightOfTwo (family.Arithmetic arithmetic_op.SubSat) t (wide_difference_sat_code t.left t.right t.to t.scratch)
wide_sub_sat-right t h = record {
  ends = λ m v c a b os rest il ir scratch state.
      subst (λ r. EndsOn m v c t.scratch t.left t.right t.to a b os (wide_difference_sat_code t.left t.right t.to t.scratch) rest r) (sym (sized_saturates t.to (a -ℤ b) (stored_sized t.to h.to_stored)))
      (wide_difference_sat-ends m v c t.scratch t.left t.right t.to a b os rest h.left_stored h.right_stored h.to_stored il ir (scratch refl));
  typed = λ x ts scratch state. takes-then (takes-spread x t.left t.right t.scratch ts (longs t.scratch x.locals (scratch refl))) (takes-difference_for (all_unsigned t.left t.right t.to) (all_signed t.left t.right t.to) x t.left t.right t.to t.scratch ts (longs t.scratch x.locals (scratch refl)));
  closed = closed-then (spread-closed t.left t.right t.scratch) (difference_nearest-closed t.left t.right t.to t.scratch);
}

pub wide_mul_sat-right : (t : Setting) → AreStored t.left t.right t.to → IsRightOfTwo (family.Arithmetic arithmetic_op.MulSat) t (wide_product_sat_code t.left t.right t.to t.scratch)
wide_mul_sat-right t h = record {
  ends = λ m v c a b os rest il ir scratch state.
      subst (λ r. EndsOn m v c t.scratch t.left t.right t.to a b os (wide_product_sat_code t.left t.right t.to t.scratch) rest r) (sym (sized_saturates t.to (a *ℤ b) (stored_sized t.to h.to_stored)))
      (wide_product_sat-ends m v c t.scratch t.left t.right t.to a b os rest h.left_stored h.right_stored h.to_stored il ir (scratch refl));
  typed = λ x ts scratch state. takes-words (both_unsigned t.left t.right) x (product_words t.left t.right t.scratch) t.left t.right t.to t.scratch ts (longs t.scratch x.locals (scratch refl)) (takes-product_words x t.left t.right t.scratch ts (longs t.scratch x.locals (scratch refl)));
  closed = closed-then (spread-closed t.left t.right t.scratch) (closed-then (product_words-closed t.left t.right t.scratch) (nearest-closed (both_unsigned t.left t.right) t.to t.scratch));
}
