-- The code of exact shifts, and of the shift that stops at the bounds of its type, is right wherever it stands where a type has more than
-- 32 bits.
use Rattle.std.proofs.Common.{◌≡◌, ℕ, pos, ◌*ℤ◌, ◌+◌, Bool, true, false, List, [], ◌∷◌, refl, sym, subst}
use Rattle.std.specs.Prelude.{nat_lt, if◌then◌else◌}
use Rattle.zw_num.specs.Arithmetic.{width, power}
use Rattle.zw_num.specs.declared.int_ty.IntTy.{IntTy}
use Rattle.zw_num.specs.declared.operator.Operator.TheVariants as family
use Rattle.zw_num.specs.declared.operator.Shift.TheVariants as shift_op
use Rattle.zw_safety_narrow.proofs.CheckedTypes.{takes-if_panics}
use Rattle.zw_safety_narrow.proofs.NarrowTypes.{takes-long, takes-word, takes-long_const, takes-compare_long}
use Rattle.zw_safety_narrow.proofs.SaturatingRight.{takes-select_long, takes-tee_long}
use Rattle.zw_safety_narrow.proofs.SizedTypes.{sized_saturates, stored_sized}
use Rattle.zw_safety_narrow.specs.CastCode.{holds}
use Rattle.zw_safety_narrow.specs.Checked.{PanicStateIsTyped}
use Rattle.zw_safety_narrow.specs.CompareCode.{is_unsigned}
use Rattle.zw_safety_narrow.specs.Operators.{IsRightOfTwo, type_of}
use Rattle.zw_safety_narrow.specs.declared.setting.Setting.{Setting}
use Rattle.zw_safety_narrow.specs.ShiftCode.{right_operator}
use Rattle.zw_safety_wide.proofs.WideSaturatingRight.{takes-bound, bound-closed, select-closed}
use Rattle.zw_safety_wide.proofs.WideShareRight.{takes-shared, shared-closed}
use Rattle.zw_safety_narrow.proofs.NarrowRuns.{EndsOn}
use Rattle.zw_safety_wide.proofs.WideShiftRuns.{wide_left_exact-ends, wide_right_exact-ends, wide_left_sat-ends}
use Rattle.zw_safety_wide.specs.WideShiftCode.{moved_left, unlike, lost_tested, low_settled, wide_left_exact_code, wide_right_exact_code, wide_left_sat_code}
use Rattle.zw_safety_words.proofs.WideBitRight.{AreStored, takes-settled, takes-far}
use Rattle.zw_safety_words.proofs.WideClosed.{closed-then, spread-closed, settled-closed, if_closed, narrowed_long-closed}
use Rattle.zw_safety_words.proofs.WideTypes.{LongsAreTyped, longs, takes-spread, if_shorter-for}
use Rattle.zw_safety_words.specs.WideBitCode.{are_wide_amounts, far_tested}
use Rattle.zw_safety_words.specs.WideCode.{narrowed_long}
use Rattle.zw_wasm.proofs.TypingTakes.{takes-none, takes-then, takes-local_get, takes-local_set}
use Rattle.zw_wasm.specs.declared.module.BinaryOperator.{BinaryOperator}
use Rattle.zw_wasm.specs.declared.module.BinaryOperator.TheVariants.{And, Or, Shl}
use Rattle.zw_wasm.specs.declared.module.Comparison.TheVariants.{Ne, GeU}
use Rattle.zw_wasm.specs.declared.module.Instr.TheVariants.{LocalGet, LocalSet, I64Const, Compare, Binary}
use Rattle.zw_wasm.specs.declared.module.ValType.{ValType}
use Rattle.zw_wasm.specs.declared.module.ValType.TheVariants.{I32, I64}
use Rattle.zw_wasm.specs.Sequences.{Takes}
use Rattle.zw_wasm.specs.Typing.{Context}
use Rattle.zw_wasm.specs.WellFormed.{IsClosed}

-- ---- types

takes-amount_for : (u : Bool) (x : Context) (count s : ℕ) (ts : List ValType) → LongsAreTyped s x.locals → PanicStateIsTyped x.module_ → Takes x (if u then [] else far_tested count s) ts ts
takes-amount_for true x count s ts h state = takes-none x ts
takes-amount_for false x count s ts h state = takes-far x count s ts h state

takes-moved : (x : Context) (to : IntTy) (s : ℕ) (ts : List ValType) → LongsAreTyped s x.locals → Takes x (moved_left to s) ts (I64 ∷ ts)
takes-moved x to s ts h = takes-then (takes-shared x Shl s ts h) (if_shorter-for (nat_lt (width to) 64) x to ts)

takes-unlike : (x : Context) (o : BinaryOperator) (s : ℕ) (ts : List ValType) → LongsAreTyped s x.locals → Takes x (unlike o s) (I64 ∷ ts) (I32 ∷ ts)
takes-unlike x o s ts h =
    takes-then (takes-local_get x (s + 4) I64 (I64 ∷ ts) h.right)
    (takes-then (takes-long x o ts) (takes-then (takes-local_get x (s + 5) I64 (I64 ∷ ts) h.left) (takes-compare_long x Ne ts)))

takes-lost : (x : Context) (o : BinaryOperator) (s : ℕ) (ts : List ValType) → LongsAreTyped s x.locals → PanicStateIsTyped x.module_ → Takes x (lost_tested o s) (I64 ∷ ts) ts
takes-lost x o s ts h state = takes-then (takes-then (takes-tee_long x (s + 6) ts h.low) (takes-unlike x o s ts h)) (takes-if_panics x 10 ts state)

takes-low : (x : Context) (to : IntTy) (s : ℕ) (ts : List ValType) → LongsAreTyped s x.locals → Takes x (low_settled to s) ts (type_of to ∷ ts)
takes-low x to s ts h = takes-then (takes-local_get x (s + 6) I64 ts h.low) (takes-settled x to ts)

takes-besides_for : (u : Bool) (x : Context) (count s : ℕ) (ts : List ValType) → LongsAreTyped s x.locals → Takes x (if u then [] else LocalGet (s + 4) ∷ I64Const (pos count) ∷ Compare I64 GeU ∷ LocalGet (s + 5) ∷ I64Const (pos 0) ∷ Compare I64 Ne ∷ Binary I32 And ∷ Binary I32 Or ∷ []) (I32 ∷ ts) (I32 ∷ ts)
takes-besides_for true x count s ts h = takes-none x (I32 ∷ ts)
takes-besides_for false x count s ts h =
    takes-then (takes-local_get x (s + 4) I64 (I32 ∷ ts) h.right)
    (takes-then (takes-long_const x (pos count) (I64 ∷ I32 ∷ ts))
    (takes-then (takes-compare_long x GeU (I32 ∷ ts))
    (takes-then (takes-local_get x (s + 5) I64 (I32 ∷ I32 ∷ ts) h.left)
    (takes-then (takes-long_const x (pos 0) (I64 ∷ I32 ∷ I32 ∷ ts))
    (takes-then (takes-compare_long x Ne (I32 ∷ I32 ∷ ts)) (takes-then (takes-word x And (I32 ∷ ts)) (takes-word x Or ts)))))))

takes-left_exact : (x : Context) (left right to : IntTy) (s : ℕ) (ts : List ValType) → LongsAreTyped s x.locals → PanicStateIsTyped x.module_ → Takes x (wide_left_exact_code left right to s) (type_of right ∷ type_of left ∷ ts) (type_of to ∷ ts)
takes-left_exact x left right to s ts h state =
    takes-then (takes-spread x left right s ts h)
    (takes-then (takes-amount_for (are_wide_amounts right (width to)) x (width to) s ts h state)
    (takes-then (takes-moved x to s ts h) (takes-then (takes-lost x (right_operator to) s ts h state) (takes-low x to s ts h))))

takes-right_exact : (x : Context) (left right to : IntTy) (s : ℕ) (ts : List ValType) → LongsAreTyped s x.locals → PanicStateIsTyped x.module_ → Takes x (wide_right_exact_code left right to s) (type_of right ∷ type_of left ∷ ts) (type_of to ∷ ts)
takes-right_exact x left right to s ts h state =
    takes-then (takes-spread x left right s ts h)
    (takes-then (takes-amount_for (are_wide_amounts right (width to)) x (width to) s ts h state)
    (takes-then (takes-shared x (right_operator left) s ts h) (takes-then (takes-lost x Shl s ts h state) (takes-low x to s ts h))))

takes-left_sat : (x : Context) (left right to : IntTy) (s : ℕ) (ts : List ValType) → LongsAreTyped s x.locals → Takes x (wide_left_sat_code left right to s) (type_of right ∷ type_of left ∷ ts) (type_of to ∷ ts)
takes-left_sat x left right to s ts h =
    takes-then (takes-spread x left right s ts h)
    (takes-then (takes-then (takes-moved x to s ts h) (takes-local_set x (s + 6) I64 ts h.low))
    (takes-then (takes-bound (is_unsigned left) x to (s + 5) ts h.left)
    (takes-then (takes-then (takes-local_get x (s + 6) I64 (I64 ∷ ts) h.low)
    (takes-then (takes-local_get x (s + 6) I64 (I64 ∷ I64 ∷ ts) h.low) (takes-unlike x (right_operator to) s (I64 ∷ I64 ∷ ts) h)))
    (takes-then (takes-besides_for (are_wide_amounts right (width to)) x (width to) s (I64 ∷ I64 ∷ ts) h) (takes-then (takes-select_long x ts) (takes-settled x to ts))))))

-- ---- it ends all that it begins

amount_for-closed : (u : Bool) (count s : ℕ) → IsClosed (if u then [] else far_tested count s)
amount_for-closed true count s = record { by = λ open_ifs rest h. h }
amount_for-closed false count s = record { by = λ open_ifs rest h. h }

moved-closed : (to : IntTy) (s : ℕ) → IsClosed (moved_left to s)
moved-closed to s = closed-then (shared-closed Shl s) (if_closed (nat_lt (width to) 64) (narrowed_long to) (narrowed_long-closed to))

lost-closed : (o : BinaryOperator) (s : ℕ) → IsClosed (lost_tested o s)
lost-closed o s = record { by = λ open_ifs rest h. h }

get-closed : (n : ℕ) → IsClosed (LocalGet n ∷ [])
get-closed n = record { by = λ open_ifs rest h. h }

set-closed : (n : ℕ) → IsClosed (LocalSet n ∷ [])
set-closed n = record { by = λ open_ifs rest h. h }

low-closed : (to : IntTy) (s : ℕ) → IsClosed (low_settled to s)
low-closed to s = closed-then (get-closed (s + 6)) (settled-closed to)

kept_unlike-closed : (o : BinaryOperator) (s : ℕ) → IsClosed (LocalGet (s + 6) ∷ LocalGet (s + 6) ∷ unlike o s)
kept_unlike-closed o s = record { by = λ open_ifs rest h. h }

besides_for-closed : (u : Bool) (count s : ℕ) → IsClosed (if u then [] else LocalGet (s + 4) ∷ I64Const (pos count) ∷ Compare I64 GeU ∷ LocalGet (s + 5) ∷ I64Const (pos 0) ∷ Compare I64 Ne ∷ Binary I32 And ∷ Binary I32 Or ∷ [])
besides_for-closed true count s = record { by = λ open_ifs rest h. h }
besides_for-closed false count s = record { by = λ open_ifs rest h. h }

left_exact-closed : (left right to : IntTy) (s : ℕ) → IsClosed (wide_left_exact_code left right to s)
left_exact-closed left right to s =
    closed-then (spread-closed left right s)
    (closed-then (amount_for-closed (are_wide_amounts right (width to)) (width to) s)
    (closed-then (moved-closed to s) (closed-then (lost-closed (right_operator to) s) (low-closed to s))))

right_exact-closed : (left right to : IntTy) (s : ℕ) → IsClosed (wide_right_exact_code left right to s)
right_exact-closed left right to s =
    closed-then (spread-closed left right s)
    (closed-then (amount_for-closed (are_wide_amounts right (width to)) (width to) s)
    (closed-then (shared-closed (right_operator left) s) (closed-then (lost-closed Shl s) (low-closed to s))))

left_sat-closed : (left right to : IntTy) (s : ℕ) → IsClosed (wide_left_sat_code left right to s)
left_sat-closed left right to s =
    closed-then (spread-closed left right s)
    (closed-then (closed-then (moved-closed to s) (set-closed (s + 6)))
    (closed-then (bound-closed (is_unsigned left) to (s + 5))
    (closed-then (kept_unlike-closed (right_operator to) s)
    (closed-then (besides_for-closed (are_wide_amounts right (width to)) (width to) s) (closed-then select-closed (settled-closed to))))))

-- ---- the operators

pub wide_shl_exact-right : (t : Setting) → AreStored t.left t.right t.to → holds t.to t.left ≡ true → IsRightOfTwo (family.Shift shift_op.ShlExact) t (wide_left_exact_code t.left t.right t.to t.scratch)
wide_shl_exact-right t h e = record {
  ends = λ m v c a b os rest il ir scratch state. wide_left_exact-ends m v c t.scratch t.left t.right t.to a b os rest h.left_stored h.right_stored h.to_stored e il ir (scratch refl) state;
  typed = λ x ts scratch state. takes-left_exact x t.left t.right t.to t.scratch ts (longs t.scratch x.locals (scratch refl)) state;
  closed = left_exact-closed t.left t.right t.to t.scratch;
}

pub wide_shr_exact-right : (t : Setting) → AreStored t.left t.right t.to → IsRightOfTwo (family.Shift shift_op.ShrExact) t (wide_right_exact_code t.left t.right t.to t.scratch)
wide_shr_exact-right t h = record {
  ends = λ m v c a b os rest il ir scratch state. wide_right_exact-ends m v c t.scratch t.left t.right t.to a b os rest h.left_stored h.right_stored h.to_stored il ir (scratch refl) state;
  typed = λ x ts scratch state. takes-right_exact x t.left t.right t.to t.scratch ts (longs t.scratch x.locals (scratch refl)) state;
  closed = right_exact-closed t.left t.right t.to t.scratch;
}

pub wide_shl_sat-right : (t : Setting) → AreStored t.left t.right t.to → holds t.to t.left ≡ true → is_unsigned t.right ≡ true → IsRightOfTwo (family.Shift shift_op.ShlSat) t (wide_left_sat_code t.left t.right t.to t.scratch)
wide_shl_sat-right t h e u = record {
  ends = λ m v c a b os rest il ir scratch state.
      subst (λ r. EndsOn m v c t.scratch t.left t.right t.to a b os (wide_left_sat_code t.left t.right t.to t.scratch) rest r) (sym (sized_saturates t.to (a *ℤ power b) (stored_sized t.to h.to_stored)))
      (wide_left_sat-ends m v c t.scratch t.left t.right t.to a b os rest h.left_stored h.right_stored h.to_stored e u il ir (scratch refl));
  typed = λ x ts scratch state. takes-left_sat x t.left t.right t.to t.scratch ts (longs t.scratch x.locals (scratch refl));
  closed = left_sat-closed t.left t.right t.to t.scratch;
}
