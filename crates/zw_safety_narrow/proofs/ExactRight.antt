-- The code of exact divisions and shifts, and of the shift that stops at the bounds of its type, is right wherever it stands.
use Rattle.std.proofs.Common.{◌≡◌, ℕ, ◌+◌, Bool, true, false, List, [], ◌∷◌, ◌++◌, Some, refl, sym, ◌*ℤ◌, subst, lit<, arith}
use Rattle.std.specs.Prelude.{nat_lt, ◌&&◌, slice_get, if◌then◌else◌}
use Rattle.zw_num.specs.Arithmetic.{width, power}
use Rattle.zw_num.specs.declared.int_ty.IntTy.{IntTy}
use Rattle.zw_num.specs.declared.int_ty.IntTy.TheVariants.{Sized, Comptime}
use Rattle.zw_num.specs.declared.operator.Operator.TheVariants as family
use Rattle.zw_num.specs.declared.operator.Division.TheVariants as division_op
use Rattle.zw_num.specs.declared.operator.Shift.TheVariants as shift_op
use Rattle.zw_safety_narrow.proofs.CastRight.{takes-unless, closed-unless}
use Rattle.zw_safety_narrow.proofs.CheckedTypes.{first_local, second_local, takes-if_panics}
use Rattle.zw_safety_narrow.proofs.CountRight.{takes-at_most}
use Rattle.zw_safety_narrow.proofs.NarrowRuns.{EndsOn}
use Rattle.zw_safety_narrow.proofs.ExactRuns.{exact_quotient-ends, left_exact-ends, right_exact-ends}
use Rattle.zw_safety_narrow.proofs.FloorRight.{takes-both}
use Rattle.zw_safety_narrow.proofs.NarrowTypes.{long_local, exact_or-closed, takes-exact_or, takes-in_range, takes-long, takes-word, takes-wrap}
use Rattle.zw_safety_narrow.proofs.OperatorsRight.{AreNarrow, narrow-takes}
use Rattle.zw_safety_narrow.proofs.OrderRight.{takes-compare, takes-doubled}
use Rattle.zw_safety_narrow.proofs.SaturatingRight.{takes-natural, takes-saturated, takes-tee_long}
use Rattle.zw_safety_narrow.proofs.SaturatingShifts.{shift_sat-ends}
use Rattle.zw_safety_narrow.proofs.ShareRight.{closed-amount, closed-divisor, takes-amount, takes-divisor}
use Rattle.zw_safety_narrow.proofs.SizedTypes.{sized_saturates, narrow_sized}
use Rattle.zw_safety_narrow.specs.CastCode.{holds}
use Rattle.zw_safety_narrow.specs.Checked.{ScratchIsTyped, PanicStateIsTyped}
use Rattle.zw_safety_narrow.specs.CompareCode.{is_unsigned, doubled}
use Rattle.zw_safety_narrow.specs.CountCode.{at_most}
use Rattle.zw_safety_narrow.specs.DivisionCode.{are_unsigned, divisor_tested}
use Rattle.zw_safety_narrow.specs.ExactCode.{exact_short, kept_quotient, no_rest, exact_long, exact_quotient_code, left_exact_code, none_dropped_code, right_exact_code}
use Rattle.zw_safety_narrow.specs.NarrowCode.{exact_code_or}
use Rattle.zw_safety_narrow.specs.Operators.{IsRightOfTwo}
use Rattle.zw_safety_narrow.specs.declared.setting.Setting.{Setting}
use Rattle.zw_safety_narrow.specs.SaturatingCode.{saturated_code, natural_code, bounded_amount, saturated_left_code}
use Rattle.zw_safety_narrow.specs.ShiftCode.{amount_tested, right_operator}
use Rattle.zw_wasm.proofs.Closing.{closed-then}
use Rattle.zw_wasm.proofs.TypingTakes.{takes-then, takes-local_get}
use Rattle.zw_wasm.specs.declared.module.BinaryOperator.{BinaryOperator}
use Rattle.zw_wasm.specs.declared.module.BinaryOperator.TheVariants.{DivS, DivU, RemS, RemU, Shl}
use Rattle.zw_wasm.specs.declared.module.Comparison.TheVariants.{Ne}
use Rattle.zw_wasm.specs.declared.module.Instr.TheVariants.{Binary}
use Rattle.zw_wasm.specs.declared.module.ValType.{ValType}
use Rattle.zw_wasm.specs.declared.module.ValType.TheVariants.{I32, I64}
use Rattle.zw_wasm.specs.Sequences.{Takes}
use Rattle.zw_wasm.specs.Typing.{Context}
use Rattle.zw_wasm.specs.WellFormed.{IsClosed}

-- ---- exact shifts

pub shl_exact-right : (t : Setting) → AreNarrow t.left t.right t.to → IsRightOfTwo (family.Shift shift_op.ShlExact) t (left_exact_code t.left t.right t.to t.scratch)
shl_exact-right t h = record {
  ends = λ m v c a b os rest il ir scratch state. left_exact-ends m v c t.scratch t.left t.right t.to a b os rest h.left_narrow h.right_narrow h.to_narrow il ir (scratch refl) state;
  typed = λ x ts scratch state. narrow-takes x (left_exact_code t.left t.right t.to t.scratch) ts t.left t.right t.to h
      (takes-then (takes-amount x (width t.to) t.right t.scratch (I32 ∷ ts) (scratch refl) state) (takes-exact_or x 10 Shl t.left t.right t.to t.scratch ts (scratch refl) state));
  closed = closed-then (amount_tested (width t.to) t.right t.scratch) (exact_code_or 10 Shl t.left t.right t.to t.scratch) (closed-amount (width t.to) t.right t.scratch) (exact_or-closed 10 Shl t.left t.right t.to t.scratch);
}

takes-none_dropped : (x : Context) (o : BinaryOperator) (s : ℕ) (ts : List ValType) → ScratchIsTyped s x.locals → PanicStateIsTyped x.module_ → Takes x (none_dropped_code o s) (I32 ∷ I32 ∷ ts) ts
takes-none_dropped x o s ts h state =
    let right = first_local s x.locals h in
    let left = second_local s x.locals h in
    takes-then (takes-word x o ts)
    (takes-then (takes-local_get x s I32 (I32 ∷ ts) right)
    (takes-then (takes-word x Shl ts)
    (takes-then (takes-local_get x (s + 1) I32 (I32 ∷ ts) left)
    (takes-then (takes-compare x Ne ts) (takes-if_panics x 10 ts state)))))

pub shr_exact-right : (t : Setting) → AreNarrow t.left t.right t.to → IsRightOfTwo (family.Shift shift_op.ShrExact) t (right_exact_code t.left t.right t.to t.scratch)
shr_exact-right t h =
    let o = right_operator t.left in
    record {
      ends = λ m v c a b os rest il ir scratch state. right_exact-ends m v c t.scratch t.left t.right t.to a b os rest h.left_narrow h.right_narrow h.to_narrow il ir (scratch refl) state;
      typed = λ x ts scratch state. narrow-takes x (right_exact_code t.left t.right t.to t.scratch) ts t.left t.right t.to h
          (takes-then (takes-amount x (width t.to) t.right t.scratch (I32 ∷ ts) (scratch refl) state)
          (takes-then (takes-doubled x t.scratch ts (scratch refl))
          (takes-then (takes-none_dropped x o t.scratch (I32 ∷ I32 ∷ ts) (scratch refl) state) (takes-word x o ts))));
      closed = closed-then (amount_tested (width t.to) t.right t.scratch) (doubled t.scratch ++ (none_dropped_code o t.scratch ++ (Binary I32 o ∷ []))) (closed-amount (width t.to) t.right t.scratch) (record { by = λ open_ifs rest h. h });
    }

-- ---- exact quotients

third_long : (s : ℕ) (locals : List ValType) → ScratchIsTyped s locals → slice_get locals (s + 6) ≡ Some I64
third_long s locals h = subst (λ n. slice_get locals n ≡ Some I64) (omega arith) (h.second 2 (lit< tt))

takes-short : (x : Context) (s : ℕ) (ts : List ValType) → ScratchIsTyped s x.locals → PanicStateIsTyped x.module_ → Takes x (exact_short s) (I32 ∷ I32 ∷ ts) (I32 ∷ ts)
takes-short x s ts h state =
    takes-then (takes-doubled x s ts h)
    (takes-then (takes-word x RemU (I32 ∷ I32 ∷ ts)) (takes-then (takes-if_panics x 8 (I32 ∷ I32 ∷ ts) state) (takes-word x DivU ts)))

takes-kept : (x : Context) (s : ℕ) (ts : List ValType) → ScratchIsTyped s x.locals → Takes x (kept_quotient s) (I64 ∷ I64 ∷ ts) (I64 ∷ ts)
takes-kept x s ts h = takes-then (takes-long x DivS ts) (takes-tee_long x (s + 6) ts (third_long s x.locals h))

takes-no_rest : (x : Context) (s : ℕ) (ts : List ValType) → ScratchIsTyped s x.locals → PanicStateIsTyped x.module_ → Takes x (no_rest s) (I64 ∷ ts) ts
takes-no_rest x s ts h state =
    takes-then (takes-local_get x (s + 4) I64 (I64 ∷ ts) (long_local s x.locals h))
    (takes-then (takes-long x RemS ts) (takes-then (takes-wrap x ts) (takes-if_panics x 8 ts state)))

takes-exact_long : (x : Context) (left right to : IntTy) (s : ℕ) (ts : List ValType) → ScratchIsTyped s x.locals → PanicStateIsTyped x.module_ → Takes x (exact_long left right to s) (I32 ∷ I32 ∷ ts) (I32 ∷ ts)
takes-exact_long x left right to s ts h state =
    takes-then (takes-both x left right s ts h)
    (takes-then (takes-kept x s (I64 ∷ ts) h)
    (takes-then (takes-in_range x to (I64 ∷ ts) state)
    (takes-then (takes-no_rest x s ts h state)
    (takes-then (takes-local_get x (s + 6) I64 ts (third_long s x.locals h)) (takes-wrap x ts)))))

takes-quotient_for : (u : Bool) (x : Context) (left right to : IntTy) (s : ℕ) (ts : List ValType) → ScratchIsTyped s x.locals → PanicStateIsTyped x.module_ → Takes x (if u then exact_short s else exact_long left right to s) (I32 ∷ I32 ∷ ts) (I32 ∷ ts)
takes-quotient_for true x left right to s ts h state = takes-short x s ts h state
takes-quotient_for false x left right to s ts h state = takes-exact_long x left right to s ts h state

closed-quotient_for : (u : Bool) (left right to : IntTy) (s : ℕ) → IsClosed (if u then exact_short s else exact_long left right to s)
closed-quotient_for true left right to s = record { by = λ open_ifs rest h. h }
closed-quotient_for false left right (Sized true count) s = record { by = λ open_ifs rest h. h }
closed-quotient_for false left right (Sized false count) s = record { by = λ open_ifs rest h. h }
closed-quotient_for false left right Comptime s = record { by = λ open_ifs rest h. h }

pub div_exact-right : (t : Setting) → AreNarrow t.left t.right t.to → IsRightOfTwo (family.Division division_op.DivExact) t (exact_quotient_code t.left t.right t.to t.scratch)
div_exact-right t h =
    let u = are_unsigned t.left t.right && holds t.to t.left in
    record {
      ends = λ m v c a b os rest il ir scratch state. exact_quotient-ends m v c t.scratch t.left t.right t.to a b os rest h.left_narrow h.right_narrow h.to_narrow il ir (scratch refl) state;
      typed = λ x ts scratch state. narrow-takes x (exact_quotient_code t.left t.right t.to t.scratch) ts t.left t.right t.to h
          (takes-then (takes-divisor x t.scratch (I32 ∷ ts) (scratch refl) state) (takes-quotient_for u x t.left t.right t.to t.scratch ts (scratch refl) state));
      closed = closed-then (divisor_tested t.scratch) (if u then exact_short t.scratch else exact_long t.left t.right t.to t.scratch) (closed-divisor t.scratch) (closed-quotient_for u t.left t.right t.to t.scratch);
    }

-- ---- the shift that stops at the bounds

takes-shift_for : (u : Bool) (x : Context) (left right to : IntTy) (s : ℕ) (ts : List ValType) → ScratchIsTyped s x.locals → Takes x (if u then natural_code Shl left right to s else saturated_code Shl left right to s) (I32 ∷ I32 ∷ ts) (I32 ∷ ts)
takes-shift_for true x left right to s ts h = takes-natural x Shl left right to s ts h
takes-shift_for false x left right to s ts h = takes-saturated x Shl left right to s ts h

closed-shift_for : (u : Bool) (left right to : IntTy) (s : ℕ) → IsClosed (if u then natural_code Shl left right to s else saturated_code Shl left right to s)
closed-shift_for true left right to s = record { by = λ open_ifs rest h. h }
closed-shift_for false left right to s = record { by = λ open_ifs rest h. h }

pub shl_sat-right : (t : Setting) → AreNarrow t.left t.right t.to → is_unsigned t.right ≡ true → IsRightOfTwo (family.Shift shift_op.ShlSat) t (saturated_left_code t.left t.right t.to t.scratch)
shl_sat-right t h u =
    let few = nat_lt (width t.right) 6 in
    let is = if is_unsigned t.left then natural_code Shl t.left t.right t.to t.scratch else saturated_code Shl t.left t.right t.to t.scratch in
    record {
      ends = λ m v c a b os rest il ir scratch state.
          subst (λ r. EndsOn m v c t.scratch t.left t.right t.to a b os (saturated_left_code t.left t.right t.to t.scratch) rest r) (sym (sized_saturates t.to (a *ℤ power b) (narrow_sized t.to h.to_narrow)))
          (shift_sat-ends m v c t.scratch t.left t.right t.to a b os rest h.left_narrow h.right_narrow h.to_narrow u il ir (scratch refl));
      typed = λ x ts scratch state. narrow-takes x (saturated_left_code t.left t.right t.to t.scratch) ts t.left t.right t.to h
          (takes-then (takes-unless few x (at_most 32 t.scratch) (I32 ∷ ts) (takes-at_most x 32 t.scratch (I32 ∷ ts) (scratch refl))) (takes-shift_for (is_unsigned t.left) x t.left t.right t.to t.scratch ts (scratch refl)));
      closed = closed-then (bounded_amount t.right t.scratch) is (closed-unless few (at_most 32 t.scratch) (record { by = λ open_ifs rest h. h })) (closed-shift_for (is_unsigned t.left) t.left t.right t.to t.scratch);
    }
