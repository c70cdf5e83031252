-- The code of shifts, quotients and rests is right wherever it stands.
use Rattle.std.proofs.Common.{ℕ, pos, Bool, true, false, List, [], ◌∷◌, ◌++◌, refl}
use Rattle.std.specs.Prelude.{◌&&◌, if◌then◌else◌}
use Rattle.zw_num.specs.Arithmetic.{width}
use Rattle.zw_num.specs.declared.int_ty.IntTy.{IntTy}
use Rattle.zw_num.specs.declared.operator.Operator.TheVariants as family
use Rattle.zw_num.specs.declared.operator.Division.TheVariants as division_op
use Rattle.zw_num.specs.declared.operator.Shift.TheVariants as shift_op
use Rattle.zw_safety_narrow.proofs.CastRight.{takes-tested, takes-unless, takes-fitted, closed-unless, closed-fitted}
use Rattle.zw_safety_narrow.proofs.DivisionRuns.{quotient-ends, rest-ends}
use Rattle.zw_safety_narrow.proofs.NarrowTypes.{takes-word, takes-extended, takes-long, takes-wrap, takes-exact, exact-closed}
use Rattle.zw_safety_narrow.proofs.OperatorsRight.{AreNarrow, narrow-takes}
use Rattle.zw_safety_narrow.proofs.OrderRight.{takes-compare}
use Rattle.zw_safety_narrow.proofs.ShiftRuns.{left-ends, right-ends}
use Rattle.zw_safety_narrow.specs.CastCode.{tested, holds}
use Rattle.zw_safety_narrow.specs.Checked.{ScratchIsTyped, PanicStateIsTyped}
use Rattle.zw_safety_narrow.specs.DivisionCode.{is_zero, divisor_tested, are_unsigned, quotient_code, rest_code}
use Rattle.zw_safety_narrow.specs.NarrowCode.{extended, exact_code, fitted}
use Rattle.zw_safety_narrow.specs.Operators.{IsRightOfTwo}
use Rattle.zw_safety_narrow.specs.declared.setting.Setting.{Setting}
use Rattle.zw_safety_narrow.specs.ShiftCode.{are_amounts, too_far, amount_tested, left_code, right_operator, right_code}
use Rattle.zw_wasm.proofs.Closing.{closed-then}
use Rattle.zw_wasm.proofs.TypingTakes.{takes-then, takes-instr, takes-i32_const}
use Rattle.zw_wasm.specs.declared.module.BinaryOperator.TheVariants.{DivS, DivU, RemS, RemU, Shl}
use Rattle.zw_wasm.specs.declared.module.Comparison.TheVariants.{GeU}
use Rattle.zw_wasm.specs.declared.module.Conversion.TheVariants.{Wrap}
use Rattle.zw_wasm.specs.declared.module.Instr.TheVariants.{IsZero, Binary, Convert}
use Rattle.zw_wasm.specs.declared.module.ValType.{ValType}
use Rattle.zw_wasm.specs.declared.module.ValType.TheVariants.{I32, I64}
use Rattle.zw_wasm.specs.Sequences.{Takes}
use Rattle.zw_wasm.specs.Typing.{Context}
use Rattle.zw_wasm.specs.WellFormed.{IsClosed}

-- ---- the tests in front

pub takes-amount : (x : Context) (count : ℕ) (right : IntTy) (s : ℕ) (ts : List ValType) → ScratchIsTyped s x.locals → PanicStateIsTyped x.module_ → Takes x (amount_tested count right s) (I32 ∷ ts) (I32 ∷ ts)
takes-amount x count right s ts h state =
    takes-unless (are_amounts right count) x (tested (too_far count) 9 s) ts
    (takes-tested x (too_far count) 9 s ts h state (takes-then (takes-i32_const x (pos count) (I32 ∷ ts)) (takes-compare x GeU ts)))

takes-is_zero : (x : Context) (ts : List ValType) → Takes x is_zero (I32 ∷ ts) (I32 ∷ ts)
takes-is_zero x ts = takes-instr x (IsZero I32) (I32 ∷ ts) (I32 ∷ ts) (λ below c outer. refl)

pub takes-divisor : (x : Context) (s : ℕ) (ts : List ValType) → ScratchIsTyped s x.locals → PanicStateIsTyped x.module_ → Takes x (divisor_tested s) (I32 ∷ ts) (I32 ∷ ts)
takes-divisor x s ts h state = takes-tested x is_zero 7 s ts h state (takes-is_zero x ts)

pub closed-amount : (count : ℕ) (right : IntTy) (s : ℕ) → IsClosed (amount_tested count right s)
closed-amount count right s = closed-unless (are_amounts right count) (tested (too_far count) 9 s) (record { by = λ open_ifs rest h. h })

pub closed-divisor : (s : ℕ) → IsClosed (divisor_tested s)
closed-divisor s = record { by = λ open_ifs rest h. h }

-- ---- shifts

pub shl-right : (t : Setting) → AreNarrow t.left t.right t.to → IsRightOfTwo (family.Shift shift_op.Shl) t (left_code t.right t.to t.scratch)
shl-right t h = record {
  ends = λ m v c a b os rest il ir scratch state. left-ends m v c t.scratch t.left t.right t.to a b os rest h.left_narrow h.right_narrow h.to_narrow ir (scratch refl) state;
  typed = λ x ts scratch state. narrow-takes x (left_code t.right t.to t.scratch) ts t.left t.right t.to h
      (takes-then (takes-amount x (width t.to) t.right t.scratch (I32 ∷ ts) (scratch refl) state) (takes-then (takes-word x Shl ts) (takes-fitted x t.to ts)));
  closed = closed-then (amount_tested (width t.to) t.right t.scratch) (Binary I32 Shl ∷ fitted t.to) (closed-amount (width t.to) t.right t.scratch)
      (closed-then (Binary I32 Shl ∷ []) (fitted t.to) (record { by = λ open_ifs rest h. h }) (closed-fitted t.to));
}

pub shr-right : (t : Setting) → AreNarrow t.left t.right t.to → IsRightOfTwo (family.Shift shift_op.Shr) t (right_code t.left t.right t.to t.scratch)
shr-right t h = record {
  ends = λ m v c a b os rest il ir scratch state. right-ends m v c t.scratch t.left t.right t.to a b os rest h.left_narrow h.right_narrow h.to_narrow il ir (scratch refl) state;
  typed = λ x ts scratch state. narrow-takes x (right_code t.left t.right t.to t.scratch) ts t.left t.right t.to h
      (takes-then (takes-amount x (width t.to) t.right t.scratch (I32 ∷ ts) (scratch refl) state) (takes-word x (right_operator t.left) ts));
  closed = closed-then (amount_tested (width t.to) t.right t.scratch) (Binary I32 (right_operator t.left) ∷ []) (closed-amount (width t.to) t.right t.scratch) (record { by = λ open_ifs rest h. h });
}

-- ---- quotients

takes-quotient_for : (u : Bool) (x : Context) (left right to : IntTy) (s : ℕ) (ts : List ValType) → ScratchIsTyped s x.locals → PanicStateIsTyped x.module_ → Takes x (if u then Binary I32 DivU ∷ [] else exact_code DivS left right to s) (I32 ∷ I32 ∷ ts) (I32 ∷ ts)
takes-quotient_for true x left right to s ts h state = takes-word x DivU ts
takes-quotient_for false x left right to s ts h state = takes-exact x DivS left right to s ts h state

closed-quotient_for : (u : Bool) (left right to : IntTy) (s : ℕ) → IsClosed (if u then Binary I32 DivU ∷ [] else exact_code DivS left right to s)
closed-quotient_for true left right to s = record { by = λ open_ifs rest h. h }
closed-quotient_for false left right to s = exact-closed DivS left right to s

takes-quotient : (x : Context) (left right to : IntTy) (s : ℕ) (ts : List ValType) → ScratchIsTyped s x.locals → PanicStateIsTyped x.module_ → Takes x (quotient_code left right to s) (I32 ∷ I32 ∷ ts) (I32 ∷ ts)
takes-quotient x left right to s ts h state =
    takes-then (takes-divisor x s (I32 ∷ ts) h state) (takes-quotient_for (are_unsigned left right && holds to left) x left right to s ts h state)

closed-quotient : (left right to : IntTy) (s : ℕ) → IsClosed (quotient_code left right to s)
closed-quotient left right to s =
    let u = are_unsigned left right && holds to left in
    closed-then (divisor_tested s) (if u then Binary I32 DivU ∷ [] else exact_code DivS left right to s) (closed-divisor s) (closed-quotient_for u left right to s)

pub div-right : (t : Setting) → AreNarrow t.left t.right t.to → IsRightOfTwo (family.Division division_op.Div) t (quotient_code t.left t.right t.to t.scratch)
div-right t h = record {
  ends = λ m v c a b os rest il ir scratch state. quotient-ends m v c t.scratch t.left t.right t.to a b os rest h.left_narrow h.right_narrow h.to_narrow il ir (scratch refl) state;
  typed = λ x ts scratch state. narrow-takes x (quotient_code t.left t.right t.to t.scratch) ts t.left t.right t.to h (takes-quotient x t.left t.right t.to t.scratch ts (scratch refl) state);
  closed = closed-quotient t.left t.right t.to t.scratch;
}

pub div_trunc-right : (t : Setting) → AreNarrow t.left t.right t.to → IsRightOfTwo (family.Division division_op.DivTrunc) t (quotient_code t.left t.right t.to t.scratch)
div_trunc-right t h = record {
  ends = λ m v c a b os rest il ir scratch state. quotient-ends m v c t.scratch t.left t.right t.to a b os rest h.left_narrow h.right_narrow h.to_narrow il ir (scratch refl) state;
  typed = λ x ts scratch state. narrow-takes x (quotient_code t.left t.right t.to t.scratch) ts t.left t.right t.to h (takes-quotient x t.left t.right t.to t.scratch ts (scratch refl) state);
  closed = closed-quotient t.left t.right t.to t.scratch;
}

-- ---- rests

takes-rest_for : (u : Bool) (x : Context) (left right : IntTy) (s : ℕ) (ts : List ValType) → ScratchIsTyped s x.locals → Takes x (if u then Binary I32 RemU ∷ [] else extended left right s ++ (Binary I64 RemS ∷ Convert Wrap ∷ [])) (I32 ∷ I32 ∷ ts) (I32 ∷ ts)
takes-rest_for true x left right s ts h = takes-word x RemU ts
takes-rest_for false x left right s ts h = takes-then (takes-extended x left right s ts h) (takes-then (takes-long x RemS ts) (takes-wrap x ts))

closed-rest_for : (u : Bool) (left right : IntTy) (s : ℕ) → IsClosed (if u then Binary I32 RemU ∷ [] else extended left right s ++ (Binary I64 RemS ∷ Convert Wrap ∷ []))
closed-rest_for true left right s = record { by = λ open_ifs rest h. h }
closed-rest_for false left right s = record { by = λ open_ifs rest h. h }

takes-rest : (x : Context) (left right : IntTy) (s : ℕ) (ts : List ValType) → ScratchIsTyped s x.locals → PanicStateIsTyped x.module_ → Takes x (rest_code left right s) (I32 ∷ I32 ∷ ts) (I32 ∷ ts)
takes-rest x left right s ts h state = takes-then (takes-divisor x s (I32 ∷ ts) h state) (takes-rest_for (are_unsigned left right) x left right s ts h)

closed-rest : (left right : IntTy) (s : ℕ) → IsClosed (rest_code left right s)
closed-rest left right s =
    let u = are_unsigned left right in
    closed-then (divisor_tested s) (if u then Binary I32 RemU ∷ [] else extended left right s ++ (Binary I64 RemS ∷ Convert Wrap ∷ [])) (closed-divisor s) (closed-rest_for u left right s)

pub rem-right : (t : Setting) → AreNarrow t.left t.right t.to → IsRightOfTwo (family.Division division_op.Rem) t (rest_code t.left t.right t.scratch)
rem-right t h = record {
  ends = λ m v c a b os rest il ir scratch state. rest-ends m v c t.scratch t.left t.right t.to a b os rest h.left_narrow h.right_narrow h.to_narrow il ir (scratch refl) state;
  typed = λ x ts scratch state. narrow-takes x (rest_code t.left t.right t.scratch) ts t.left t.right t.to h (takes-rest x t.left t.right t.scratch ts (scratch refl) state);
  closed = closed-rest t.left t.right t.scratch;
}

pub rem_trunc-right : (t : Setting) → AreNarrow t.left t.right t.to → IsRightOfTwo (family.Division division_op.RemTrunc) t (rest_code t.left t.right t.scratch)
rem_trunc-right t h = record {
  ends = λ m v c a b os rest il ir scratch state. rest-ends m v c t.scratch t.left t.right t.to a b os rest h.left_narrow h.right_narrow h.to_narrow il ir (scratch refl) state;
  typed = λ x ts scratch state. narrow-takes x (rest_code t.left t.right t.scratch) ts t.left t.right t.to h (takes-rest x t.left t.right t.scratch ts (scratch refl) state);
  closed = closed-rest t.left t.right t.scratch;
}
