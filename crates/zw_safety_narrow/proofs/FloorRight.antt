-- The code of what a quotient that is rounded down leaves is right wherever it stands.
use Rattle.std.proofs.Common.{◌≡◌, ℕ, ◌+◌, Bool, true, false, List, [], ◌∷◌, ◌++◌, Some, refl, subst, lit<, arith}
use Rattle.std.specs.Prelude.{◌&&◌, slice_get, if◌then◌else◌}
use Rattle.zw_num.specs.declared.int_ty.IntTy.{IntTy}
use Rattle.zw_num.specs.declared.int_ty.IntTy.TheVariants.{Sized, Comptime}
use Rattle.zw_num.specs.declared.operator.Operator.TheVariants as family
use Rattle.zw_num.specs.declared.operator.Division.TheVariants as division_op
use Rattle.zw_safety_narrow.proofs.FloorRuns.{modulo-ends, floor-ends}
use Rattle.zw_safety_narrow.proofs.NarrowTypes.{long_local, takes-extension, takes-extended, takes-long, takes-in_range, takes-wrap, takes-word}
use Rattle.zw_safety_narrow.proofs.OperatorsRight.{AreNarrow, narrow-takes}
use Rattle.zw_safety_narrow.proofs.SaturatingRight.{takes-tee_long}
use Rattle.zw_safety_narrow.proofs.ShareRight.{takes-divisor, closed-divisor}
use Rattle.zw_safety_narrow.specs.CastCode.{holds}
use Rattle.zw_safety_narrow.specs.Checked.{ScratchIsTyped, PanicStateIsTyped}
use Rattle.zw_safety_narrow.specs.DivisionCode.{divisor_tested, are_unsigned}
use Rattle.zw_safety_narrow.specs.FloorCode.{floored_rest, modulo_code, both_kept, whole_quotient, floor_long, floor_code}
use Rattle.zw_safety_narrow.specs.NarrowCode.{extended}
use Rattle.zw_safety_narrow.specs.Operators.{IsRightOfTwo}
use Rattle.zw_safety_narrow.specs.declared.setting.Setting.{Setting}
use Rattle.zw_wasm.proofs.Closing.{closed-then}
use Rattle.zw_wasm.proofs.TypingTakes.{takes-then, takes-local_get, takes-local_set}
use Rattle.zw_wasm.specs.declared.module.BinaryOperator.TheVariants.{Add, Sub, DivS, DivU, RemS}
use Rattle.zw_wasm.specs.declared.module.Conversion.TheVariants.{Wrap}
use Rattle.zw_wasm.specs.declared.module.Instr.TheVariants.{Binary, Convert}
use Rattle.zw_wasm.specs.declared.module.ValType.{ValType}
use Rattle.zw_wasm.specs.declared.module.ValType.TheVariants.{I32, I64}
use Rattle.zw_wasm.specs.Sequences.{Takes}
use Rattle.zw_wasm.specs.Typing.{Context}
use Rattle.zw_wasm.specs.WellFormed.{IsClosed}

takes-floored : (x : Context) (s : ℕ) (ts : List ValType) → ScratchIsTyped s x.locals → Takes x (floored_rest (s + 4)) (I64 ∷ I64 ∷ ts) (I64 ∷ ts)
takes-floored x s ts h =
    let there = long_local s x.locals h in
    takes-then (takes-long x RemS ts)
    (takes-then (takes-local_get x (s + 4) I64 (I64 ∷ ts) there)
    (takes-then (takes-long x Add ts) (takes-then (takes-local_get x (s + 4) I64 (I64 ∷ ts) there) (takes-long x RemS ts))))

takes-modulo : (x : Context) (left right : IntTy) (s : ℕ) (ts : List ValType) → ScratchIsTyped s x.locals → PanicStateIsTyped x.module_ → Takes x (modulo_code left right s) (I32 ∷ I32 ∷ ts) (I32 ∷ ts)
takes-modulo x left right s ts h state =
    takes-then (takes-divisor x s (I32 ∷ ts) h state) (takes-then (takes-extended x left right s ts h) (takes-then (takes-floored x s ts h) (takes-wrap x ts)))

pub mod-right : (t : Setting) → AreNarrow t.left t.right t.to → IsRightOfTwo (family.Division division_op.Mod) t (modulo_code t.left t.right t.scratch)
mod-right t h = record {
  ends = λ m v c a b os rest il ir scratch state. modulo-ends m v c t.scratch t.left t.right t.to a b os rest h.left_narrow h.right_narrow h.to_narrow il ir (scratch refl) state;
  typed = λ x ts scratch state. narrow-takes x (modulo_code t.left t.right t.scratch) ts t.left t.right t.to h (takes-modulo x t.left t.right t.scratch ts (scratch refl) state);
  closed = closed-then (divisor_tested t.scratch) (extended t.left t.right t.scratch ++ (floored_rest (t.scratch + 4) ++ Convert Wrap ∷ [])) (closed-divisor t.scratch) (record { by = λ open_ifs rest h. h });
}

-- ---- the quotient

second_long : (s : ℕ) (locals : List ValType) → ScratchIsTyped s locals → slice_get locals (s + 5) ≡ Some I64
second_long s locals h = subst (λ n. slice_get locals n ≡ Some I64) (omega arith) (h.second 1 (lit< tt))

pub takes-both : (x : Context) (left right : IntTy) (s : ℕ) (ts : List ValType) → ScratchIsTyped s x.locals → Takes x (both_kept left right s) (I32 ∷ I32 ∷ ts) (I64 ∷ I64 ∷ I64 ∷ ts)
takes-both x left right s ts h =
    let one = long_local s x.locals h in
    let two = second_long s x.locals h in
    takes-then (takes-extension x right (I32 ∷ ts))
    (takes-then (takes-local_set x (s + 4) I64 (I32 ∷ ts) one)
    (takes-then (takes-extension x left ts)
    (takes-then (takes-tee_long x (s + 5) ts two)
    (takes-then (takes-local_get x (s + 5) I64 (I64 ∷ ts) two) (takes-local_get x (s + 4) I64 (I64 ∷ I64 ∷ ts) one)))))

takes-whole : (x : Context) (s : ℕ) (ts : List ValType) → ScratchIsTyped s x.locals → Takes x (whole_quotient (s + 4)) (I64 ∷ I64 ∷ ts) (I64 ∷ ts)
takes-whole x s ts h =
    let there = long_local s x.locals h in
    takes-then (takes-long x Sub ts)
    (takes-then (takes-local_get x (s + 4) I64 (I64 ∷ ts) there)
    (takes-then (takes-long x DivS ts) (takes-then (takes-local_set x (s + 4) I64 ts there) (takes-local_get x (s + 4) I64 ts there))))

takes-floor_long : (x : Context) (left right to : IntTy) (s : ℕ) (ts : List ValType) → ScratchIsTyped s x.locals → PanicStateIsTyped x.module_ → Takes x (floor_long left right to s) (I32 ∷ I32 ∷ ts) (I32 ∷ ts)
takes-floor_long x left right to s ts h state =
    let there = long_local s x.locals h in
    takes-then (takes-both x left right s ts h)
    (takes-then (takes-floored x s (I64 ∷ ts) h)
    (takes-then (takes-whole x s ts h)
    (takes-then (takes-in_range x to ts state) (takes-then (takes-local_get x (s + 4) I64 ts there) (takes-wrap x ts)))))

takes-floor_for : (u : Bool) (x : Context) (left right to : IntTy) (s : ℕ) (ts : List ValType) → ScratchIsTyped s x.locals → PanicStateIsTyped x.module_ → Takes x (if u then Binary I32 DivU ∷ [] else floor_long left right to s) (I32 ∷ I32 ∷ ts) (I32 ∷ ts)
takes-floor_for true x left right to s ts h state = takes-word x DivU ts
takes-floor_for false x left right to s ts h state = takes-floor_long x left right to s ts h state

closed-floor_for : (u : Bool) (left right to : IntTy) (s : ℕ) → IsClosed (if u then Binary I32 DivU ∷ [] else floor_long left right to s)
closed-floor_for true left right to s = record { by = λ open_ifs rest h. h }
closed-floor_for false left right (Sized true count) s = record { by = λ open_ifs rest h. h }
closed-floor_for false left right (Sized false count) s = record { by = λ open_ifs rest h. h }
closed-floor_for false left right Comptime s = record { by = λ open_ifs rest h. h }

pub div_floor-right : (t : Setting) → AreNarrow t.left t.right t.to → IsRightOfTwo (family.Division division_op.DivFloor) t (floor_code t.left t.right t.to t.scratch)
div_floor-right t h =
    let u = are_unsigned t.left t.right && holds t.to t.left in
    record {
      ends = λ m v c a b os rest il ir scratch state. floor-ends m v c t.scratch t.left t.right t.to a b os rest h.left_narrow h.right_narrow h.to_narrow il ir (scratch refl) state;
      typed = λ x ts scratch state. narrow-takes x (floor_code t.left t.right t.to t.scratch) ts t.left t.right t.to h
          (takes-then (takes-divisor x t.scratch (I32 ∷ ts) (scratch refl) state) (takes-floor_for u x t.left t.right t.to t.scratch ts (scratch refl) state));
      closed = closed-then (divisor_tested t.scratch) (if u then Binary I32 DivU ∷ [] else floor_long t.left t.right t.to t.scratch) (closed-divisor t.scratch) (closed-floor_for u t.left t.right t.to t.scratch);
    }
