-- The code of operators of one operand is right wherever it stands.
use Rattle.std.proofs.Common.{ℕ, pos, neg_ℤ, ◌+◌, ◌-◌, ◌/◌, ◌^◌, Bool, true, false, List, [], ◌∷◌, refl, sym, subst}
use Rattle.std.specs.Prelude.{nat_lt, nat_le, if◌then◌else◌}
use Rattle.zw_num.specs.Arithmetic.{width}
use Rattle.zw_num.specs.declared.int_ty.IntTy.{IntTy}
use Rattle.zw_num.specs.declared.int_ty.IntTy.TheVariants.{Sized, Comptime}
use Rattle.zw_num.specs.declared.operator.Operator.TheVariants as family
use Rattle.zw_num.specs.declared.operator.Cast.TheVariants as cast_op
use Rattle.zw_num.specs.declared.operator.Logic.TheVariants as logic_op
use Rattle.zw_num.specs.declared.operator.Unary.TheVariants as unary_op
use Rattle.zw_safety_narrow.proofs.CastRuns.{EndsOnOne, stays, cast-ends, truncated-ends, negated-ends, opposite-ends, turned-ends, distance-ends, not-ends}
use Rattle.zw_safety_narrow.proofs.CheckedTypes.{first_local, takes-if_panics}
use Rattle.zw_safety_narrow.proofs.NarrowTypes.{type-narrow, long_local, takes-extension, takes-long, takes-long_const, takes-in_range, takes-wrap, takes-word, takes-if_narrower}
use Rattle.zw_safety_narrow.proofs.OrderRight.{takes-compare, takes-select, takes-tee}
use Rattle.zw_safety_narrow.proofs.SizedTypes.{sized_wraps, narrow_sized}
use Rattle.zw_safety_narrow.specs.CastCode.{tested, above, outside, negative, cast_code, holds, truncated_code, negated, negated_code, opposite_code, turned, turned_code, distance, distance_code}
use Rattle.zw_safety_narrow.specs.Checked.{ScratchIsTyped, PanicStateIsTyped}
use Rattle.zw_safety_narrow.specs.NarrowCode.{narrowed, fitted}
use Rattle.zw_safety_narrow.specs.WordCode.{not_code}
use Rattle.zw_safety_narrow.specs.Operators.{IsNarrow, IsRightOfOne, type_of}
use Rattle.zw_safety_narrow.specs.declared.setting.Setting.{Setting}
use Rattle.zw_wasm.proofs.Closing.{closed-then}
use Rattle.zw_wasm.proofs.TypingTakes.{takes-none, takes-then, takes-instr, takes-local_get, takes-local_set, takes-i32_const}
use Rattle.zw_wasm.specs.declared.module.BinaryOperator.TheVariants.{Add, Mul, Xor}
use Rattle.zw_wasm.specs.declared.module.Comparison.TheVariants.{LtS, GtU}
use Rattle.zw_wasm.specs.declared.module.Instr.{Instr}
use Rattle.zw_wasm.specs.declared.module.Instr.TheVariants.{IsZero}
use Rattle.zw_wasm.specs.declared.module.ValType.{ValType}
use Rattle.zw_wasm.specs.declared.module.ValType.TheVariants.{I32, I64}
use Rattle.zw_wasm.specs.Sequences.{Takes}
use Rattle.zw_wasm.specs.Typing.{Context}
use Rattle.zw_wasm.specs.WellFormed.{IsClosed}

pub one-takes : (x : Context) (is : List Instr) (ts : List ValType) (from to : IntTy) → IsNarrow from → IsNarrow to → Takes x is (I32 ∷ ts) (I32 ∷ ts) → Takes x is (type_of from ∷ ts) (type_of to ∷ ts)
one-takes x is ts from to h k takes =
    subst (λ t. Takes x is (t ∷ ts) (type_of to ∷ ts)) (sym (type-narrow from h))
    (subst (λ t. Takes x is (I32 ∷ ts) (t ∷ ts)) (sym (type-narrow to k)) takes)

-- ---- types

pub takes-tested : (x : Context) (test : List Instr) (cause s : ℕ) (ts : List ValType) → ScratchIsTyped s x.locals → PanicStateIsTyped x.module_ → Takes x test (I32 ∷ ts) (I32 ∷ ts) → Takes x (tested test cause s) (I32 ∷ ts) (I32 ∷ ts)
takes-tested x test cause s ts h state takes =
    let there = first_local s x.locals h in
    takes-then (takes-tee x s ts there) (takes-then takes (takes-then (takes-if_panics x cause ts state) (takes-local_get x s I32 ts there)))

takes-above : (x : Context) (top : ℕ) (ts : List ValType) → Takes x (above top) (I32 ∷ ts) (I32 ∷ ts)
takes-above x top ts = takes-then (takes-i32_const x (pos top) (I32 ∷ ts)) (takes-compare x GtU ts)

takes-negative : (x : Context) (ts : List ValType) → Takes x negative (I32 ∷ ts) (I32 ∷ ts)
takes-negative x ts = takes-then (takes-i32_const x (pos 0) (I32 ∷ ts)) (takes-compare x LtS ts)

takes-outside : (x : Context) (count : ℕ) (ts : List ValType) → Takes x (outside count) (I32 ∷ ts) (I32 ∷ ts)
takes-outside x count ts = takes-then (takes-i32_const x _ (I32 ∷ ts)) (takes-then (takes-word x Add ts) (takes-above x (2 ^ count - 1) ts))

pub takes-unless : (b : Bool) (x : Context) (is : List Instr) (ts : List ValType) → Takes x is (I32 ∷ ts) (I32 ∷ ts) → Takes x (if b then [] else is) (I32 ∷ ts) (I32 ∷ ts)
takes-unless true x is ts takes = takes-none x (I32 ∷ ts)
takes-unless false x is ts takes = takes

takes-cast : (x : Context) (from to : IntTy) (s : ℕ) (ts : List ValType) → ScratchIsTyped s x.locals → PanicStateIsTyped x.module_ → Takes x (cast_code from to s) (I32 ∷ ts) (I32 ∷ ts)
takes-cast x (Sized true from) (Sized true to) s ts h state = takes-unless (nat_le from to) x (tested (outside to) 11 s) ts (takes-tested x (outside to) 11 s ts h state (takes-outside x to ts))
takes-cast x (Sized false from) (Sized true to) s ts h state = takes-unless (nat_lt from to) x (tested (above ((2 ^ to - 1) / 2)) 11 s) ts (takes-tested x (above ((2 ^ to - 1) / 2)) 11 s ts h state (takes-above x ((2 ^ to - 1) / 2) ts))
takes-cast x (Sized false from) (Sized false to) s ts h state = takes-unless (nat_le from to) x (tested (above (2 ^ to - 1)) 11 s) ts (takes-tested x (above (2 ^ to - 1)) 11 s ts h state (takes-above x (2 ^ to - 1) ts))
takes-cast x (Sized true from) (Sized false to) s ts h state =
    takes-then (takes-tested x negative 12 s ts h state (takes-negative x ts))
    (takes-unless (nat_le from (to + 1)) x (tested (above (2 ^ to - 1)) 11 s) ts (takes-tested x (above (2 ^ to - 1)) 11 s ts h state (takes-above x (2 ^ to - 1) ts)))
takes-cast x (Sized true from) Comptime s ts h state = takes-none x (I32 ∷ ts)
takes-cast x (Sized false from) Comptime s ts h state = takes-none x (I32 ∷ ts)
takes-cast x Comptime (Sized true to) s ts h state = takes-none x (I32 ∷ ts)
takes-cast x Comptime (Sized false to) s ts h state = takes-none x (I32 ∷ ts)
takes-cast x Comptime Comptime s ts h state = takes-none x (I32 ∷ ts)

pub takes-fitted : (x : Context) (to : IntTy) (ts : List ValType) → Takes x (fitted to) (I32 ∷ ts) (I32 ∷ ts)
takes-fitted x to ts = takes-if_narrower (nat_lt (width to) 32) x to ts

pub takes-truncated : (x : Context) (from to : IntTy) (ts : List ValType) → Takes x (truncated_code from to) (I32 ∷ ts) (I32 ∷ ts)
takes-truncated x from to ts = takes-unless (holds to from) x (fitted to) ts (takes-fitted x to ts)

takes-negated : (x : Context) (ts : List ValType) → Takes x negated (I32 ∷ ts) (I32 ∷ ts)
takes-negated x ts = takes-then (takes-i32_const x _ (I32 ∷ ts)) (takes-word x Mul ts)

takes-distance : (x : Context) (s : ℕ) (ts : List ValType) → ScratchIsTyped s x.locals → Takes x (distance s) (I32 ∷ ts) (I32 ∷ ts)
takes-distance x s ts h =
    let there = first_local s x.locals h in
    takes-then (takes-tee x s ts there)
    (takes-then (takes-negated x ts)
    (takes-then (takes-local_get x s I32 (I32 ∷ ts) there)
    (takes-then (takes-local_get x s I32 (I32 ∷ I32 ∷ ts) there) (takes-then (takes-negative x (I32 ∷ I32 ∷ ts)) (takes-select x ts)))))

takes-distance_of : (x : Context) (from : IntTy) (s : ℕ) (ts : List ValType) → ScratchIsTyped s x.locals → Takes x (distance_code from s) (I32 ∷ ts) (I32 ∷ ts)
takes-distance_of x (Sized true count) s ts h = takes-distance x s ts h
takes-distance_of x (Sized false count) s ts h = takes-none x (I32 ∷ ts)
takes-distance_of x Comptime s ts h = takes-none x (I32 ∷ ts)

takes-not : (x : Context) (ts : List ValType) → Takes x not_code (I32 ∷ ts) (I32 ∷ ts)
takes-not x ts = takes-instr x (IsZero I32) (I32 ∷ ts) (I32 ∷ ts) (λ below c outer. refl)

-- ---- they end all that they begin

pub closed-nothing : IsClosed []
closed-nothing = record { by = λ open_ifs rest h. h }

pub closed-unless : (b : Bool) (is : List Instr) → IsClosed is → IsClosed (if b then [] else is)
closed-unless true is h = closed-nothing
closed-unless false is h = h

closed-above : (top s : ℕ) → IsClosed (tested (above top) 11 s)
closed-above top s = record { by = λ open_ifs rest h. h }

closed-cast : (from to : IntTy) (s : ℕ) → IsClosed (cast_code from to s)
closed-cast (Sized true from) (Sized true to) s = closed-unless (nat_le from to) (tested (outside to) 11 s) (record { by = λ open_ifs rest h. h })
closed-cast (Sized false from) (Sized true to) s = closed-unless (nat_lt from to) (tested (above ((2 ^ to - 1) / 2)) 11 s) (closed-above ((2 ^ to - 1) / 2) s)
closed-cast (Sized false from) (Sized false to) s = closed-unless (nat_le from to) (tested (above (2 ^ to - 1)) 11 s) (closed-above (2 ^ to - 1) s)
closed-cast (Sized true from) (Sized false to) s =
    closed-then (tested negative 12 s) (if nat_le from (to + 1) then [] else tested (above (2 ^ to - 1)) 11 s) (record { by = λ open_ifs rest h. h })
    (closed-unless (nat_le from (to + 1)) (tested (above (2 ^ to - 1)) 11 s) (closed-above (2 ^ to - 1) s))
closed-cast (Sized true from) Comptime s = closed-nothing
closed-cast (Sized false from) Comptime s = closed-nothing
closed-cast Comptime (Sized true to) s = closed-nothing
closed-cast Comptime (Sized false to) s = closed-nothing
closed-cast Comptime Comptime s = closed-nothing

closed-narrowed_for : (b : Bool) (to : IntTy) → IsClosed (if b then narrowed to else [])
closed-narrowed_for true (Sized true count) = record { by = λ open_ifs rest h. h }
closed-narrowed_for true (Sized false count) = record { by = λ open_ifs rest h. h }
closed-narrowed_for true Comptime = closed-nothing
closed-narrowed_for false to = closed-nothing

pub closed-fitted : (to : IntTy) → IsClosed (fitted to)
closed-fitted to = closed-narrowed_for (nat_lt (width to) 32) to

closed-distance : (from : IntTy) (s : ℕ) → IsClosed (distance_code from s)
closed-distance (Sized true count) s = record { by = λ open_ifs rest h. h }
closed-distance (Sized false count) s = closed-nothing
closed-distance Comptime s = closed-nothing

-- ---- the operators

pub neg_wrap-right : (t : Setting) → IsNarrow t.left → IsNarrow t.to → IsRightOfOne (family.Unary unary_op.NegWrap) t (negated_code t.to)
neg_wrap-right t hf ht = record {
  ends = λ m v c a os rest i scratch state.
      subst (λ r. EndsOnOne m v c t.scratch t.left t.to a os (negated_code t.to) rest r) (sym (sized_wraps t.to (neg_ℤ a) (narrow_sized t.to ht)))
      (negated-ends m v c t.scratch t.left t.to a os rest hf ht);
  typed = λ x ts scratch state. one-takes x (negated_code t.to) ts t.left t.to hf ht (takes-then (takes-negated x ts) (takes-fitted x t.to ts));
  closed = closed-then negated (fitted t.to) (record { by = λ open_ifs rest h. h }) (closed-fitted t.to);
}

pub not-right : (t : Setting) → IsNarrow t.left → IsNarrow t.to → IsRightOfOne (family.Logic logic_op.Not) t not_code
not-right t hf ht = record {
  ends = λ m v c a os rest i scratch state. not-ends m v c t.scratch t.left t.to a os rest hf ht i;
  typed = λ x ts scratch state. one-takes x not_code ts t.left t.to hf ht (takes-not x ts);
  closed = record { by = λ open_ifs rest h. h };
}

pub abs-right : (t : Setting) → IsNarrow t.left → IsNarrow t.to → IsRightOfOne (family.Unary unary_op.Abs) t (distance_code t.left t.scratch)
abs-right t hf ht = record {
  ends = λ m v c a os rest i scratch state. distance-ends m v c t.scratch t.left t.to a os rest hf ht i scratch;
  typed = λ x ts scratch state. one-takes x (distance_code t.left t.scratch) ts t.left t.to hf ht (takes-distance_of x t.left t.scratch ts scratch);
  closed = closed-distance t.left t.scratch;
}

pub as-right : (t : Setting) → IsNarrow t.left → IsNarrow t.to → IsRightOfOne (family.Cast cast_op.As) t []
as-right t hf ht = record {
  ends = λ m v c a os rest i scratch state. stays m v c t.scratch t.left t.to a a os rest hf ht refl;
  typed = λ x ts scratch state. one-takes x [] ts t.left t.to hf ht (takes-none x (I32 ∷ ts));
  closed = closed-nothing;
}

pub from_bool-right : (t : Setting) → IsNarrow t.left → IsNarrow t.to → IsRightOfOne (family.Cast cast_op.IntFromBool) t []
from_bool-right t hf ht = record {
  ends = λ m v c a os rest i scratch state. stays m v c t.scratch t.left t.to a a os rest hf ht refl;
  typed = λ x ts scratch state. one-takes x [] ts t.left t.to hf ht (takes-none x (I32 ∷ ts));
  closed = closed-nothing;
}

pub cast-right : (t : Setting) → IsNarrow t.left → IsNarrow t.to → IsRightOfOne (family.Cast cast_op.IntCast) t (cast_code t.left t.to t.scratch)
cast-right t hf ht = record {
  ends = λ m v c a os rest i scratch state. cast-ends m v c t.scratch t.left t.to a os rest hf ht i scratch state;
  typed = λ x ts scratch state. one-takes x (cast_code t.left t.to t.scratch) ts t.left t.to hf ht (takes-cast x t.left t.to t.scratch ts scratch state);
  closed = closed-cast t.left t.to t.scratch;
}

pub truncate-right : (t : Setting) → IsNarrow t.left → IsNarrow t.to → IsRightOfOne (family.Cast cast_op.Truncate) t (truncated_code t.left t.to)
truncate-right t hf ht = record {
  ends = λ m v c a os rest i scratch state. truncated-ends m v c t.scratch t.left t.to a os rest hf ht i;
  typed = λ x ts scratch state. one-takes x (truncated_code t.left t.to) ts t.left t.to hf ht (takes-truncated x t.left t.to ts);
  closed = closed-unless (holds t.to t.left) (fitted t.to) (closed-fitted t.to);
}

pub bit_cast-right : (t : Setting) → IsNarrow t.left → IsNarrow t.to → IsRightOfOne (family.Cast cast_op.BitCast) t (truncated_code t.left t.to)
bit_cast-right t hf ht = record {
  ends = λ m v c a os rest i scratch state. truncated-ends m v c t.scratch t.left t.to a os rest hf ht i;
  typed = λ x ts scratch state. one-takes x (truncated_code t.left t.to) ts t.left t.to hf ht (takes-truncated x t.left t.to ts);
  closed = closed-unless (holds t.to t.left) (fitted t.to) (closed-fitted t.to);
}

takes-opposite : (x : Context) (from to : IntTy) (s : ℕ) (ts : List ValType) → ScratchIsTyped s x.locals → PanicStateIsTyped x.module_ → Takes x (opposite_code from to s) (I32 ∷ ts) (I32 ∷ ts)
takes-opposite x from to s ts h state =
    let there = long_local s x.locals h in
    takes-then
    (takes-then (takes-extension x from ts)
    (takes-then (takes-long_const x _ (I64 ∷ ts))
    (takes-then (takes-long x Mul ts) (takes-then (takes-local_set x (s + 4) I64 ts there) (takes-local_get x (s + 4) I64 ts there)))))
    (takes-then (takes-in_range x to ts state) (takes-then (takes-local_get x (s + 4) I64 ts there) (takes-wrap x ts)))

closed-opposite : (from to : IntTy) (s : ℕ) → IsClosed (opposite_code from to s)
closed-opposite from (Sized true count) s = record { by = λ open_ifs rest h. h }
closed-opposite from (Sized false count) s = record { by = λ open_ifs rest h. h }
closed-opposite from Comptime s = record { by = λ open_ifs rest h. h }

pub neg-right : (t : Setting) → IsNarrow t.left → IsNarrow t.to → IsRightOfOne (family.Unary unary_op.Neg) t (opposite_code t.left t.to t.scratch)
neg-right t hf ht = record {
  ends = λ m v c a os rest i scratch state. opposite-ends m v c t.scratch t.left t.to a os rest hf ht i scratch state;
  typed = λ x ts scratch state. one-takes x (opposite_code t.left t.to t.scratch) ts t.left t.to hf ht (takes-opposite x t.left t.to t.scratch ts scratch state);
  closed = closed-opposite t.left t.to t.scratch;
}

pub bit_not-right : (t : Setting) → IsNarrow t.left → IsNarrow t.to → IsRightOfOne (family.Unary unary_op.BitNot) t (turned_code t.to)
bit_not-right t hf ht = record {
  ends = λ m v c a os rest i scratch state. turned-ends m v c t.scratch t.left t.to a os rest hf ht;
  typed = λ x ts scratch state. one-takes x (turned_code t.to) ts t.left t.to hf ht (takes-then (takes-then (takes-i32_const x _ (I32 ∷ ts)) (takes-word x Xor ts)) (takes-fitted x t.to ts));
  closed = closed-then turned (fitted t.to) (record { by = λ open_ifs rest h. h }) (closed-fitted t.to);
}
