-- The code of counts of bits is right wherever it stands.
use Rattle.std.proofs.Common.{ℕ, pos, ◌-◌, ◌^◌, Bool, true, false, List, [], ◌∷◌, refl}
use Rattle.std.specs.Prelude.{nat_lt, if◌then◌else◌}
use Rattle.zw_num.specs.Arithmetic.{width}
use Rattle.zw_num.specs.declared.int_ty.IntTy.{IntTy}
use Rattle.zw_num.specs.declared.int_ty.IntTy.TheVariants.{Sized, Comptime}
use Rattle.zw_num.specs.declared.operator.Operator.TheVariants as family
use Rattle.zw_num.specs.declared.operator.Count.TheVariants as count_op
use Rattle.zw_safety_narrow.proofs.CastRight.{one-takes, closed-nothing}
use Rattle.zw_safety_narrow.proofs.CheckedTypes.{first_local}
use Rattle.zw_safety_narrow.proofs.CountRuns.{ones-ends, leading-ends, trailing-ends}
use Rattle.zw_safety_narrow.proofs.NarrowTypes.{takes-word}
use Rattle.zw_safety_narrow.proofs.OrderRight.{takes-compare, takes-select, takes-tee}
use Rattle.zw_safety_narrow.specs.Checked.{ScratchIsTyped}
use Rattle.zw_safety_narrow.specs.CountCode.{own_bits, ones_code, leading_code, at_most, trailing_code}
use Rattle.zw_safety_narrow.specs.NarrowCode.{masked}
use Rattle.zw_safety_narrow.specs.Operators.{IsNarrow, IsRightOfOne}
use Rattle.zw_safety_narrow.specs.declared.setting.Setting.{Setting}
use Rattle.zw_wasm.proofs.Closing.{closed-then}
use Rattle.zw_wasm.proofs.TypingTakes.{takes-none, takes-then, takes-instr, takes-local_get, takes-i32_const}
use Rattle.zw_wasm.specs.declared.module.BinaryOperator.TheVariants.{And, Sub}
use Rattle.zw_wasm.specs.declared.module.Comparison.TheVariants.{LtU}
use Rattle.zw_wasm.specs.declared.module.Instr.{Instr}
use Rattle.zw_wasm.specs.declared.module.Instr.TheVariants.{I32Const, Binary, Unary}
use Rattle.zw_wasm.specs.declared.module.UnaryOperator.{UnaryOperator}
use Rattle.zw_wasm.specs.declared.module.UnaryOperator.TheVariants.{Clz, Ctz, Popcnt}
use Rattle.zw_wasm.specs.declared.module.ValType.{ValType}
use Rattle.zw_wasm.specs.declared.module.ValType.TheVariants.{I32}
use Rattle.zw_wasm.specs.Sequences.{Takes}
use Rattle.zw_wasm.specs.Typing.{Context}
use Rattle.zw_wasm.specs.WellFormed.{IsClosed}

takes-unary : (x : Context) (o : UnaryOperator) (ts : List ValType) → Takes x (Unary I32 o ∷ []) (I32 ∷ ts) (I32 ∷ ts)
takes-unary x o ts = takes-instr x (Unary I32 o) (I32 ∷ ts) (I32 ∷ ts) (λ below c outer. refl)

takes-if : (b : Bool) (x : Context) (is : List Instr) (ts : List ValType) → Takes x is (I32 ∷ ts) (I32 ∷ ts) → Takes x (if b then is else []) (I32 ∷ ts) (I32 ∷ ts)
takes-if true x is ts takes = takes
takes-if false x is ts takes = takes-none x (I32 ∷ ts)

closed-if : (b : Bool) (is : List Instr) → IsClosed is → IsClosed (if b then is else [])
closed-if true is h = h
closed-if false is h = closed-nothing

takes-own : (x : Context) (from : IntTy) (ts : List ValType) → Takes x (own_bits from) (I32 ∷ ts) (I32 ∷ ts)
takes-own x (Sized true count) ts = takes-if (nat_lt count 32) x (masked (pos (2 ^ count - 1))) ts (takes-then (takes-i32_const x _ (I32 ∷ ts)) (takes-word x And ts))
takes-own x (Sized false count) ts = takes-none x (I32 ∷ ts)
takes-own x Comptime ts = takes-none x (I32 ∷ ts)

closed-own : (from : IntTy) → IsClosed (own_bits from)
closed-own (Sized true count) = closed-if (nat_lt count 32) (masked (pos (2 ^ count - 1))) (record { by = λ open_ifs rest h. h })
closed-own (Sized false count) = closed-nothing
closed-own Comptime = closed-nothing

pub takes-at_most : (x : Context) (top s : ℕ) (ts : List ValType) → ScratchIsTyped s x.locals → Takes x (at_most top s) (I32 ∷ ts) (I32 ∷ ts)
takes-at_most x top s ts h =
    let there = first_local s x.locals h in
    takes-then (takes-tee x s ts there)
    (takes-then (takes-i32_const x (pos top) (I32 ∷ ts))
    (takes-then (takes-local_get x s I32 (I32 ∷ I32 ∷ ts) there)
    (takes-then (takes-i32_const x (pos top) (I32 ∷ I32 ∷ I32 ∷ ts)) (takes-then (takes-compare x LtU (I32 ∷ I32 ∷ ts)) (takes-select x ts)))))

pub pop_count-right : (t : Setting) → IsNarrow t.left → IsNarrow t.to → IsRightOfOne (family.Count count_op.PopCount) t (ones_code t.left)
pop_count-right t hf ht = record {
  ends = λ m v c a os rest i scratch state. ones-ends m v c t.scratch t.left t.to a os rest hf ht i;
  typed = λ x ts scratch state. one-takes x (ones_code t.left) ts t.left t.to hf ht (takes-then (takes-own x t.left ts) (takes-unary x Popcnt ts));
  closed = closed-then (own_bits t.left) (Unary I32 Popcnt ∷ []) (closed-own t.left) (record { by = λ open_ifs rest h. h });
}

pub clz-right : (t : Setting) → IsNarrow t.left → IsNarrow t.to → IsRightOfOne (family.Count count_op.Clz) t (leading_code t.left)
clz-right t hf ht =
    let less = I32Const (pos (32 - width t.left)) ∷ Binary I32 Sub ∷ [] in
    let b = nat_lt (width t.left) 32 in
    record {
      ends = λ m v c a os rest i scratch state. leading-ends m v c t.scratch t.left t.to a os rest hf ht i;
      typed = λ x ts scratch state. one-takes x (leading_code t.left) ts t.left t.to hf ht (takes-then (takes-own x t.left ts)
          (takes-then (takes-unary x Clz ts) (takes-if b x less ts (takes-then (takes-i32_const x _ (I32 ∷ ts)) (takes-word x Sub ts)))));
      closed = closed-then (own_bits t.left) (Unary I32 Clz ∷ (if b then less else [])) (closed-own t.left)
          (closed-then (Unary I32 Clz ∷ []) (if b then less else []) (record { by = λ open_ifs rest h. h }) (closed-if b less (record { by = λ open_ifs rest h. h })));
    }

pub ctz-right : (t : Setting) → IsNarrow t.left → IsNarrow t.to → IsRightOfOne (family.Count count_op.Ctz) t (trailing_code t.left t.scratch)
ctz-right t hf ht =
    let few = at_most (width t.left) t.scratch in
    let b = nat_lt (width t.left) 32 in
    record {
      ends = λ m v c a os rest i scratch state. trailing-ends m v c t.scratch t.left t.to a os rest hf ht i scratch;
      typed = λ x ts scratch state. one-takes x (trailing_code t.left t.scratch) ts t.left t.to hf ht (takes-then (takes-own x t.left ts)
          (takes-then (takes-unary x Ctz ts) (takes-if b x few ts (takes-at_most x (width t.left) t.scratch ts scratch))));
      closed = closed-then (own_bits t.left) (Unary I32 Ctz ∷ (if b then few else [])) (closed-own t.left)
          (closed-then (Unary I32 Ctz ∷ []) (if b then few else []) (record { by = λ open_ifs rest h. h }) (closed-if b few (record { by = λ open_ifs rest h. h })));
    }
