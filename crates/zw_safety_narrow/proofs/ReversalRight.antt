-- The code of `@byteSwap` and `@bitReverse` is right wherever it stands.
use Rattle.std.proofs.Common.{◌≡◌, ℕ, pos, ◌-◌, ◌%◌, Bool, true, false, List, [], ◌∷◌, ◌++◌}
use Rattle.std.specs.Prelude.{nat_eq, nat_lt, if◌then◌else◌}
use Rattle.zw_num.specs.Arithmetic.{width}
use Rattle.zw_num.specs.declared.int_ty.IntTy.{IntTy}
use Rattle.zw_num.specs.declared.int_ty.IntTy.TheVariants.{Sized}
use Rattle.zw_num.specs.declared.operator.Operator.TheVariants as family
use Rattle.zw_num.specs.declared.operator.Unary.TheVariants as unary_op
use Rattle.zw_safety_narrow.proofs.CastRight.{one-takes, takes-unless, takes-truncated, closed-nothing, closed-unless, closed-fitted}
use Rattle.zw_safety_narrow.proofs.CheckedTypes.{first_local}
use Rattle.zw_safety_narrow.proofs.NarrowTypes.{takes-word}
use Rattle.zw_safety_narrow.proofs.OrderRight.{takes-tee}
use Rattle.zw_safety_narrow.proofs.ReversalRuns.{bit_reverse-ends, byte_swap-ends}
use Rattle.zw_safety_narrow.specs.CastCode.{holds, truncated_code}
use Rattle.zw_safety_narrow.specs.Checked.{ScratchIsTyped}
use Rattle.zw_safety_narrow.specs.NarrowCode.{fitted}
use Rattle.zw_safety_narrow.specs.Operators.{IsNarrow, IsRightOfOne}
use Rattle.zw_safety_narrow.specs.declared.setting.Setting.{Setting}
use Rattle.zw_safety_narrow.specs.ReversalCode.{neighbours_swapped, bytes_turned, bits_turned, lowered, reversal_code, byte_swap_code, bit_reverse_code}
use Rattle.zw_wasm.proofs.Closing.{closed-then}
use Rattle.zw_wasm.proofs.TypingTakes.{takes-none, takes-then, takes-local_get, takes-i32_const}
use Rattle.zw_wasm.specs.declared.module.BinaryOperator.TheVariants.{Add, And, Shl, ShrU}
use Rattle.zw_wasm.specs.declared.module.Instr.{Instr}
use Rattle.zw_wasm.specs.declared.module.Instr.TheVariants.{I32Const, Binary}
use Rattle.zw_wasm.specs.declared.module.ValType.{ValType}
use Rattle.zw_wasm.specs.declared.module.ValType.TheVariants.{I32}
use Rattle.zw_wasm.specs.Sequences.{Takes}
use Rattle.zw_wasm.specs.Typing.{Context}
use Rattle.zw_wasm.specs.WellFormed.{IsClosed}

-- a constant and an operator
takes-with : (x : Context) (k : ℕ) (ts : List ValType) → Takes x (I32Const (pos k) ∷ []) (I32 ∷ ts) (I32 ∷ I32 ∷ ts)
takes-with x k ts = takes-i32_const x (pos k) (I32 ∷ ts)

takes-swapped : (x : Context) (k s : ℕ) (ts : List ValType) → ScratchIsTyped s x.locals → Takes x (neighbours_swapped k s) (I32 ∷ ts) (I32 ∷ ts)
takes-swapped x k s ts h =
    let there = first_local s x.locals h in
    takes-then (takes-tee x s ts there)
    (takes-then (takes-with x _ ts) (takes-then (takes-word x And ts)
    (takes-then (takes-with x k ts) (takes-then (takes-word x Shl ts)
    (takes-then (takes-local_get x s I32 (I32 ∷ ts) there)
    (takes-then (takes-with x k (I32 ∷ ts)) (takes-then (takes-word x ShrU (I32 ∷ ts))
    (takes-then (takes-with x _ (I32 ∷ ts)) (takes-then (takes-word x And (I32 ∷ ts)) (takes-word x Add ts))))))))))

takes-bytes : (x : Context) (s : ℕ) (ts : List ValType) → ScratchIsTyped s x.locals → Takes x (bytes_turned s) (I32 ∷ ts) (I32 ∷ ts)
takes-bytes x s ts h = takes-then (takes-swapped x 8 s ts h) (takes-swapped x 16 s ts h)

takes-bits : (x : Context) (s : ℕ) (ts : List ValType) → ScratchIsTyped s x.locals → Takes x (bits_turned s) (I32 ∷ ts) (I32 ∷ ts)
takes-bits x s ts h =
    takes-then (takes-swapped x 1 s ts h) (takes-then (takes-swapped x 2 s ts h) (takes-then (takes-swapped x 4 s ts h) (takes-bytes x s ts h)))

takes-lowered_for : (b : Bool) (x : Context) (k : ℕ) (ts : List ValType) → Takes x (if b then I32Const (pos k) ∷ Binary I32 ShrU ∷ [] else []) (I32 ∷ ts) (I32 ∷ ts)
takes-lowered_for true x k ts = takes-then (takes-with x k ts) (takes-word x ShrU ts)
takes-lowered_for false x k ts = takes-none x (I32 ∷ ts)

takes-reversal : (x : Context) (turned : List Instr) (from to : IntTy) (ts : List ValType) → Takes x turned (I32 ∷ ts) (I32 ∷ ts) → Takes x (reversal_code turned from to) (I32 ∷ ts) (I32 ∷ ts)
takes-reversal x turned from to ts takes =
    takes-unless (nat_eq (width from) 0) x (turned ++ (lowered from ++ truncated_code (Sized false (width from)) to)) ts
    (takes-then takes (takes-then (takes-lowered_for (nat_lt (width from) 32) x (32 - width from) ts) (takes-truncated x (Sized false (width from)) to ts)))

closed-lowered_for : (b : Bool) (k : ℕ) → IsClosed (if b then I32Const (pos k) ∷ Binary I32 ShrU ∷ [] else [])
closed-lowered_for true k = record { by = λ open_ifs rest h. h }
closed-lowered_for false k = closed-nothing

closed-reversal : (turned : List Instr) (from to : IntTy) → IsClosed turned → IsClosed (reversal_code turned from to)
closed-reversal turned from to h =
    let last = lowered from ++ truncated_code (Sized false (width from)) to in
    closed-unless (nat_eq (width from) 0) (turned ++ last)
    (closed-then turned last h (closed-then (lowered from) (truncated_code (Sized false (width from)) to) (closed-lowered_for (nat_lt (width from) 32) (32 - width from)) (closed-unless (holds to (Sized false (width from))) (fitted to) (closed-fitted to))))

pub byte_swap-right : (t : Setting) → IsNarrow t.left → IsNarrow t.to → width t.left % 8 ≡ 0 → IsRightOfOne (family.Unary unary_op.ByteSwap) t (byte_swap_code t.left t.to t.scratch)
byte_swap-right t hf ht whole = record {
  ends = λ m v c a os rest i scratch state. byte_swap-ends m v c t.scratch t.left t.to a os rest hf ht whole i scratch;
  typed = λ x ts scratch state. one-takes x (byte_swap_code t.left t.to t.scratch) ts t.left t.to hf ht (takes-reversal x (bytes_turned t.scratch) t.left t.to ts (takes-bytes x t.scratch ts scratch));
  closed = closed-reversal (bytes_turned t.scratch) t.left t.to (record { by = λ open_ifs rest h. h });
}

pub bit_reverse-right : (t : Setting) → IsNarrow t.left → IsNarrow t.to → IsRightOfOne (family.Unary unary_op.BitReverse) t (bit_reverse_code t.left t.to t.scratch)
bit_reverse-right t hf ht = record {
  ends = λ m v c a os rest i scratch state. bit_reverse-ends m v c t.scratch t.left t.to a os rest hf ht i scratch;
  typed = λ x ts scratch state. one-takes x (bit_reverse_code t.left t.to t.scratch) ts t.left t.to hf ht (takes-reversal x (bits_turned t.scratch) t.left t.to ts (takes-bits x t.scratch ts scratch));
  closed = closed-reversal (bits_turned t.scratch) t.left t.to (record { by = λ open_ifs rest h. h });
}
