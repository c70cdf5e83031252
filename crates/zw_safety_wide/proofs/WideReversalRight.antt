-- The code of `@byteSwap` and `@bitReverse` is right wherever it stands where a type has more than 32 bits.
use Rattle.std.proofs.Common.{◌≡◌, ℕ, pos, ◌+◌, ◌-◌, ◌%◌, Bool, true, false, List, [], ◌∷◌, ◌++◌, refl}
use Rattle.std.specs.Prelude.{nat_eq, nat_lt, if◌then◌else◌}
use Rattle.zw_num.specs.Arithmetic.{width}
use Rattle.zw_num.specs.declared.int_ty.IntTy.{IntTy}
use Rattle.zw_num.specs.declared.int_ty.IntTy.TheVariants.{Sized}
use Rattle.zw_num.specs.declared.operator.Operator.TheVariants as family
use Rattle.zw_num.specs.declared.operator.Unary.TheVariants as unary_op
use Rattle.zw_safety_narrow.proofs.NarrowTypes.{takes-long, takes-long_const}
use Rattle.zw_safety_narrow.proofs.SaturatingRight.{takes-tee_long}
use Rattle.zw_safety_narrow.specs.CastCode.{holds}
use Rattle.zw_safety_narrow.specs.Operators.{IsStored, IsRightOfOne, type_of}
use Rattle.zw_safety_narrow.specs.declared.setting.Setting.{Setting}
use Rattle.zw_safety_wide.proofs.WideReversalRuns.{wide_bit_reverse-ends, wide_byte_swap-ends}
use Rattle.zw_safety_wide.specs.WideReversalCode.{long_neighbours_swapped, long_bytes_turned, long_bits_turned, long_lowered, with_bits, wide_reversal_code, wide_byte_swap_code, wide_bit_reverse_code}
use Rattle.zw_safety_words.proofs.WideBitRight.{takes-settled, takes-truncated_for, truncated_for-closed}
use Rattle.zw_safety_words.proofs.WideClosed.{closed-then, widened-closed, settled-closed}
use Rattle.zw_safety_words.proofs.WideTypes.{LongsAreTyped, longs, takes-widened}
use Rattle.zw_safety_words.specs.WideCode.{settled}
use Rattle.zw_wasm.proofs.TypingTakes.{takes-none, takes-then, takes-local_get}
use Rattle.zw_wasm.specs.declared.module.BinaryOperator.TheVariants.{Add, And, Shl, ShrU}
use Rattle.zw_wasm.specs.declared.module.Instr.{Instr}
use Rattle.zw_wasm.specs.declared.module.Instr.TheVariants.{I64Const, Binary}
use Rattle.zw_wasm.specs.declared.module.ValType.{ValType}
use Rattle.zw_wasm.specs.declared.module.ValType.TheVariants.{I64}
use Rattle.zw_wasm.specs.Sequences.{Takes}
use Rattle.zw_wasm.specs.Typing.{Context}
use Rattle.zw_wasm.specs.WellFormed.{IsClosed}

takes-with : (x : Context) (k : ℕ) (ts : List ValType) → Takes x (I64Const (pos k) ∷ []) (I64 ∷ ts) (I64 ∷ I64 ∷ ts)
takes-with x k ts = takes-long_const x (pos k) (I64 ∷ ts)

takes-swapped : (x : Context) (k s : ℕ) (ts : List ValType) → LongsAreTyped s x.locals → Takes x (long_neighbours_swapped k s) (I64 ∷ ts) (I64 ∷ ts)
takes-swapped x k s ts h =
    takes-then (takes-tee_long x (s + 4) ts h.right)
    (takes-then (takes-with x _ ts) (takes-then (takes-long x And ts)
    (takes-then (takes-with x k ts) (takes-then (takes-long x Shl ts)
    (takes-then (takes-local_get x (s + 4) I64 (I64 ∷ ts) h.right)
    (takes-then (takes-with x k (I64 ∷ ts)) (takes-then (takes-long x ShrU (I64 ∷ ts))
    (takes-then (takes-with x _ (I64 ∷ ts)) (takes-then (takes-long x And (I64 ∷ ts)) (takes-long x Add ts))))))))))

takes-bytes : (x : Context) (s : ℕ) (ts : List ValType) → LongsAreTyped s x.locals → Takes x (long_bytes_turned s) (I64 ∷ ts) (I64 ∷ ts)
takes-bytes x s ts h = takes-then (takes-swapped x 8 s ts h) (takes-then (takes-swapped x 16 s ts h) (takes-swapped x 32 s ts h))

takes-bits : (x : Context) (s : ℕ) (ts : List ValType) → LongsAreTyped s x.locals → Takes x (long_bits_turned s) (I64 ∷ ts) (I64 ∷ ts)
takes-bits x s ts h =
    takes-then (takes-swapped x 1 s ts h) (takes-then (takes-swapped x 2 s ts h) (takes-then (takes-swapped x 4 s ts h) (takes-bytes x s ts h)))

takes-lowered_for : (b : Bool) (x : Context) (k : ℕ) (ts : List ValType) → Takes x (if b then I64Const (pos k) ∷ Binary I64 ShrU ∷ [] else []) (I64 ∷ ts) (I64 ∷ ts)
takes-lowered_for true x k ts = takes-then (takes-with x k ts) (takes-long x ShrU ts)
takes-lowered_for false x k ts = takes-none x (I64 ∷ ts)

takes-turned_for : (b : Bool) (x : Context) (turned : List Instr) (from to : IntTy) (ts : List ValType) → Takes x turned (I64 ∷ ts) (I64 ∷ ts) → Takes x (if b then settled to else turned ++ (long_lowered from ++ with_bits (width from) to)) (I64 ∷ ts) (type_of to ∷ ts)
takes-turned_for true x turned from to ts takes = takes-settled x to ts
takes-turned_for false x turned from to ts takes =
    takes-then takes (takes-then (takes-lowered_for (nat_lt (width from) 64) x (64 - width from) ts) (takes-truncated_for (holds to (Sized false (width from))) x to ts))

takes-reversal : (x : Context) (turned : List Instr) (from to : IntTy) (ts : List ValType) → Takes x turned (I64 ∷ ts) (I64 ∷ ts) → Takes x (wide_reversal_code turned from to) (type_of from ∷ ts) (type_of to ∷ ts)
takes-reversal x turned from to ts takes = takes-then (takes-widened x from ts) (takes-turned_for (nat_eq (width from) 0) x turned from to ts takes)

lowered_for-closed : (b : Bool) (k : ℕ) → IsClosed (if b then I64Const (pos k) ∷ Binary I64 ShrU ∷ [] else [])
lowered_for-closed true k = record { by = λ open_ifs rest h. h }
lowered_for-closed false k = record { by = λ open_ifs rest h. h }

turned_for-closed : (b : Bool) (turned : List Instr) (from to : IntTy) → IsClosed turned → IsClosed (if b then settled to else turned ++ (long_lowered from ++ with_bits (width from) to))
turned_for-closed true turned from to h = settled-closed to
turned_for-closed false turned from to h =
    closed-then h (closed-then (lowered_for-closed (nat_lt (width from) 64) (64 - width from)) (truncated_for-closed (holds to (Sized false (width from))) to))

reversal-closed : (turned : List Instr) (from to : IntTy) → IsClosed turned → IsClosed (wide_reversal_code turned from to)
reversal-closed turned from to h = closed-then (widened-closed from) (turned_for-closed (nat_eq (width from) 0) turned from to h)

pub wide_byte_swap-right : (t : Setting) → IsStored t.left → IsStored t.to → width t.left % 8 ≡ 0 → IsRightOfOne (family.Unary unary_op.ByteSwap) t (wide_byte_swap_code t.left t.to t.scratch)
wide_byte_swap-right t hf ht whole = record {
  ends = λ m v c a os rest i scratch state. wide_byte_swap-ends m v c t.scratch t.left t.to a os rest hf ht whole i scratch;
  typed = λ x ts scratch state. takes-reversal x (long_bytes_turned t.scratch) t.left t.to ts (takes-bytes x t.scratch ts (longs t.scratch x.locals scratch));
  closed = reversal-closed (long_bytes_turned t.scratch) t.left t.to (record { by = λ open_ifs rest h. h });
}

pub wide_bit_reverse-right : (t : Setting) → IsStored t.left → IsStored t.to → IsRightOfOne (family.Unary unary_op.BitReverse) t (wide_bit_reverse_code t.left t.to t.scratch)
wide_bit_reverse-right t hf ht = record {
  ends = λ m v c a os rest i scratch state. wide_bit_reverse-ends m v c t.scratch t.left t.to a os rest hf ht i scratch;
  typed = λ x ts scratch state. takes-reversal x (long_bits_turned t.scratch) t.left t.to ts (takes-bits x t.scratch ts (longs t.scratch x.locals scratch));
  closed = reversal-closed (long_bits_turned t.scratch) t.left t.to (record { by = λ open_ifs rest h. h });
}
