-- The code of casts, of how far a number is from 0, and of counts of bits is right wherever it stands where a type has more than 32 bits.
use Rattle.std.proofs.Common.{ℕ, pos, ◌+◌, ◌-◌, ◌/◌, ◌^◌, Bool, true, false, List, [], ◌∷◌, ◌++◌, refl}
use Rattle.std.specs.Prelude.{nat_lt, nat_le, if◌then◌else◌}
use Rattle.zw_num.specs.Arithmetic.{width}
use Rattle.zw_num.specs.declared.int_ty.IntTy.{IntTy}
use Rattle.zw_num.specs.declared.int_ty.IntTy.TheVariants.{Sized, Comptime}
use Rattle.zw_num.specs.declared.operator.Operator.TheVariants as family
use Rattle.zw_num.specs.declared.operator.Cast.TheVariants as cast_op
use Rattle.zw_num.specs.declared.operator.Count.TheVariants as count_op
use Rattle.zw_num.specs.declared.operator.Unary.TheVariants as unary_op
use Rattle.zw_safety_narrow.proofs.CheckedTypes.{takes-if_panics}
use Rattle.zw_safety_narrow.proofs.NarrowTypes.{takes-long, takes-long_const, takes-compare_long}
use Rattle.zw_safety_narrow.proofs.SaturatingRight.{takes-select_long, takes-tee_long}
use Rattle.zw_safety_narrow.specs.Checked.{PanicStateIsTyped}
use Rattle.zw_safety_narrow.specs.Operators.{IsStored, IsRightOfOne, type_of}
use Rattle.zw_safety_narrow.specs.declared.setting.Setting.{Setting}
use Rattle.zw_safety_wide.proofs.WideCastRuns.{wide_cast-ends, wide_distance-ends, wide_ones-ends, wide_leading-ends, wide_trailing-ends}
use Rattle.zw_safety_wide.specs.WideCastCode.{long_tested, long_above, long_outside, long_negative, long_cast, wide_cast_code, long_distance, wide_distance_code, own_long, wide_ones_code, less_zeros, wide_leading_code, long_at_most, wide_trailing_code}
use Rattle.zw_safety_words.proofs.WideBitRight.{takes-settled}
use Rattle.zw_safety_words.proofs.WideClosed.{closed-then, if_closed, widened-closed, settled-closed}
use Rattle.zw_safety_words.proofs.WideTypes.{LongsAreTyped, longs, takes-widened}
use Rattle.zw_safety_words.specs.WideCode.{widened, settled}
use Rattle.zw_wasm.proofs.TypingTakes.{takes-none, takes-then, takes-instr, takes-local_get}
use Rattle.zw_wasm.specs.declared.module.BinaryOperator.TheVariants.{Add, Sub, Mul, And}
use Rattle.zw_wasm.specs.declared.module.Comparison.TheVariants.{LtS, LtU, GtU}
use Rattle.zw_wasm.specs.declared.module.Instr.{Instr}
use Rattle.zw_wasm.specs.declared.module.Instr.TheVariants.{LocalGet, LocalTee, I64Const, Compare, Binary, Unary, Select}
use Rattle.zw_wasm.specs.declared.module.UnaryOperator.{UnaryOperator}
use Rattle.zw_wasm.specs.declared.module.UnaryOperator.TheVariants.{Clz, Ctz, Popcnt}
use Rattle.zw_wasm.specs.declared.module.ValType.{ValType}
use Rattle.zw_wasm.specs.declared.module.ValType.TheVariants.{I32, I64}
use Rattle.zw_wasm.specs.Sequences.{Takes}
use Rattle.zw_wasm.specs.Typing.{Context}
use Rattle.zw_wasm.specs.WellFormed.{IsClosed}

-- an operand in 64 bits, a piece, and the result as its type fills it
takes-middle : (x : Context) (from to : IntTy) (is : List Instr) (ts : List ValType) → Takes x is (I64 ∷ ts) (I64 ∷ ts) → Takes x (widened from ++ (is ++ settled to)) (type_of from ∷ ts) (type_of to ∷ ts)
takes-middle x from to is ts takes = takes-then (takes-widened x from ts) (takes-then takes (takes-settled x to ts))

middle-closed : (from to : IntTy) (is : List Instr) → IsClosed is → IsClosed (widened from ++ (is ++ settled to))
middle-closed from to is h = closed-then (widened-closed from) (closed-then h (settled-closed to))

takes-unless : (b : Bool) (x : Context) (is : List Instr) (ts : List ValType) → Takes x is (I64 ∷ ts) (I64 ∷ ts) → Takes x (if b then [] else is) (I64 ∷ ts) (I64 ∷ ts)
takes-unless true x is ts takes = takes-none x (I64 ∷ ts)
takes-unless false x is ts takes = takes

takes-if : (b : Bool) (x : Context) (is : List Instr) (ts : List ValType) → Takes x is (I64 ∷ ts) (I64 ∷ ts) → Takes x (if b then is else []) (I64 ∷ ts) (I64 ∷ ts)
takes-if true x is ts takes = takes
takes-if false x is ts takes = takes-none x (I64 ∷ ts)

nothing-closed : IsClosed []
nothing-closed = record { by = λ open_ifs rest h. h }

closed-unless : (b : Bool) (is : List Instr) → IsClosed is → IsClosed (if b then [] else is)
closed-unless true is h = nothing-closed
closed-unless false is h = h

-- ---- casts

takes-tested : (x : Context) (test : List Instr) (cause s : ℕ) (ts : List ValType) → LongsAreTyped s x.locals → PanicStateIsTyped x.module_ → Takes x test (I64 ∷ ts) (I32 ∷ ts) → Takes x (long_tested test cause s) (I64 ∷ ts) (I64 ∷ ts)
takes-tested x test cause s ts h state takes =
    takes-then (takes-tee_long x (s + 4) ts h.right) (takes-then takes (takes-then (takes-if_panics x cause ts state) (takes-local_get x (s + 4) I64 ts h.right)))

takes-above : (x : Context) (top : ℕ) (ts : List ValType) → Takes x (long_above top) (I64 ∷ ts) (I32 ∷ ts)
takes-above x top ts = takes-then (takes-long_const x (pos top) (I64 ∷ ts)) (takes-compare_long x GtU ts)

takes-negative : (x : Context) (ts : List ValType) → Takes x long_negative (I64 ∷ ts) (I32 ∷ ts)
takes-negative x ts = takes-then (takes-long_const x (pos 0) (I64 ∷ ts)) (takes-compare_long x LtS ts)

takes-outside : (x : Context) (count : ℕ) (ts : List ValType) → Takes x (long_outside count) (I64 ∷ ts) (I32 ∷ ts)
takes-outside x count ts = takes-then (takes-long_const x _ (I64 ∷ ts)) (takes-then (takes-long x Add ts) (takes-above x (2 ^ count - 1) ts))

takes-cast : (x : Context) (from to : IntTy) (s : ℕ) (ts : List ValType) → LongsAreTyped s x.locals → PanicStateIsTyped x.module_ → Takes x (long_cast from to s) (I64 ∷ ts) (I64 ∷ ts)
takes-cast x (Sized true from) (Sized true to) s ts h state = takes-unless (nat_le from to) x (long_tested (long_outside to) 11 s) ts (takes-tested x (long_outside to) 11 s ts h state (takes-outside x to ts))
takes-cast x (Sized false from) (Sized true to) s ts h state = takes-unless (nat_lt from to) x (long_tested (long_above ((2 ^ to - 1) / 2)) 11 s) ts (takes-tested x (long_above ((2 ^ to - 1) / 2)) 11 s ts h state (takes-above x ((2 ^ to - 1) / 2) ts))
takes-cast x (Sized false from) (Sized false to) s ts h state = takes-unless (nat_le from to) x (long_tested (long_above (2 ^ to - 1)) 11 s) ts (takes-tested x (long_above (2 ^ to - 1)) 11 s ts h state (takes-above x (2 ^ to - 1) ts))
takes-cast x (Sized true from) (Sized false to) s ts h state =
    takes-then (takes-tested x long_negative 12 s ts h state (takes-negative x ts))
    (takes-unless (nat_le from (to + 1)) x (long_tested (long_above (2 ^ to - 1)) 11 s) ts (takes-tested x (long_above (2 ^ to - 1)) 11 s ts h state (takes-above x (2 ^ to - 1) ts)))
takes-cast x (Sized true from) Comptime s ts h state = takes-none x (I64 ∷ ts)
takes-cast x (Sized false from) Comptime s ts h state = takes-none x (I64 ∷ ts)
takes-cast x Comptime (Sized true to) s ts h state = takes-none x (I64 ∷ ts)
takes-cast x Comptime (Sized false to) s ts h state = takes-none x (I64 ∷ ts)
takes-cast x Comptime Comptime s ts h state = takes-none x (I64 ∷ ts)

above-closed : (top cause s : ℕ) → IsClosed (long_tested (long_above top) cause s)
above-closed top cause s = record { by = λ open_ifs rest h. h }

cast-closed : (from to : IntTy) (s : ℕ) → IsClosed (long_cast from to s)
cast-closed (Sized true from) (Sized true to) s = closed-unless (nat_le from to) (long_tested (long_outside to) 11 s) (record { by = λ open_ifs rest h. h })
cast-closed (Sized false from) (Sized true to) s = closed-unless (nat_lt from to) (long_tested (long_above ((2 ^ to - 1) / 2)) 11 s) (above-closed ((2 ^ to - 1) / 2) 11 s)
cast-closed (Sized false from) (Sized false to) s = closed-unless (nat_le from to) (long_tested (long_above (2 ^ to - 1)) 11 s) (above-closed (2 ^ to - 1) 11 s)
cast-closed (Sized true from) (Sized false to) s = closed-then {is = long_tested long_negative 12 s} (record { by = λ open_ifs rest h. h }) (closed-unless (nat_le from (to + 1)) (long_tested (long_above (2 ^ to - 1)) 11 s) (above-closed (2 ^ to - 1) 11 s))
cast-closed (Sized true from) Comptime s = nothing-closed
cast-closed (Sized false from) Comptime s = nothing-closed
cast-closed Comptime (Sized true to) s = nothing-closed
cast-closed Comptime (Sized false to) s = nothing-closed
cast-closed Comptime Comptime s = nothing-closed

pub wide_cast-right : (t : Setting) → IsStored t.left → IsStored t.to → IsRightOfOne (family.Cast cast_op.IntCast) t (wide_cast_code t.left t.to t.scratch)
wide_cast-right t hf ht = record {
  ends = λ m v c a os rest i scratch state. wide_cast-ends m v c t.scratch t.left t.to a os rest hf ht i scratch state;
  typed = λ x ts scratch state. takes-middle x t.left t.to (long_cast t.left t.to t.scratch) ts (takes-cast x t.left t.to t.scratch ts (longs t.scratch x.locals scratch) state);
  closed = middle-closed t.left t.to (long_cast t.left t.to t.scratch) (cast-closed t.left t.to t.scratch);
}

-- ---- how far a number is from 0

takes-distance : (x : Context) (from : IntTy) (s : ℕ) (ts : List ValType) → LongsAreTyped s x.locals → Takes x (long_distance from s) (I64 ∷ ts) (I64 ∷ ts)
takes-distance x (Sized true count) s ts h =
    takes-then (takes-tee_long x (s + 4) ts h.right)
    (takes-then (takes-long_const x _ (I64 ∷ ts))
    (takes-then (takes-long x Mul ts)
    (takes-then (takes-local_get x (s + 4) I64 (I64 ∷ ts) h.right)
    (takes-then (takes-local_get x (s + 4) I64 (I64 ∷ I64 ∷ ts) h.right) (takes-then (takes-negative x (I64 ∷ I64 ∷ ts)) (takes-select_long x ts))))))
takes-distance x (Sized false count) s ts h = takes-none x (I64 ∷ ts)
takes-distance x Comptime s ts h = takes-none x (I64 ∷ ts)

distance-closed : (from : IntTy) (s : ℕ) → IsClosed (long_distance from s)
distance-closed (Sized true count) s = record { by = λ open_ifs rest h. h }
distance-closed (Sized false count) s = nothing-closed
distance-closed Comptime s = nothing-closed

pub wide_abs-right : (t : Setting) → IsStored t.left → IsStored t.to → IsRightOfOne (family.Unary unary_op.Abs) t (wide_distance_code t.left t.to t.scratch)
wide_abs-right t hf ht = record {
  ends = λ m v c a os rest i scratch state. wide_distance-ends m v c t.scratch t.left t.to a os rest hf i scratch;
  typed = λ x ts scratch state. takes-middle x t.left t.to (long_distance t.left t.scratch) ts (takes-distance x t.left t.scratch ts (longs t.scratch x.locals scratch));
  closed = middle-closed t.left t.to (long_distance t.left t.scratch) (distance-closed t.left t.scratch);
}

-- ---- counts

takes-unary : (x : Context) (o : UnaryOperator) (ts : List ValType) → Takes x (Unary I64 o ∷ []) (I64 ∷ ts) (I64 ∷ ts)
takes-unary x o ts = takes-instr x (Unary I64 o) (I64 ∷ ts) (I64 ∷ ts) (λ below c outer. refl)

takes-own : (x : Context) (from : IntTy) (ts : List ValType) → Takes x (own_long from) (I64 ∷ ts) (I64 ∷ ts)
takes-own x (Sized true count) ts = takes-if (nat_lt count 64) x (I64Const (pos (2 ^ count - 1)) ∷ Binary I64 And ∷ []) ts (takes-then (takes-long_const x _ (I64 ∷ ts)) (takes-long x And ts))
takes-own x (Sized false count) ts = takes-none x (I64 ∷ ts)
takes-own x Comptime ts = takes-none x (I64 ∷ ts)

own-closed : (from : IntTy) → IsClosed (own_long from)
own-closed (Sized true count) = if_closed (nat_lt count 64) (I64Const (pos (2 ^ count - 1)) ∷ Binary I64 And ∷ []) (record { by = λ open_ifs rest h. h })
own-closed (Sized false count) = nothing-closed
own-closed Comptime = nothing-closed

unary-closed : (o : UnaryOperator) → IsClosed (Unary I64 o ∷ [])
unary-closed o = record { by = λ open_ifs rest h. h }

pub wide_pop_count-right : (t : Setting) → IsStored t.left → IsStored t.to → IsRightOfOne (family.Count count_op.PopCount) t (wide_ones_code t.left t.to)
wide_pop_count-right t hf ht =
    let is = own_long t.left ++ Unary I64 Popcnt ∷ [] in
    record {
      ends = λ m v c a os rest i scratch state. wide_ones-ends m v c t.scratch t.left t.to a os rest hf i;
      typed = λ x ts scratch state. takes-middle x t.left t.to is ts (takes-then (takes-own x t.left ts) (takes-unary x Popcnt ts));
      closed = middle-closed t.left t.to is (closed-then (own-closed t.left) (unary-closed Popcnt));
    }

pub wide_clz-right : (t : Setting) → IsStored t.left → IsStored t.to → IsRightOfOne (family.Count count_op.Clz) t (wide_leading_code t.left t.to)
wide_clz-right t hf ht =
    let b = nat_lt (width t.left) 64 in
    let less = I64Const (pos (64 - width t.left)) ∷ Binary I64 Sub ∷ [] in
    let is = own_long t.left ++ (Unary I64 Clz ∷ less_zeros t.left) in
    record {
      ends = λ m v c a os rest i scratch state. wide_leading-ends m v c t.scratch t.left t.to a os rest hf i;
      typed = λ x ts scratch state. takes-middle x t.left t.to is ts (takes-then (takes-own x t.left ts) (takes-then (takes-unary x Clz ts) (takes-if b x less ts (takes-then (takes-long_const x _ (I64 ∷ ts)) (takes-long x Sub ts)))));
      closed = middle-closed t.left t.to is (closed-then (own-closed t.left) (closed-then (unary-closed Clz) (if_closed b less (record { by = λ open_ifs rest h. h }))));
    }

takes-at_most : (x : Context) (top s : ℕ) (ts : List ValType) → LongsAreTyped s x.locals → Takes x (LocalTee (s + 4) ∷ I64Const (pos top) ∷ LocalGet (s + 4) ∷ I64Const (pos top) ∷ Compare I64 LtU ∷ Select ∷ []) (I64 ∷ ts) (I64 ∷ ts)
takes-at_most x top s ts h =
    takes-then (takes-tee_long x (s + 4) ts h.right)
    (takes-then (takes-long_const x (pos top) (I64 ∷ ts))
    (takes-then (takes-local_get x (s + 4) I64 (I64 ∷ I64 ∷ ts) h.right)
    (takes-then (takes-long_const x (pos top) (I64 ∷ I64 ∷ I64 ∷ ts)) (takes-then (takes-compare_long x LtU (I64 ∷ I64 ∷ ts)) (takes-select_long x ts)))))

pub wide_ctz-right : (t : Setting) → IsStored t.left → IsStored t.to → IsRightOfOne (family.Count count_op.Ctz) t (wide_trailing_code t.left t.to t.scratch)
wide_ctz-right t hf ht =
    let b = nat_lt (width t.left) 64 in
    let few = LocalTee (t.scratch + 4) ∷ I64Const (pos (width t.left)) ∷ LocalGet (t.scratch + 4) ∷ I64Const (pos (width t.left)) ∷ Compare I64 LtU ∷ Select ∷ [] in
    let is = own_long t.left ++ (Unary I64 Ctz ∷ long_at_most t.left t.scratch) in
    record {
      ends = λ m v c a os rest i scratch state. wide_trailing-ends m v c t.scratch t.left t.to a os rest hf i scratch;
      typed = λ x ts scratch state. takes-middle x t.left t.to is ts (takes-then (takes-own x t.left ts) (takes-then (takes-unary x Ctz ts) (takes-if b x few ts (takes-at_most x (width t.left) t.scratch ts (longs t.scratch x.locals scratch)))));
      closed = middle-closed t.left t.to is (closed-then (own-closed t.left) (closed-then (unary-closed Ctz) (if_closed b few (record { by = λ open_ifs rest h. h }))));
    }
