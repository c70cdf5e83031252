-- The types of the code of operators on types of at most 32 bits, and that it may stand anywhere.
use Rattle.std.proofs.Common.{◌≡◌, ℕ, pos, ◌+◌, ◌/◌, ◌^◌, Bool, true, false, List, [], ◌∷◌, Some, refl, ap, subst, lit<, add-zero}
use Rattle.std.proofs.lemmas.Bool.{le-leb}
use Rattle.std.specs.Prelude.{nat_lt, slice_get, if◌then◌else◌}
use Rattle.zw_num.specs.Arithmetic.{width}
use Rattle.zw_num.specs.declared.int_ty.IntTy.{IntTy}
use Rattle.zw_num.specs.declared.int_ty.IntTy.TheVariants.{Sized, Comptime}
use Rattle.zw_safety_narrow.proofs.CheckedTypes.{takes-if_panics}
use Rattle.zw_safety_narrow.specs.Checked.{ScratchIsTyped, PanicStateIsTyped}
use Rattle.zw_safety_narrow.specs.NarrowCode.{extension, above_least, extended, in_range_or, in_range, exact_code_or, exact_code, narrowed, wrapped_code}
use Rattle.zw_safety_narrow.specs.Operators.{IsNarrow, type_of}
use Rattle.zw_session.specs.Causes.{integer_overflow}
use Rattle.zw_wasm.proofs.TypingTakes.{takes-none, takes-then, takes-instr, takes-local_get, takes-local_set, takes-i32_const}
use Rattle.zw_wasm.specs.declared.module.BinaryOperator.{BinaryOperator}
use Rattle.zw_wasm.specs.declared.module.BinaryOperator.TheVariants.{Add, Sub, And}
use Rattle.zw_wasm.specs.declared.module.Comparison.{Comparison}
use Rattle.zw_wasm.specs.declared.module.Comparison.TheVariants.{GtU}
use Rattle.zw_wasm.specs.declared.module.Conversion.TheVariants.{Wrap}
use Rattle.zw_wasm.specs.declared.module.Instr.TheVariants.{I64Const, Binary, Compare, Convert}
use Rattle.zw_wasm.specs.declared.module.ValType.{ValType}
use Rattle.zw_wasm.specs.declared.module.ValType.TheVariants.{I32, I64}
use Rattle.zw_wasm.specs.Sequences.{Takes}
use Rattle.zw_wasm.specs.Typing.{Context}
use Rattle.zw_wasm.specs.WellFormed.{IsClosed}
use Rattle.std.specs.Prelude.{ℤ}

pub type-narrow : (t : IntTy) → IsNarrow t → type_of t ≡ I32
type-narrow (Sized signed count) h = ap (λ b. if b then I32 else I64) (le-leb count 32 h)
type-narrow Comptime h = absurd h

pub long_local : (s : ℕ) (locals : List ValType) → ScratchIsTyped s locals → slice_get locals (s + 4) ≡ Some I64
long_local s locals h = subst (λ n. slice_get locals n ≡ Some I64) (add-zero (s + 4)) (h.second 0 (lit< tt))

pub takes-extension : (x : Context) (t : IntTy) (ts : List ValType) → Takes x (Convert (extension t) ∷ []) (I32 ∷ ts) (I64 ∷ ts)
takes-extension x (Sized true count) ts = takes-instr x (Convert (extension (Sized true count))) (I32 ∷ ts) (I64 ∷ ts) (λ below c outer. refl)
takes-extension x (Sized false count) ts = takes-instr x (Convert (extension (Sized false count))) (I32 ∷ ts) (I64 ∷ ts) (λ below c outer. refl)
takes-extension x Comptime ts = takes-instr x (Convert (extension Comptime)) (I32 ∷ ts) (I64 ∷ ts) (λ below c outer. refl)

pub takes-long : (x : Context) (o : BinaryOperator) (ts : List ValType) → Takes x (Binary I64 o ∷ []) (I64 ∷ I64 ∷ ts) (I64 ∷ ts)
takes-long x o ts = takes-instr x (Binary I64 o) (I64 ∷ I64 ∷ ts) (I64 ∷ ts) (λ below c outer. refl)

pub takes-word : (x : Context) (o : BinaryOperator) (ts : List ValType) → Takes x (Binary I32 o ∷ []) (I32 ∷ I32 ∷ ts) (I32 ∷ ts)
takes-word x o ts = takes-instr x (Binary I32 o) (I32 ∷ I32 ∷ ts) (I32 ∷ ts) (λ below c outer. refl)

pub takes-long_const : (x : Context) (z : ℤ) (ts : List ValType) → Takes x (I64Const z ∷ []) ts (I64 ∷ ts)
takes-long_const x z ts = takes-instr x (I64Const z) ts (I64 ∷ ts) (λ below c outer. refl)

pub takes-compare_long : (x : Context) (o : Comparison) (ts : List ValType) → Takes x (Compare I64 o ∷ []) (I64 ∷ I64 ∷ ts) (I32 ∷ ts)
takes-compare_long x o ts = takes-instr x (Compare I64 o) (I64 ∷ I64 ∷ ts) (I32 ∷ ts) (λ below c outer. refl)

pub takes-wrap : (x : Context) (ts : List ValType) → Takes x (Convert Wrap ∷ []) (I64 ∷ ts) (I32 ∷ ts)
takes-wrap x ts = takes-instr x (Convert Wrap) (I64 ∷ ts) (I32 ∷ ts) (λ below c outer. refl)

pub takes-extended : (x : Context) (left right : IntTy) (s : ℕ) (ts : List ValType) → ScratchIsTyped s x.locals → Takes x (extended left right s) (I32 ∷ I32 ∷ ts) (I64 ∷ I64 ∷ ts)
takes-extended x left right s ts h =
    let there = long_local s x.locals h in
    takes-then (takes-extension x right (I32 ∷ ts))
    (takes-then (takes-local_set x (s + 4) I64 (I32 ∷ ts) there)
    (takes-then (takes-extension x left ts) (takes-local_get x (s + 4) I64 (I64 ∷ ts) there)))

pub takes-above : (x : Context) (to : IntTy) (ts : List ValType) → Takes x (above_least to) (I64 ∷ ts) (I64 ∷ ts)
takes-above x (Sized true count) ts = takes-then (takes-long_const x (pos (2 ^ count / 2)) (I64 ∷ ts)) (takes-long x Add ts)
takes-above x (Sized false count) ts = takes-none x (I64 ∷ ts)
takes-above x Comptime ts = takes-none x (I64 ∷ ts)

pub takes-in_range_or : (x : Context) (cause : ℕ) (to : IntTy) (ts : List ValType) → PanicStateIsTyped x.module_ → Takes x (in_range_or cause to) (I64 ∷ ts) ts
takes-in_range_or x cause to ts state =
    takes-then (takes-above x to ts)
    (takes-then (takes-long_const x _ (I64 ∷ ts))
    (takes-then (takes-compare_long x GtU ts) (takes-if_panics x cause ts state)))

pub takes-in_range : (x : Context) (to : IntTy) (ts : List ValType) → PanicStateIsTyped x.module_ → Takes x (in_range to) (I64 ∷ ts) ts
takes-in_range x to ts state = takes-in_range_or x integer_overflow to ts state

pub takes-exact_or : (x : Context) (cause : ℕ) (o : BinaryOperator) (left right to : IntTy) (s : ℕ) (ts : List ValType) → ScratchIsTyped s x.locals → PanicStateIsTyped x.module_ → Takes x (exact_code_or cause o left right to s) (I32 ∷ I32 ∷ ts) (I32 ∷ ts)
takes-exact_or x cause o left right to s ts h state =
    let there = long_local s x.locals h in
    takes-then (takes-extended x left right s ts h)
    (takes-then (takes-then (takes-long x o ts) (takes-then (takes-local_set x (s + 4) I64 ts there) (takes-local_get x (s + 4) I64 ts there)))
    (takes-then (takes-in_range_or x cause to ts state)
    (takes-then (takes-local_get x (s + 4) I64 ts there) (takes-wrap x ts))))

pub takes-exact : (x : Context) (o : BinaryOperator) (left right to : IntTy) (s : ℕ) (ts : List ValType) → ScratchIsTyped s x.locals → PanicStateIsTyped x.module_ → Takes x (exact_code o left right to s) (I32 ∷ I32 ∷ ts) (I32 ∷ ts)
takes-exact x o left right to s ts h state = takes-exact_or x integer_overflow o left right to s ts h state

pub takes-narrowed : (x : Context) (to : IntTy) (ts : List ValType) → Takes x (narrowed to) (I32 ∷ ts) (I32 ∷ ts)
takes-narrowed x (Sized true count) ts =
    takes-then (takes-i32_const x _ (I32 ∷ ts)) (takes-then (takes-word x Add ts)
    (takes-then (takes-i32_const x _ (I32 ∷ ts)) (takes-then (takes-word x And ts)
    (takes-then (takes-i32_const x _ (I32 ∷ ts)) (takes-word x Sub ts)))))
takes-narrowed x (Sized false count) ts = takes-then (takes-i32_const x _ (I32 ∷ ts)) (takes-word x And ts)
takes-narrowed x Comptime ts = takes-none x (I32 ∷ ts)

pub takes-if_narrower : (b : Bool) (x : Context) (to : IntTy) (ts : List ValType) → Takes x (if b then narrowed to else []) (I32 ∷ ts) (I32 ∷ ts)
takes-if_narrower true x to ts = takes-narrowed x to ts
takes-if_narrower false x to ts = takes-none x (I32 ∷ ts)

pub takes-wrapped : (x : Context) (o : BinaryOperator) (to : IntTy) (ts : List ValType) → Takes x (wrapped_code o to) (I32 ∷ I32 ∷ ts) (I32 ∷ ts)
takes-wrapped x o to ts = takes-then (takes-word x o ts) (takes-if_narrower (nat_lt (width to) 32) x to ts)

-- ---- it ends all that it begins

pub exact_or-closed : (cause : ℕ) (o : BinaryOperator) (left right to : IntTy) (s : ℕ) → IsClosed (exact_code_or cause o left right to s)
exact_or-closed cause o left right (Sized true count) s = record { by = λ open_ifs rest h. h }
exact_or-closed cause o left right (Sized false count) s = record { by = λ open_ifs rest h. h }
exact_or-closed cause o left right Comptime s = record { by = λ open_ifs rest h. h }

pub exact-closed : (o : BinaryOperator) (left right to : IntTy) (s : ℕ) → IsClosed (exact_code o left right to s)
exact-closed o left right to s = exact_or-closed integer_overflow o left right to s

wrapped-closed_for : (b : Bool) (o : BinaryOperator) (to : IntTy) → IsClosed (Binary I32 o ∷ (if b then narrowed to else []))
wrapped-closed_for true o (Sized true count) = record { by = λ open_ifs rest h. h }
wrapped-closed_for true o (Sized false count) = record { by = λ open_ifs rest h. h }
wrapped-closed_for true o Comptime = record { by = λ open_ifs rest h. h }
wrapped-closed_for false o to = record { by = λ open_ifs rest h. h }

pub wrapped-closed : (o : BinaryOperator) (to : IntTy) → IsClosed (wrapped_code o to)
wrapped-closed o to = wrapped-closed_for (nat_lt (width to) 32) o to
