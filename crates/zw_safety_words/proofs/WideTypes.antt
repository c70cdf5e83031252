-- The types of the code of operators where a type has more than 32 bits, and that it may stand anywhere.
use Rattle.std.proofs.Common.{◌≡◌, ℕ, ℤ, pos, ◌+◌, ◌-◌, ◌^◌, Bool, true, false, List, [], ◌∷◌, ◌++◌, Some, refl, subst, add_assoc, lit<}
use Rattle.std.specs.Prelude.{nat_lt, slice_get, if◌then◌else◌}
use Rattle.zw_num.specs.Arithmetic.{width}
use Rattle.zw_num.specs.declared.int_ty.IntTy.{IntTy}
use Rattle.zw_num.specs.declared.int_ty.IntTy.TheVariants.{Sized, Comptime}
use Rattle.zw_safety_narrow.proofs.CheckedTypes.{takes-if_panics}
use Rattle.zw_safety_narrow.proofs.NarrowTypes.{long_local, takes-extension, takes-long, takes-word, takes-long_const, takes-compare_long, takes-wrap, takes-above, takes-if_narrower}
use Rattle.zw_safety_narrow.specs.Checked.{ScratchIsTyped, PanicStateIsTyped}
use Rattle.zw_safety_narrow.specs.NarrowCode.{extension, narrowed}
use Rattle.zw_safety_narrow.specs.Operators.{fills_word, type_of}
use Rattle.zw_safety_words.specs.WideCode.{widened, spread, narrowed_long, wide_wrapped_code, high_of, raised, low_word, carry, sum_words, difference_words, upper, lower, middle, high_product, corrected, product_words, beyond, outside, tested, all_unsigned, all_signed, long_less, crossed, sum_test, difference_test, product_test, wide_sum_code, wide_difference_code, wide_product_code}
use Rattle.zw_session.specs.Causes.{integer_overflow}
use Rattle.zw_wasm.proofs.TypingTakes.{takes-none, takes-then, takes-instr, takes-local_get, takes-local_set}
use Rattle.zw_wasm.specs.declared.module.BinaryOperator.{BinaryOperator}
use Rattle.zw_wasm.specs.declared.module.BinaryOperator.TheVariants.{Add, Sub, Mul, And, Or, ShrS, ShrU}
use Rattle.zw_wasm.specs.declared.module.Comparison.{Comparison}
use Rattle.zw_wasm.specs.declared.module.Comparison.TheVariants.{Ne, LtS, LtU, GtS, GtU}
use Rattle.zw_wasm.specs.declared.module.Conversion.TheVariants.{Wrap, ExtendU}
use Rattle.zw_wasm.specs.declared.module.Instr.{Instr}
use Rattle.zw_wasm.specs.declared.module.Instr.TheVariants.{LocalGet, LocalSet, I64Const, Binary, Compare, Convert}
use Rattle.zw_wasm.specs.declared.module.ValType.{ValType}
use Rattle.zw_wasm.specs.declared.module.ValType.TheVariants.{I32, I64}
use Rattle.zw_wasm.specs.Sequences.{Takes}
use Rattle.zw_wasm.specs.Typing.{Context}

-- the four locals of 64 bits are there
pub record LongsAreTyped (s : ℕ) (locals : List ValType) : Type 0 where
  pub right : slice_get locals (s + 4) ≡ Some I64
  pub left : slice_get locals (s + 5) ≡ Some I64
  pub low : slice_get locals (s + 6) ≡ Some I64
  pub mid : slice_get locals (s + 7) ≡ Some I64

at_sum : (s k : ℕ) (locals : List ValType) → slice_get locals (s + 4 + k) ≡ Some I64 → slice_get locals (s + (4 + k)) ≡ Some I64
at_sum s k locals e = subst (λ n. slice_get locals n ≡ Some I64) (add_assoc s 4 k) e

pub longs : (s : ℕ) (locals : List ValType) → ScratchIsTyped s locals → LongsAreTyped s locals
longs s locals h = record {
  right = long_local s locals h;
  left = at_sum s 1 locals (h.second 1 (lit< tt));
  low = at_sum s 2 locals (h.second 2 (lit< tt));
  mid = at_sum s 3 locals (h.second 3 (lit< tt));
}

-- ---- operands and results

abbrev pub type_by : Bool → ValType
type_by b = if b then I32 else I64

widened-for : (b : Bool) (x : Context) (t : IntTy) (ts : List ValType) → Takes x (if b then Convert (extension t) ∷ [] else []) (type_by b ∷ ts) (I64 ∷ ts)
widened-for true x t ts = takes-extension x t ts
widened-for false x t ts = takes-none x (I64 ∷ ts)

pub takes-widened : (x : Context) (t : IntTy) (ts : List ValType) → Takes x (widened t) (type_of t ∷ ts) (I64 ∷ ts)
takes-widened x t ts = widened-for (fills_word t) x t ts

pub settled-for : (b : Bool) (x : Context) (ts : List ValType) → Takes x (if b then Convert Wrap ∷ [] else []) (I64 ∷ ts) (type_by b ∷ ts)
settled-for true x ts = takes-wrap x ts
settled-for false x ts = takes-none x (I64 ∷ ts)

pub left_widened-for : (b : Bool) (x : Context) (t : IntTy) (s : ℕ) (ts : List ValType) → LongsAreTyped s x.locals → Takes x (if b then LocalSet (s + 4) ∷ Convert (extension t) ∷ LocalGet (s + 4) ∷ [] else []) (I64 ∷ type_by b ∷ ts) (I64 ∷ I64 ∷ ts)
left_widened-for true x t s ts h =
    takes-then (takes-local_set x (s + 4) I64 (I32 ∷ ts) h.right) (takes-then (takes-extension x t ts) (takes-local_get x (s + 4) I64 (I64 ∷ ts) h.right))
left_widened-for false x t s ts h = takes-none x (I64 ∷ I64 ∷ ts)

pub takes-spread : (x : Context) (left right : IntTy) (s : ℕ) (ts : List ValType) → LongsAreTyped s x.locals → Takes x (spread left right s) (type_of right ∷ type_of left ∷ ts) ts
takes-spread x left right s ts h =
    takes-then (takes-widened x right (type_of left ∷ ts))
    (takes-then (takes-local_set x (s + 4) I64 (type_of left ∷ ts) h.right)
    (takes-then (takes-widened x left ts) (takes-local_set x (s + 5) I64 ts h.left)))

-- ---- the result that wraps around

takes-narrowed_long : (x : Context) (to : IntTy) (ts : List ValType) → Takes x (narrowed_long to) (I64 ∷ ts) (I64 ∷ ts)
takes-narrowed_long x (Sized true count) ts =
    takes-then (takes-long_const x _ (I64 ∷ ts)) (takes-then (takes-long x Add ts)
    (takes-then (takes-long_const x _ (I64 ∷ ts)) (takes-then (takes-long x And ts)
    (takes-then (takes-long_const x _ (I64 ∷ ts)) (takes-long x Sub ts)))))
takes-narrowed_long x (Sized false count) ts = takes-then (takes-long_const x _ (I64 ∷ ts)) (takes-long x And ts)
takes-narrowed_long x Comptime ts = takes-none x (I64 ∷ ts)

pub if_shorter-for : (b : Bool) (x : Context) (to : IntTy) (ts : List ValType) → Takes x (if b then narrowed_long to else []) (I64 ∷ ts) (I64 ∷ ts)
if_shorter-for true x to ts = takes-narrowed_long x to ts
if_shorter-for false x to ts = takes-none x (I64 ∷ ts)

pub fitted-for : (b : Bool) (x : Context) (to : IntTy) (ts : List ValType) → Takes x (if b then Convert Wrap ∷ (if nat_lt (width to) 32 then narrowed to else []) else (if nat_lt (width to) 64 then narrowed_long to else [])) (I64 ∷ ts) (type_by b ∷ ts)
fitted-for true x to ts = takes-then (takes-wrap x ts) (takes-if_narrower (nat_lt (width to) 32) x to ts)
fitted-for false x to ts = if_shorter-for (nat_lt (width to) 64) x to ts

pub takes-wide_wrapped : (x : Context) (o : BinaryOperator) (left right to : IntTy) (s : ℕ) (ts : List ValType) → ScratchIsTyped s x.locals → Takes x (wide_wrapped_code o left right to s) (type_of right ∷ type_of left ∷ ts) (type_of to ∷ ts)
takes-wide_wrapped x o left right to s ts h =
    takes-then (takes-then (takes-widened x right (type_of left ∷ ts)) (left_widened-for (fills_word left) x left s ts (longs s x.locals h)))
    (takes-then (takes-long x o ts) (fitted-for (fills_word to) x to ts))

-- ---- the result in two words

takes-high_of : (x : Context) (t : IntTy) (n : ℕ) (ts : List ValType) → slice_get x.locals n ≡ Some I64 → Takes x (high_of t n) ts (I64 ∷ ts)
takes-high_of x (Sized true count) n ts e =
    takes-then (takes-local_get x n I64 ts e) (takes-then (takes-long_const x (pos 63) (I64 ∷ ts)) (takes-long x ShrS ts))
takes-high_of x (Sized false count) n ts e = takes-long_const x (pos 0) ts
takes-high_of x Comptime n ts e = takes-long_const x (pos 0) ts

takes-raised : (x : Context) (o : BinaryOperator) (t : IntTy) (n : ℕ) (ts : List ValType) → slice_get x.locals n ≡ Some I64 → Takes x (raised o t n) (I64 ∷ ts) (I64 ∷ ts)
takes-raised x o (Sized true count) n ts e =
    takes-then (takes-local_get x n I64 (I64 ∷ ts) e)
    (takes-then (takes-long_const x (pos 63) (I64 ∷ I64 ∷ ts)) (takes-then (takes-long x ShrS (I64 ∷ ts)) (takes-long x o ts)))
takes-raised x o (Sized false count) n ts e = takes-none x (I64 ∷ ts)
takes-raised x o Comptime n ts e = takes-none x (I64 ∷ ts)

takes-extend_u : (x : Context) (ts : List ValType) → Takes x (Convert ExtendU ∷ []) (I32 ∷ ts) (I64 ∷ ts)
takes-extend_u x ts = takes-instr x (Convert ExtendU) (I32 ∷ ts) (I64 ∷ ts) (λ below c outer. refl)

takes-carry : (x : Context) (n k : ℕ) (ts : List ValType) → slice_get x.locals n ≡ Some I64 → slice_get x.locals k ≡ Some I64 → Takes x (carry n k) ts (I64 ∷ ts)
takes-carry x n k ts e f =
    takes-then (takes-local_get x n I64 ts e) (takes-then (takes-local_get x k I64 (I64 ∷ ts) f) (takes-then (takes-compare_long x LtU ts) (takes-extend_u x ts)))

pub takes-low_word : (x : Context) (o : BinaryOperator) (s : ℕ) (ts : List ValType) → LongsAreTyped s x.locals → Takes x (low_word o s) ts ts
takes-low_word x o s ts h =
    takes-then (takes-local_get x (s + 5) I64 ts h.left)
    (takes-then (takes-local_get x (s + 4) I64 (I64 ∷ ts) h.right) (takes-then (takes-long x o ts) (takes-local_set x (s + 6) I64 ts h.low)))

pub takes-sum_words : (x : Context) (left right : IntTy) (s : ℕ) (ts : List ValType) → LongsAreTyped s x.locals → Takes x (sum_words left right s) ts (I64 ∷ ts)
takes-sum_words x left right s ts h =
    takes-then (takes-low_word x Add s ts h)
    (takes-then (takes-carry x (s + 6) (s + 4) ts h.low h.right)
    (takes-then (takes-raised x Add left (s + 5) ts h.left) (takes-raised x Add right (s + 4) ts h.right)))

pub takes-difference_words : (x : Context) (left right : IntTy) (s : ℕ) (ts : List ValType) → LongsAreTyped s x.locals → Takes x (difference_words left right s) ts (I64 ∷ ts)
takes-difference_words x left right s ts h =
    takes-then (takes-low_word x Sub s ts h)
    (takes-then (takes-high_of x left (s + 5) ts h.left)
    (takes-then (takes-carry x (s + 5) (s + 4) (I64 ∷ ts) h.left h.right)
    (takes-then (takes-long x Sub ts) (takes-raised x Sub right (s + 4) ts h.right))))

takes-half : (x : Context) (o : BinaryOperator) (z : ℤ) (n : ℕ) (ts : List ValType) → slice_get x.locals n ≡ Some I64 → Takes x (LocalGet n ∷ I64Const z ∷ Binary I64 o ∷ []) ts (I64 ∷ ts)
takes-half x o z n ts e = takes-then (takes-local_get x n I64 ts e) (takes-then (takes-long_const x z (I64 ∷ ts)) (takes-long x o ts))

takes-upper : (x : Context) (n : ℕ) (ts : List ValType) → slice_get x.locals n ≡ Some I64 → Takes x (upper n) ts (I64 ∷ ts)
takes-upper x n ts e = takes-half x ShrU (pos 32) n ts e

takes-lower : (x : Context) (n : ℕ) (ts : List ValType) → slice_get x.locals n ≡ Some I64 → Takes x (lower n) ts (I64 ∷ ts)
takes-lower x n ts e = takes-half x And (pos (2 ^ 32 - 1)) n ts e

takes-down : (x : Context) (ts : List ValType) → Takes x (I64Const (pos 32) ∷ Binary I64 ShrU ∷ []) (I64 ∷ ts) (I64 ∷ ts)
takes-down x ts = takes-then (takes-long_const x (pos 32) (I64 ∷ ts)) (takes-long x ShrU ts)

takes-middle : (x : Context) (s : ℕ) (ts : List ValType) → LongsAreTyped s x.locals → Takes x (middle s) ts ts
takes-middle x s ts h =
    takes-then (takes-upper x (s + 5) ts h.left)
    (takes-then (takes-lower x (s + 4) (I64 ∷ ts) h.right)
    (takes-then (takes-long x Mul ts)
    (takes-then (takes-lower x (s + 5) (I64 ∷ ts) h.left)
    (takes-then (takes-lower x (s + 4) (I64 ∷ I64 ∷ ts) h.right)
    (takes-then (takes-long x Mul (I64 ∷ ts))
    (takes-then (takes-down x (I64 ∷ ts)) (takes-then (takes-long x Add ts) (takes-local_set x (s + 7) I64 ts h.mid))))))))

takes-high_product : (x : Context) (s : ℕ) (ts : List ValType) → LongsAreTyped s x.locals → Takes x (high_product s) ts (I64 ∷ ts)
takes-high_product x s ts h =
    takes-then (takes-lower x (s + 5) ts h.left)
    (takes-then (takes-upper x (s + 4) (I64 ∷ ts) h.right)
    (takes-then (takes-long x Mul ts)
    (takes-then (takes-lower x (s + 7) (I64 ∷ ts) h.mid)
    (takes-then (takes-long x Add ts)
    (takes-then (takes-down x ts)
    (takes-then (takes-upper x (s + 7) (I64 ∷ ts) h.mid)
    (takes-then (takes-long x Add ts)
    (takes-then (takes-upper x (s + 5) (I64 ∷ ts) h.left)
    (takes-then (takes-upper x (s + 4) (I64 ∷ I64 ∷ ts) h.right)
    (takes-then (takes-long x Mul (I64 ∷ ts)) (takes-long x Add ts)))))))))))

takes-corrected : (x : Context) (t : IntTy) (n k : ℕ) (ts : List ValType) → slice_get x.locals n ≡ Some I64 → slice_get x.locals k ≡ Some I64 → Takes x (corrected t n k) (I64 ∷ ts) (I64 ∷ ts)
takes-corrected x (Sized true count) n k ts e f =
    takes-then (takes-half x ShrS (pos 63) n (I64 ∷ ts) e)
    (takes-then (takes-local_get x k I64 (I64 ∷ I64 ∷ ts) f) (takes-then (takes-long x And (I64 ∷ ts)) (takes-long x Sub ts)))
takes-corrected x (Sized false count) n k ts e f = takes-none x (I64 ∷ ts)
takes-corrected x Comptime n k ts e f = takes-none x (I64 ∷ ts)

pub takes-product_words : (x : Context) (left right : IntTy) (s : ℕ) (ts : List ValType) → LongsAreTyped s x.locals → Takes x (product_words left right s) ts (I64 ∷ ts)
takes-product_words x left right s ts h =
    takes-then (takes-low_word x Mul s ts h)
    (takes-then (takes-middle x s ts h)
    (takes-then (takes-high_product x s ts h)
    (takes-then (takes-corrected x left (s + 5) (s + 4) ts h.left h.right) (takes-corrected x right (s + 4) (s + 5) ts h.right h.left))))

takes-beyond : (x : Context) (to : IntTy) (n : ℕ) (ts : List ValType) → slice_get x.locals n ≡ Some I64 → Takes x (beyond to n) (I32 ∷ ts) (I32 ∷ ts)
takes-beyond x to n ts e =
    takes-then (takes-local_get x n I64 (I32 ∷ ts) e)
    (takes-then (takes-above x to (I32 ∷ ts))
    (takes-then (takes-long_const x _ (I64 ∷ I32 ∷ ts)) (takes-then (takes-compare_long x GtU (I32 ∷ ts)) (takes-word x Or ts))))

beyond-for : (b : Bool) (x : Context) (to : IntTy) (n : ℕ) (ts : List ValType) → slice_get x.locals n ≡ Some I64 → Takes x (if b then beyond to n else []) (I32 ∷ ts) (I32 ∷ ts)
beyond-for true x to n ts e = takes-beyond x to n ts e
beyond-for false x to n ts e = takes-none x (I32 ∷ ts)

pub takes-outside : (x : Context) (to : IntTy) (n : ℕ) (ts : List ValType) → slice_get x.locals n ≡ Some I64 → Takes x (outside to n) (I64 ∷ ts) (I32 ∷ ts)
takes-outside x to n ts e =
    takes-then (takes-high_of x to n (I64 ∷ ts) e) (takes-then (takes-compare_long x Ne ts) (beyond-for (nat_lt (width to) 64) x to n ts e))

pub takes-tested : (x : Context) (to : IntTy) (s : ℕ) (ts : List ValType) → LongsAreTyped s x.locals → PanicStateIsTyped x.module_ → Takes x (tested to s) (I32 ∷ ts) (type_of to ∷ ts)
takes-tested x to s ts h state =
    takes-then (takes-if_panics x integer_overflow ts state)
    (takes-then (takes-local_get x (s + 6) I64 ts h.low) (settled-for (fills_word to) x ts))

pub takes-long_less : (x : Context) (n k : ℕ) (ts : List ValType) → slice_get x.locals n ≡ Some I64 → slice_get x.locals k ≡ Some I64 → Takes x (long_less n k) ts (I32 ∷ ts)
takes-long_less x n k ts e f =
    takes-then (takes-local_get x n I64 ts e) (takes-then (takes-local_get x k I64 (I64 ∷ ts) f) (takes-compare_long x LtU ts))

takes-differ : (x : Context) (ts : List ValType) → Takes x (Compare I32 Ne ∷ []) (I32 ∷ I32 ∷ ts) (I32 ∷ ts)
takes-differ x ts = takes-instr x (Compare I32 Ne) (I32 ∷ I32 ∷ ts) (I32 ∷ ts) (λ below c outer. refl)

pub takes-crossed : (x : Context) (o : Comparison) (s : ℕ) (ts : List ValType) → LongsAreTyped s x.locals → Takes x (crossed o s) ts (I32 ∷ ts)
takes-crossed x o s ts h =
    takes-then (takes-local_get x (s + 4) I64 ts h.right)
    (takes-then (takes-long_const x (pos 0) (I64 ∷ ts))
    (takes-then (takes-compare_long x o ts)
    (takes-then (takes-local_get x (s + 6) I64 (I32 ∷ ts) h.low)
    (takes-then (takes-local_get x (s + 5) I64 (I64 ∷ I32 ∷ ts) h.left) (takes-then (takes-compare_long x LtS (I32 ∷ ts)) (takes-differ x ts))))))

sum_test-for : (p q : Bool) (x : Context) (left right to : IntTy) (s : ℕ) (ts : List ValType) → LongsAreTyped s x.locals → Takes x (if p then low_word Add s ++ long_less (s + 6) (s + 4) else (if q then low_word Add s ++ crossed LtS s else sum_words left right s ++ outside to (s + 6))) ts (I32 ∷ ts)
sum_test-for true q x left right to s ts h = takes-then (takes-low_word x Add s ts h) (takes-long_less x (s + 6) (s + 4) ts h.low h.right)
sum_test-for false true x left right to s ts h = takes-then (takes-low_word x Add s ts h) (takes-crossed x LtS s ts h)
sum_test-for false false x left right to s ts h = takes-then (takes-sum_words x left right s ts h) (takes-outside x to (s + 6) ts h.low)

pub difference_test-for : (p q : Bool) (x : Context) (left right to : IntTy) (s : ℕ) (ts : List ValType) → LongsAreTyped s x.locals → Takes x (if p then low_word Sub s ++ long_less (s + 5) (s + 4) else (if q then low_word Sub s ++ crossed GtS s else difference_words left right s ++ outside to (s + 6))) ts (I32 ∷ ts)
difference_test-for true q x left right to s ts h = takes-then (takes-low_word x Sub s ts h) (takes-long_less x (s + 5) (s + 4) ts h.left h.right)
difference_test-for false true x left right to s ts h = takes-then (takes-low_word x Sub s ts h) (takes-crossed x GtS s ts h)
difference_test-for false false x left right to s ts h = takes-then (takes-difference_words x left right s ts h) (takes-outside x to (s + 6) ts h.low)

-- a piece that tests
takes-test : (x : Context) (ws : List Instr) (left right to : IntTy) (s : ℕ) (ts : List ValType) → LongsAreTyped s x.locals → PanicStateIsTyped x.module_ → Takes x ws ts (I32 ∷ ts) → Takes x (spread left right s ++ (ws ++ tested to s)) (type_of right ∷ type_of left ∷ ts) (type_of to ∷ ts)
takes-test x ws left right to s ts h state takes =
    takes-then (takes-spread x left right s ts h) (takes-then takes (takes-tested x to s ts h state))

pub takes-wide_sum : (x : Context) (left right to : IntTy) (s : ℕ) (ts : List ValType) → ScratchIsTyped s x.locals → PanicStateIsTyped x.module_ → Takes x (wide_sum_code left right to s) (type_of right ∷ type_of left ∷ ts) (type_of to ∷ ts)
takes-wide_sum x left right to s ts h state =
    takes-test x (sum_test left right to s) left right to s ts (longs s x.locals h) state (sum_test-for (all_unsigned left right to) (all_signed left right to) x left right to s ts (longs s x.locals h))

pub takes-wide_difference : (x : Context) (left right to : IntTy) (s : ℕ) (ts : List ValType) → ScratchIsTyped s x.locals → PanicStateIsTyped x.module_ → Takes x (wide_difference_code left right to s) (type_of right ∷ type_of left ∷ ts) (type_of to ∷ ts)
takes-wide_difference x left right to s ts h state =
    takes-test x (difference_test left right to s) left right to s ts (longs s x.locals h) state (difference_test-for (all_unsigned left right to) (all_signed left right to) x left right to s ts (longs s x.locals h))

pub takes-wide_product : (x : Context) (left right to : IntTy) (s : ℕ) (ts : List ValType) → ScratchIsTyped s x.locals → PanicStateIsTyped x.module_ → Takes x (wide_product_code left right to s) (type_of right ∷ type_of left ∷ ts) (type_of to ∷ ts)
takes-wide_product x left right to s ts h state =
    takes-test x (product_test left right to s) left right to s ts (longs s x.locals h) state (takes-then (takes-product_words x left right s ts (longs s x.locals h)) (takes-outside x to (s + 6) ts (longs s x.locals h).low))
