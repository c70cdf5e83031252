-- The code of operators where a type has more than 32 bits ends all that it begins.
use Rattle.std.proofs.Common.{ℕ, ◌+◌, Bool, true, false, List, [], ◌∷◌, ◌++◌, sym, subst, append_assoc}
use Rattle.std.specs.Prelude.{nat_lt, if◌then◌else◌}
use Rattle.zw_num.specs.Arithmetic.{width}
use Rattle.zw_num.specs.declared.int_ty.IntTy.{IntTy}
use Rattle.zw_num.specs.declared.int_ty.IntTy.TheVariants.{Sized, Comptime}
use Rattle.zw_safety_narrow.specs.Code.{if_panics}
use Rattle.zw_safety_narrow.specs.NarrowCode.{extension, narrowed}
use Rattle.zw_safety_narrow.specs.Operators.{fills_word}
use Rattle.zw_safety_words.specs.WideCode.{widened, settled, left_widened, spread, narrowed_long, wide_wrapped_code, high_of, raised, low_word, carry, sum_words, difference_words, middle, high_product, corrected, product_words, beyond, outside, tested, all_unsigned, all_signed, long_less, crossed, sum_test, difference_test, wide_sum_code, wide_difference_code, wide_product_code}
use Rattle.zw_session.specs.Causes.{integer_overflow}
use Rattle.zw_wasm.specs.declared.module.BinaryOperator.{BinaryOperator}
use Rattle.zw_wasm.specs.declared.module.BinaryOperator.TheVariants.{Add, Sub, Mul}
use Rattle.zw_wasm.specs.declared.module.Comparison.{Comparison}
use Rattle.zw_wasm.specs.declared.module.Comparison.TheVariants.{Ne, LtS, GtS}
use Rattle.zw_wasm.specs.declared.module.Conversion.TheVariants.{Wrap}
use Rattle.zw_wasm.specs.declared.module.Instr.{Instr}
use Rattle.zw_wasm.specs.declared.module.Instr.TheVariants.{LocalGet, LocalSet, Compare, Binary, Convert}
use Rattle.zw_wasm.specs.declared.module.ValType.TheVariants.{I64}
use Rattle.zw_wasm.specs.ModuleBytes.{ClosesIn}
use Rattle.zw_wasm.specs.WellFormed.{IsClosed}

pub closed-then : {is js : List Instr} → IsClosed is → IsClosed js → IsClosed (is ++ js)
closed-then {is} {js} a b = record { by = λ open_ifs rest h. subst (λ l. ClosesIn open_ifs l) (sym (append_assoc is js rest)) (a.by open_ifs (js ++ rest) (b.by open_ifs rest h)) }

-- a piece that may be left out
pub if_closed : (b : Bool) (is : List Instr) → IsClosed is → IsClosed (if b then is else [])
if_closed true is h = h
if_closed false is h = record { by = λ open_ifs rest h. h }

pub widened-closed : (t : IntTy) → IsClosed (widened t)
widened-closed t = if_closed (fills_word t) (Convert (extension t) ∷ []) (record { by = λ open_ifs rest h. h })

pub settled-closed : (t : IntTy) → IsClosed (settled t)
settled-closed t = if_closed (fills_word t) (Convert Wrap ∷ []) (record { by = λ open_ifs rest h. h })

pub left_widened-closed : (t : IntTy) (s : ℕ) → IsClosed (left_widened t s)
left_widened-closed t s =
    if_closed (fills_word t) (LocalSet (s + 4) ∷ Convert (extension t) ∷ LocalGet (s + 4) ∷ []) (record { by = λ open_ifs rest h. h })

set-closed : (n : ℕ) → IsClosed (LocalSet n ∷ [])
set-closed n = record { by = λ open_ifs rest h. h }

pub spread-closed : (left right : IntTy) (s : ℕ) → IsClosed (spread left right s)
spread-closed left right s = closed-then (widened-closed right) (closed-then (set-closed (s + 4)) (closed-then (widened-closed left) (set-closed (s + 5))))

narrowed-closed : (t : IntTy) → IsClosed (narrowed t)
narrowed-closed (Sized true count) = record { by = λ open_ifs rest h. h }
narrowed-closed (Sized false count) = record { by = λ open_ifs rest h. h }
narrowed-closed Comptime = record { by = λ open_ifs rest h. h }

pub narrowed_long-closed : (t : IntTy) → IsClosed (narrowed_long t)
narrowed_long-closed (Sized true count) = record { by = λ open_ifs rest h. h }
narrowed_long-closed (Sized false count) = record { by = λ open_ifs rest h. h }
narrowed_long-closed Comptime = record { by = λ open_ifs rest h. h }

wrap-closed : IsClosed (Convert Wrap ∷ [])
wrap-closed = record { by = λ open_ifs rest h. h }

pub fitted-for : (b : Bool) (to : IntTy) → IsClosed (if b then Convert Wrap ∷ (if nat_lt (width to) 32 then narrowed to else []) else (if nat_lt (width to) 64 then narrowed_long to else []))
fitted-for true to = closed-then wrap-closed (if_closed (nat_lt (width to) 32) (narrowed to) (narrowed-closed to))
fitted-for false to = if_closed (nat_lt (width to) 64) (narrowed_long to) (narrowed_long-closed to)

pub long-closed : (o : BinaryOperator) → IsClosed (Binary I64 o ∷ [])
long-closed o = record { by = λ open_ifs rest h. h }

pub wide_wrapped-closed : (o : BinaryOperator) (left right to : IntTy) (s : ℕ) → IsClosed (wide_wrapped_code o left right to s)
wide_wrapped-closed o left right to s =
    closed-then (closed-then (widened-closed right) (left_widened-closed left s)) (closed-then (long-closed o) (fitted-for (fills_word to) to))

high_of-closed : (t : IntTy) (n : ℕ) → IsClosed (high_of t n)
high_of-closed (Sized true count) n = record { by = λ open_ifs rest h. h }
high_of-closed (Sized false count) n = record { by = λ open_ifs rest h. h }
high_of-closed Comptime n = record { by = λ open_ifs rest h. h }

raised-closed : (o : BinaryOperator) (t : IntTy) (n : ℕ) → IsClosed (raised o t n)
raised-closed o (Sized true count) n = record { by = λ open_ifs rest h. h }
raised-closed o (Sized false count) n = record { by = λ open_ifs rest h. h }
raised-closed o Comptime n = record { by = λ open_ifs rest h. h }

corrected-closed : (t : IntTy) (n k : ℕ) → IsClosed (corrected t n k)
corrected-closed (Sized true count) n k = record { by = λ open_ifs rest h. h }
corrected-closed (Sized false count) n k = record { by = λ open_ifs rest h. h }
corrected-closed Comptime n k = record { by = λ open_ifs rest h. h }

pub low_word-closed : (o : BinaryOperator) (s : ℕ) → IsClosed (low_word o s)
low_word-closed o s = record { by = λ open_ifs rest h. h }

carry-closed : (n k : ℕ) → IsClosed (carry n k)
carry-closed n k = record { by = λ open_ifs rest h. h }

middle-closed : (s : ℕ) → IsClosed (middle s)
middle-closed s = record { by = λ open_ifs rest h. h }

high_product-closed : (s : ℕ) → IsClosed (high_product s)
high_product-closed s = record { by = λ open_ifs rest h. h }

beyond-closed : (to : IntTy) (n : ℕ) → IsClosed (beyond to n)
beyond-closed (Sized true count) n = record { by = λ open_ifs rest h. h }
beyond-closed (Sized false count) n = record { by = λ open_ifs rest h. h }
beyond-closed Comptime n = record { by = λ open_ifs rest h. h }

compare-closed : IsClosed (Compare I64 Ne ∷ [])
compare-closed = record { by = λ open_ifs rest h. h }

pub if_panics-closed : (cause : ℕ) → IsClosed (if_panics cause)
if_panics-closed cause = record { by = λ open_ifs rest h. h }

get-closed : (n : ℕ) → IsClosed (LocalGet n ∷ [])
get-closed n = record { by = λ open_ifs rest h. h }

pub outside-closed : (to : IntTy) (n : ℕ) → IsClosed (outside to n)
outside-closed to n = closed-then (high_of-closed to n) (closed-then compare-closed (if_closed (nat_lt (width to) 64) (beyond to n) (beyond-closed to n)))

pub tested-closed : (to : IntTy) (s : ℕ) → IsClosed (tested to s)
tested-closed to s = closed-then (if_panics-closed integer_overflow) (closed-then (get-closed (s + 6)) (settled-closed to))

pub either_closed : (p q : Bool) (is js ks : List Instr) → IsClosed is → IsClosed js → IsClosed ks → IsClosed (if p then is else (if q then js else ks))
either_closed true q is js ks h k l = h
either_closed false true is js ks h k l = k
either_closed false false is js ks h k l = l

pub sum_words-closed : (left right : IntTy) (s : ℕ) → IsClosed (sum_words left right s)
sum_words-closed left right s =
    closed-then (low_word-closed Add s) (closed-then (carry-closed (s + 6) (s + 4)) (closed-then (raised-closed Add left (s + 5)) (raised-closed Add right (s + 4))))

pub difference_words-closed : (left right : IntTy) (s : ℕ) → IsClosed (difference_words left right s)
difference_words-closed left right s =
    closed-then (low_word-closed Sub s)
    (closed-then (high_of-closed left (s + 5)) (closed-then (carry-closed (s + 5) (s + 4)) (closed-then (long-closed Sub) (raised-closed Sub right (s + 4)))))

pub product_words-closed : (left right : IntTy) (s : ℕ) → IsClosed (product_words left right s)
product_words-closed left right s =
    closed-then (low_word-closed Mul s)
    (closed-then (middle-closed s) (closed-then (high_product-closed s) (closed-then (corrected-closed left (s + 5) (s + 4)) (corrected-closed right (s + 4) (s + 5)))))

plain-closed : (o : BinaryOperator) (n k s : ℕ) → IsClosed (low_word o s ++ long_less n k)
plain-closed o n k s = record { by = λ open_ifs rest h. h }

crossed-closed : (o : BinaryOperator) (comparison : Comparison) (s : ℕ) → IsClosed (low_word o s ++ crossed comparison s)
crossed-closed o comparison s = record { by = λ open_ifs rest h. h }

sum_test-closed : (left right to : IntTy) (s : ℕ) → IsClosed (sum_test left right to s)
sum_test-closed left right to s =
    either_closed (all_unsigned left right to) (all_signed left right to) (low_word Add s ++ long_less (s + 6) (s + 4)) (low_word Add s ++ crossed LtS s) (sum_words left right s ++ outside to (s + 6))
    (plain-closed Add (s + 6) (s + 4) s) (crossed-closed Add LtS s) (closed-then (sum_words-closed left right s) (outside-closed to (s + 6)))

pub difference_test-closed : (left right to : IntTy) (s : ℕ) → IsClosed (difference_test left right to s)
difference_test-closed left right to s =
    either_closed (all_unsigned left right to) (all_signed left right to) (low_word Sub s ++ long_less (s + 5) (s + 4)) (low_word Sub s ++ crossed GtS s) (difference_words left right s ++ outside to (s + 6))
    (plain-closed Sub (s + 5) (s + 4) s) (crossed-closed Sub GtS s) (closed-then (difference_words-closed left right s) (outside-closed to (s + 6)))

pub wide_sum-closed : (left right to : IntTy) (s : ℕ) → IsClosed (wide_sum_code left right to s)
wide_sum-closed left right to s = closed-then (spread-closed left right s) (closed-then (sum_test-closed left right to s) (tested-closed to s))

pub wide_difference-closed : (left right to : IntTy) (s : ℕ) → IsClosed (wide_difference_code left right to s)
wide_difference-closed left right to s = closed-then (spread-closed left right s) (closed-then (difference_test-closed left right to s) (tested-closed to s))

pub wide_product-closed : (left right to : IntTy) (s : ℕ) → IsClosed (wide_product_code left right to s)
wide_product-closed left right to s =
    closed-then (spread-closed left right s) (closed-then (closed-then (product_words-closed left right s) (outside-closed to (s + 6))) (tested-closed to s))
