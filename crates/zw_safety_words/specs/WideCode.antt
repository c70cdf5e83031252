-- The code of operators where a type has more than 32 bits. A result that may not be a number of 64 bits is in two words: the low
-- one in a local, and the high one, by which whole multiples of 2^64 it lies from 0, on the operands.
use Rattle.std.specs.Prelude.{ℕ, pos, ◌+◌, ◌-◌, ◌/◌, ◌^◌, Bool, true, false, not, ◌&&◌, nat_eq, nat_lt, List, [], ◌∷◌, ◌++◌, if◌then◌else◌}
use Rattle.zw_num.specs.Arithmetic.{width}
use Rattle.zw_num.specs.declared.int_ty.IntTy.{IntTy}
use Rattle.zw_num.specs.declared.int_ty.IntTy.TheVariants.{Sized, Comptime}
use Rattle.zw_safety_narrow.specs.Code.{if_panics}
use Rattle.zw_safety_narrow.specs.NarrowCode.{extension, above_least, narrowed}
use Rattle.zw_safety_narrow.specs.Operators.{fills_word}
use Rattle.zw_session.specs.Causes.{integer_overflow}
use Rattle.zw_wasm.specs.declared.module.BinaryOperator.{BinaryOperator}
use Rattle.zw_wasm.specs.declared.module.BinaryOperator.TheVariants.{Add, Sub, Mul, And, Or, ShrS, ShrU}
use Rattle.zw_wasm.specs.declared.module.Comparison.{Comparison}
use Rattle.zw_wasm.specs.declared.module.Comparison.TheVariants.{Ne, LtS, LtU, GtS, GtU}
use Rattle.zw_wasm.specs.declared.module.Conversion.TheVariants.{Wrap, ExtendU}
use Rattle.zw_wasm.specs.declared.module.Instr.{Instr}
use Rattle.zw_wasm.specs.declared.module.Instr.TheVariants.{LocalGet, LocalSet, I64Const, Compare, Binary, Convert}
use Rattle.zw_wasm.specs.declared.module.ValType.TheVariants.{I32, I64}

-- ---- operands and results

-- a value in 64 bits
abbrev pub widened : IntTy → List Instr
widened t = if fills_word t then Convert (extension t) ∷ [] else []

-- a number of 64 bits as a value of a type fills its own
abbrev pub settled : IntTy → List Instr
settled t = if fills_word t then Convert Wrap ∷ [] else []

-- the left operand in 64 bits below the right one, which is kept in a local meanwhile where that is needed
abbrev pub left_widened : IntTy → ℕ → List Instr
left_widened t scratch = if fills_word t then LocalSet (scratch + 4) ∷ Convert (extension t) ∷ LocalGet (scratch + 4) ∷ [] else []

-- both operands in 64 bits on the operands
abbrev pub both_widened : IntTy → IntTy → ℕ → List Instr
both_widened left right scratch = widened right ++ left_widened left scratch

-- both operands in 64 bits in the first two locals of that type, the right one in the first
abbrev pub spread : IntTy → IntTy → ℕ → List Instr
spread left right scratch = widened right ++ (LocalSet (scratch + 4) ∷ (widened left ++ (LocalSet (scratch + 5) ∷ [])))

-- ---- the result that wraps around

-- The value of a type of more than 32 bits with the lowest bits of a number. Of a signed type the least value is taken away
-- before and put back.
abbrev pub narrowed_long : IntTy → List Instr
narrowed_long (Sized true bits) =
    I64Const (pos (2 ^ bits / 2)) ∷ Binary I64 Add ∷ I64Const (pos (2 ^ bits - 1)) ∷ Binary I64 And ∷ I64Const (pos (2 ^ bits / 2)) ∷ Binary I64 Sub ∷ []
narrowed_long (Sized false bits) = I64Const (pos (2 ^ bits - 1)) ∷ Binary I64 And ∷ []
narrowed_long Comptime = []

-- a number of 32 or 64 bits is a value of each type of so many bits as it stands
abbrev pub wide_fitted : IntTy → List Instr
wide_fitted to =
    if fills_word to then Convert Wrap ∷ (if nat_lt (width to) 32 then narrowed to else [])
    else (if nat_lt (width to) 64 then narrowed_long to else [])

abbrev pub wide_wrapped_code : BinaryOperator → IntTy → IntTy → IntTy → ℕ → List Instr
wide_wrapped_code operator left right to scratch = both_widened left right scratch ++ (Binary I64 operator ∷ wide_fitted to)

-- ---- the result in two words

-- the high word of a number whose low word is in a local, as a value of a type: copies of the sign, or zeros
abbrev pub high_of : IntTy → ℕ → List Instr
high_of (Sized true bits) local = LocalGet local ∷ I64Const (pos 63) ∷ Binary I64 ShrS ∷ []
high_of (Sized false bits) local = I64Const (pos 0) ∷ []
high_of Comptime local = I64Const (pos 0) ∷ []

-- the high word of such a number added to a high word, or taken away
abbrev pub raised : BinaryOperator → IntTy → ℕ → List Instr
raised operator (Sized true bits) local = LocalGet local ∷ I64Const (pos 63) ∷ Binary I64 ShrS ∷ Binary I64 operator ∷ []
raised operator (Sized false bits) local = []
raised operator Comptime local = []

-- the low word of the result
abbrev pub low_word : BinaryOperator → ℕ → List Instr
low_word operator scratch = LocalGet (scratch + 5) ∷ LocalGet (scratch + 4) ∷ Binary I64 operator ∷ LocalSet (scratch + 6) ∷ []

-- 1 where a low word is less than another one, and else 0
abbrev pub carry : ℕ → ℕ → List Instr
carry local other = LocalGet local ∷ LocalGet other ∷ Compare I64 LtU ∷ Convert ExtendU ∷ []

-- a sum of low words is less than one of them exactly where it goes past 2^64
abbrev pub sum_words : IntTy → IntTy → ℕ → List Instr
sum_words left right scratch =
    low_word Add scratch ++ (carry (scratch + 6) (scratch + 4) ++ (raised Add left (scratch + 5) ++ raised Add right (scratch + 4)))

abbrev pub difference_words : IntTy → IntTy → ℕ → List Instr
difference_words left right scratch =
    low_word Sub scratch
    ++ (high_of left (scratch + 5) ++ (carry (scratch + 5) (scratch + 4) ++ (Binary I64 Sub ∷ raised Sub right (scratch + 4))))

-- the upper and the lower half of a local
abbrev pub upper : ℕ → List Instr
upper local = LocalGet local ∷ I64Const (pos 32) ∷ Binary I64 ShrU ∷ []

abbrev pub lower : ℕ → List Instr
lower local = LocalGet local ∷ I64Const (pos (2 ^ 32 - 1)) ∷ Binary I64 And ∷ []

-- The high word of the product of two low words, by four products of their halves, of which each is exact in 64 bits.
abbrev pub times : List Instr → List Instr → List Instr
times half other = half ++ (other ++ (Binary I64 Mul ∷ []))

-- What the right operand's lower half gives, without the lowest 32 bits, is kept in a local.
abbrev pub middle : ℕ → List Instr
middle scratch =
    times (upper (scratch + 5)) (lower (scratch + 4)) ++ (times (lower (scratch + 5)) (lower (scratch + 4)) ++ (
    I64Const (pos 32) ∷ Binary I64 ShrU ∷ Binary I64 Add ∷ LocalSet (scratch + 7) ∷ []))

-- what goes up from that local and a product on the operands
abbrev pub going_up : ℕ → List Instr
going_up scratch =
    lower (scratch + 7) ++ (Binary I64 Add ∷ I64Const (pos 32) ∷ Binary I64 ShrU ∷ (upper (scratch + 7) ++ (Binary I64 Add ∷ [])))

abbrev pub high_product : ℕ → List Instr
high_product scratch =
    times (lower (scratch + 5)) (upper (scratch + 4)) ++ (going_up scratch ++ (times (upper (scratch + 5)) (upper (scratch + 4)) ++ (
    Binary I64 Add ∷ [])))

-- a low word taken away where the number in another local is negative
abbrev pub corrected : IntTy → ℕ → ℕ → List Instr
corrected (Sized true bits) local other =
    LocalGet local ∷ I64Const (pos 63) ∷ Binary I64 ShrS ∷ LocalGet other ∷ Binary I64 And ∷ Binary I64 Sub ∷ []
corrected (Sized false bits) local other = []
corrected Comptime local other = []

abbrev pub product_words : IntTy → IntTy → ℕ → List Instr
product_words left right scratch =
    low_word Mul scratch
    ++ (middle scratch ++ (high_product scratch ++ (corrected left (scratch + 5) (scratch + 4) ++ corrected right (scratch + 4) (scratch + 5))))

-- ---- the test that a number in two words is a value of a type

-- besides, whether the low word lies too far above the least value of the type
abbrev pub beyond : IntTy → ℕ → List Instr
beyond to local =
    LocalGet local ∷ (above_least to ++ (I64Const (pos (2 ^ width to - 1)) ∷ Compare I64 GtU ∷ Binary I32 Or ∷ []))

-- The high word isn't what it is for a value of the type, or the low word lies too far above the least value.
abbrev pub outside : IntTy → ℕ → List Instr
outside to local = high_of to local ++ (Compare I64 Ne ∷ (if nat_lt (width to) 64 then beyond to local else []))

-- a panic where that is so, and else the low word as a value of the type
abbrev pub tested : IntTy → ℕ → List Instr
tested to scratch = if_panics integer_overflow ++ (LocalGet (scratch + 6) ∷ settled to)

-- ---- where one comparison is enough

abbrev pub is_signed : IntTy → Bool
is_signed (Sized signed bits) = signed
is_signed Comptime = false

-- operands and result are unsigned, and the result has 64 bits; the same with a sign
abbrev pub all_unsigned : IntTy → IntTy → IntTy → Bool
all_unsigned left right to = not (is_signed left) && (not (is_signed right) && (not (is_signed to) && nat_eq (width to) 64))

abbrev pub all_signed : IntTy → IntTy → IntTy → Bool
all_signed left right to = is_signed left && (is_signed right && (is_signed to && nat_eq (width to) 64))

-- whether a local is less than another one
abbrev pub long_less : ℕ → ℕ → List Instr
long_less local other = LocalGet local ∷ LocalGet other ∷ Compare I64 LtU ∷ []

-- Whether the low word is less than the left operand exactly where it shouldn't be, by how the right operand compares with 0.
abbrev pub crossed : Comparison → ℕ → List Instr
crossed comparison scratch =
    LocalGet (scratch + 4) ∷ I64Const (pos 0) ∷ Compare I64 comparison ∷ LocalGet (scratch + 6) ∷ LocalGet (scratch + 5) ∷ Compare I64 LtS ∷ Compare I32 Ne ∷ []

-- ---- whether the result isn't a value of the type, with its low word in a local

abbrev pub sum_test : IntTy → IntTy → IntTy → ℕ → List Instr
sum_test left right to scratch =
    if all_unsigned left right to then low_word Add scratch ++ long_less (scratch + 6) (scratch + 4)
    else (if all_signed left right to then low_word Add scratch ++ crossed LtS scratch else sum_words left right scratch ++ outside to (scratch + 6))

abbrev pub difference_test : IntTy → IntTy → IntTy → ℕ → List Instr
difference_test left right to scratch =
    if all_unsigned left right to then low_word Sub scratch ++ long_less (scratch + 5) (scratch + 4)
    else (if all_signed left right to then low_word Sub scratch ++ crossed GtS scratch else difference_words left right scratch ++ outside to (scratch + 6))

abbrev pub product_test : IntTy → IntTy → IntTy → ℕ → List Instr
product_test left right to scratch = product_words left right scratch ++ outside to (scratch + 6)

abbrev pub wide_sum_code : IntTy → IntTy → IntTy → ℕ → List Instr
wide_sum_code left right to scratch = spread left right scratch ++ (sum_test left right to scratch ++ tested to scratch)

abbrev pub wide_difference_code : IntTy → IntTy → IntTy → ℕ → List Instr
wide_difference_code left right to scratch = spread left right scratch ++ (difference_test left right to scratch ++ tested to scratch)

abbrev pub wide_product_code : IntTy → IntTy → IntTy → ℕ → List Instr
wide_product_code left right to scratch = spread left right scratch ++ (product_test left right to scratch ++ tested to scratch)
