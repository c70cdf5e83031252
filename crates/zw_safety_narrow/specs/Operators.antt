-- Operators: what the code of an operator owes on any of the types that are served (Zig Language Reference 0.13.0, Operators and
-- Builtin Functions): on values of its operands' types it leaves the value that the exact numbers give, or tells the cause and
-- traps. A `bool` is a `u1`: 1 where it is true.
use Rattle.std.specs.Prelude.{◌≡◌, ◌&&◌, ℕ, ◌%◌, ◌≤◌, ℤ, pos, Bool, true, false, not, ◌||◌, nat_le, unsigned_abs, List, ◌∷◌, ◌++◌, Result, Ok, Err, if◌then◌else◌}
use Rattle.std.specs.Ordering.{int_eq}
use Rattle.zw_num.specs.Arithmetic.{IsIn, width, pattern}
use Rattle.zw_num.specs.Meanings.{arithmetic, division, bitwise, shift, compared, extreme, unary, counted, converted, number_of_truth}
use Rattle.zw_num.specs.declared.int_ty.IntTy.{IntTy}
use Rattle.zw_num.specs.declared.int_ty.IntTy.TheVariants.{Sized, Comptime}
use Rattle.zw_num.specs.declared.num_fault.NumFault.{NumFault}
use Rattle.zw_num.specs.declared.num_fault.NumFault.TheVariants.{Overflow, DivZero, Remainder, ShiftAmount, ShiftBits, Truncated, Negative}
use Rattle.zw_num.specs.declared.operator.Arithmetic.TheVariants as arithmetic_op
use Rattle.zw_num.specs.declared.operator.Logic.{Logic}
use Rattle.zw_num.specs.declared.operator.Logic.TheVariants as logic_op
use Rattle.zw_num.specs.declared.operator.Operator.{Operator}
use Rattle.zw_num.specs.declared.operator.Operator.TheVariants as family
use Rattle.zw_num.specs.declared.operator.Shift.TheVariants as shift_op
use Rattle.zw_num.specs.declared.operator.Unary.{Unary}
use Rattle.zw_num.specs.declared.operator.Unary.TheVariants as unary_op
use Rattle.zw_safety_narrow.specs.Checked.{HasPanicState, HasScratch, KeepsOthers, PanicStateIsTyped, ScratchIsTyped, most_instructions, panicked}
use Rattle.zw_safety_narrow.specs.CompareCode.{is_unsigned}
use Rattle.zw_safety_narrow.specs.declared.setting.Setting.{Setting}
use Rattle.zw_session.specs.Causes.{integer_overflow}
use Rattle.zw_wasm.specs.declared.module.Instr.{Instr}
use Rattle.zw_wasm.specs.declared.module.Module.{Module}
use Rattle.zw_wasm.specs.declared.module.ValType.{ValType}
use Rattle.zw_wasm.specs.declared.module.ValType.TheVariants as ty
use Rattle.zw_wasm.specs.declared.num.Num.{Num}
use Rattle.zw_wasm.specs.declared.num.Num.TheVariants.{I32, I64}
use Rattle.zw_wasm.specs.Reduction.{Config, Trap, unreachable_trap}
use Rattle.zw_wasm.specs.Sequences.{placed, with_locals, Runs, Halts, Takes}
use Rattle.zw_wasm.specs.Signature.{View}
use Rattle.zw_wasm.specs.Structure.{Code, code_of}
use Rattle.zw_wasm.specs.Typing.{Context}
use Rattle.zw_wasm.specs.WellFormed.{IsClosed}

-- a sized type whose values fill an i32
abbrev pub IsNarrow : IntTy → Type 0
IsNarrow (Sized signed bits) = bits ≤ 32
IsNarrow Comptime = ⊥

-- a sized type, whose values fill an i32 or an i64
abbrev pub IsStored : IntTy → Type 0
IsStored (Sized signed bits) = bits ≤ 64
IsStored Comptime = ⊥

-- whether the values of a type, and of three types, fill an i32
abbrev pub fills_word : IntTy → Bool
fills_word t = nat_le (width t) 32

abbrev pub fill_words : IntTy → IntTy → IntTy → Bool
fill_words left right to = fills_word left && (fills_word right && fills_word to)

-- the type of the number that holds a value
abbrev pub type_of : IntTy → ValType
type_of t = if nat_le (width t) 32 then ty.I32 else ty.I64

-- the number that a value fills, by its bits in two's complement: above those of its type stand copies of the sign where
-- it is negative, and zeros where it isn't
abbrev pub filled : IntTy → ℤ → Num
filled t z = if nat_le (width t) 32 then I32 (pattern 32 z) else I64 (pattern 64 z)

-- ---- the operators that have code: `and` and `or` have none, since they choose what is computed, and the measures of a type are known
-- before there is code

abbrev pub is_not : Logic → Bool
is_not logic_op.And = false
is_not logic_op.Or = false
is_not logic_op.Not = true

abbrev pub has_two : Operator → Bool
has_two (family.Arithmetic x) = true
has_two (family.Division x) = true
has_two (family.Bitwise x) = true
has_two (family.Shift x) = true
has_two (family.Comparison x) = true
has_two (family.Extreme x) = true
has_two (family.Unary x) = false
has_two (family.Count x) = false
has_two (family.Cast x) = false
has_two (family.Logic x) = false
has_two (family.Measure x) = false

abbrev pub has_one : Operator → Bool
has_one (family.Arithmetic x) = false
has_one (family.Division x) = false
has_one (family.Bitwise x) = false
has_one (family.Shift x) = false
has_one (family.Comparison x) = false
has_one (family.Extreme x) = false
has_one (family.Unary x) = true
has_one (family.Count x) = true
has_one (family.Cast x) = true
has_one (family.Logic x) = is_not x
has_one (family.Measure x) = false

abbrev pub has_code : Operator → Bool
has_code operator = has_two operator || has_one operator

-- ---- what operators give on exact numbers

-- what an operator gives on two numbers, in the type of its result; a truth value is 1 or 0
abbrev pub OfTwo : Type 0
OfTwo = IntTy → ℤ → ℤ → Result ℤ NumFault

abbrev pub gives_of_two : Operator → OfTwo
gives_of_two (family.Arithmetic x) to a b = arithmetic x to a b
gives_of_two (family.Division x) to a b = division x to a b
gives_of_two (family.Bitwise x) to a b = Ok (bitwise x a b)
gives_of_two (family.Shift x) to a b = shift x to a b
gives_of_two (family.Comparison x) to a b = Ok (number_of_truth (compared x a b))
gives_of_two (family.Extreme x) to a b = Ok (extreme x a b)
gives_of_two operator to a b = Ok a

-- what an operator gives on one number, from its type to that of the result
abbrev pub OfOne : Type 0
OfOne = IntTy → IntTy → ℤ → Result ℤ NumFault

-- the distance from 0 has a type of its own, which has each
abbrev pub gives_of_unary : Unary → OfOne
gives_of_unary unary_op.Abs from to a = Ok (pos (unsigned_abs a))
gives_of_unary x from to a = unary x from to a

abbrev pub gives_of_one : Operator → OfOne
gives_of_one (family.Unary x) from to a = gives_of_unary x from to a
gives_of_one (family.Count x) from to a = Ok (pos (counted x (width from) (pattern (width from) a)))
gives_of_one (family.Cast x) from to a = converted x to a
gives_of_one (family.Logic x) from to a = Ok (number_of_truth (int_eq a (pos 0)))
gives_of_one operator from to a = Ok a

-- ---- which operators are served on types of at most 32 bits

-- `<<|`, whose amount is unsigned
abbrev pub is_saturated_shift : Operator → Bool
is_saturated_shift (family.Shift shift_op.ShlSat) = true
is_saturated_shift operator = false

-- `@byteSwap`, which is for whole bytes
abbrev pub is_byte_swap : Operator → Bool
is_byte_swap (family.Unary unary_op.ByteSwap) = true
is_byte_swap operator = false

-- The types of the operands and of the result may differ; of an operator of one operand, which is the left one, the right one's may
-- be any.
pub record IsServedIn32 (operator : Operator) (t : Setting) : Type 0 where
  pub coded : has_code operator ≡ true
  pub left_narrow : IsNarrow t.left
  pub right_narrow : has_two operator ≡ true → IsNarrow t.right
  pub to_narrow : IsNarrow t.to
  pub right_unsigned : is_saturated_shift operator ≡ true → is_unsigned t.right ≡ true
  pub whole_bytes : is_byte_swap operator ≡ true → width t.left % 8 ≡ 0

-- ---- what the code owes

-- `+%`, whose code writes no locals on types of at most 32 bits
abbrev pub is_wrapping_sum : Operator → Bool
is_wrapping_sum (family.Arithmetic arithmetic_op.AddWrap) = true
is_wrapping_sum operator = false

abbrev pub writes_locals : Operator → Setting → Bool
writes_locals operator t = not (is_wrapping_sum operator) || not (fill_words t.left t.right t.to)

-- the cause of a panic, by why an operator gives no number
abbrev pub cause_of : NumFault → ℕ
cause_of Overflow = integer_overflow
cause_of DivZero = 7
cause_of Remainder = 8
cause_of ShiftAmount = 9
cause_of ShiftBits = 10
cause_of Truncated = 11
cause_of Negative = 12

-- from a configuration the code leaves this number on the operands, and goes on
pub record LeavesNumber (m : Module) (v : View) (scratch : ℕ) (x : Num) (start : Config) (rest : Code) (os : List Num) : Type 0 where
  pub locals : List Num
  pub kept : KeepsOthers scratch start.frame.locals locals
  pub taken : ℕ
  pub few : taken ≤ most_instructions
  pub runs : Runs m v start (placed rest (x ∷ os) (with_locals locals start)) taken

-- from a configuration the code tells this cause and traps
pub record Panics (m : Module) (v : View) (cause : ℕ) (start : Config) : Type 0 where
  pub taken : ℕ
  pub few : taken ≤ most_instructions
  pub halts : Halts m v start (Trap unreachable_trap) (panicked cause start.world) taken

-- the one where there is a value, and else the other
abbrev pub EndsWith : Module → View → ℕ → IntTy → Result ℤ NumFault → Config → Code → List Num → Type 0
EndsWith m v scratch to (Ok z) start rest os = LeavesNumber m v scratch (filled to z) start rest os
EndsWith m v scratch to (Err fault) start rest os = Panics m v (cause_of fault) start

-- The code of an operator of two operands, wherever it stands: what it does on all values of their types, how it is typed, and that it
-- ends all that it begins.
pub record IsRightOfTwo (operator : Operator) (t : Setting) (is : List Instr) : Type 0 where
  pub ends : (m : Module) (v : View) (c : Config) (a b : ℤ) (os : List Num) (rest : List Instr) → IsIn t.left a → IsIn t.right b → (writes_locals operator t ≡ true → HasScratch t.scratch c.frame.locals) → HasPanicState c.world.store →
      EndsWith m v t.scratch t.to (gives_of_two operator t.to a b) (placed (code_of (is ++ rest)) (filled t.right b ∷ filled t.left a ∷ os) c) (code_of rest) os
  pub typed : (x : Context) (ts : List ValType) → (writes_locals operator t ≡ true → ScratchIsTyped t.scratch x.locals) → PanicStateIsTyped x.module_ → Takes x is (type_of t.right ∷ type_of t.left ∷ ts) (type_of t.to ∷ ts)
  pub closed : IsClosed is

-- The same of an operator with one operand.
pub record IsRightOfOne (operator : Operator) (t : Setting) (is : List Instr) : Type 0 where
  pub ends : (m : Module) (v : View) (c : Config) (a : ℤ) (os : List Num) (rest : List Instr) → IsIn t.left a → HasScratch t.scratch c.frame.locals → HasPanicState c.world.store →
      EndsWith m v t.scratch t.to (gives_of_one operator t.left t.to a) (placed (code_of (is ++ rest)) (filled t.left a ∷ os) c) (code_of rest) os
  pub typed : (x : Context) (ts : List ValType) → ScratchIsTyped t.scratch x.locals → PanicStateIsTyped x.module_ → Takes x is (type_of t.left ∷ ts) (type_of t.to ∷ ts)
  pub closed : IsClosed is

-- The code of an operator of two operands or of one.
pub record IsRight (operator : Operator) (t : Setting) (is : List Instr) : Type 0 where
  pub of_two : has_two operator ≡ true → IsRightOfTwo operator t is
  pub of_one : has_one operator ≡ true → IsRightOfOne operator t is
