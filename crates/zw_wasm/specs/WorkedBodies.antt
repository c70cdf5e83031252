-- WorkedBodies: which instruction of a body is refused first, and why, worked out from the rules by hand (WebAssembly Core
-- Specification 1.0, 3.3).
use Rattle.std.specs.Prelude.{◌≡◌, ℕ, pos, true, false, List, [], ◌∷◌, Option, Some, None}
use Rattle.zw_wasm.specs.declared.module.BinaryOperator.TheVariants.{Add}
use Rattle.zw_wasm.specs.declared.module.Comparison.TheVariants.{LtU}
use Rattle.zw_wasm.specs.declared.module.Conversion.TheVariants as conversion
use Rattle.zw_wasm.specs.declared.module.FuncImport.{FuncImport}
use Rattle.zw_wasm.specs.declared.module.Instr.{Instr}
use Rattle.zw_wasm.specs.declared.module.Instr.TheVariants.{Unreachable, Block, Loop, If, Else, End, Br, BrIf, BrTable, Return, CallIndirect, Drop, Select, LocalGet, LocalSet, LocalTee, GlobalGet, GlobalSet, Load, Store, MemorySize, MemoryGrow, I32Const, I64Const, IsZero, Compare, Unary, Binary, Convert}
use Rattle.zw_wasm.specs.declared.module.Instr.TheVariants as instr
use Rattle.zw_wasm.specs.declared.module.LoadKind.TheVariants as load
use Rattle.zw_wasm.specs.declared.module.Module.{Module}
use Rattle.zw_wasm.specs.declared.module.StoreKind.TheVariants as store
use Rattle.zw_wasm.specs.declared.module.UnaryOperator.TheVariants.{Clz}
use Rattle.zw_wasm.specs.declared.module.ValType.{ValType}
use Rattle.zw_wasm.specs.declared.module.ValType.TheVariants.{I32, I64}
use Rattle.zw_wasm.specs.Structure.{i32_add, i32_lt_u, i32_sub}
use Rattle.zw_wasm.specs.Typing.{Place, body_control, check_code, no_index, wrong_alignment, wrong_type}

-- a place, for short
abbrev pub refused_at : ℕ → ℕ → Option Place
refused_at at code = Some (record { at = at; code = code })

-- what a body comes to that gives an i32 and has these parameters and locals
abbrev pub checked_in : Module → List ValType → List Instr → Option Place
checked_in m locals is = check_code (record { module_ = m; locals = locals; returns = I32 ∷ [] }) 0 is [] (body_control (I32 ∷ [])) []

-- and with one i32 local
abbrev pub checked_body : Module → List Instr → Option Place
checked_body m is = checked_in m (I32 ∷ []) is

-- Which instruction of a body is refused first, and why.
pub record RefusesFirst (m : Module) : Type 0 where
  pub right : checked_body m (LocalGet 0 ∷ End ∷ []) ≡ None
  -- there is no such local; the operand of an addition is missing; a result is missing; an operand is left over
  pub index : checked_body m (LocalGet 0 ∷ LocalGet 1 ∷ i32_add ∷ End ∷ []) ≡ refused_at 1 no_index
  pub operand : checked_body m (LocalGet 0 ∷ i32_add ∷ End ∷ []) ≡ refused_at 1 wrong_type
  pub result : checked_body m (End ∷ []) ≡ refused_at 0 wrong_type
  pub left_over : checked_body m (LocalGet 0 ∷ LocalGet 0 ∷ End ∷ []) ≡ refused_at 2 wrong_type
  -- behind an unconditional branch operands are there as they are wanted, but not more
  pub unreachable : checked_body m (Unreachable ∷ i32_add ∷ End ∷ []) ≡ None
  pub unreachable_left_over : checked_body m (Unreachable ∷ i32_add ∷ LocalGet 0 ∷ End ∷ []) ≡ refused_at 3 wrong_type
  -- a body stops at its end, and not before or behind it
  pub no_end : checked_body m (LocalGet 0 ∷ []) ≡ refused_at 1 wrong_type
  pub behind_end : checked_body m (LocalGet 0 ∷ End ∷ End ∷ []) ≡ refused_at 2 wrong_type
  -- a comparison and a difference take two i32 and give one
  pub less : checked_body m (LocalGet 0 ∷ I32Const (pos 7) ∷ i32_lt_u ∷ End ∷ []) ≡ None
  pub less_operand : checked_body m (LocalGet 0 ∷ i32_lt_u ∷ End ∷ []) ≡ refused_at 1 wrong_type
  pub difference : checked_body m (LocalGet 0 ∷ I32Const (pos 7) ∷ i32_sub ∷ End ∷ []) ≡ None
  pub difference_type : checked_in m (I32 ∷ I64 ∷ []) (LocalGet 0 ∷ LocalGet 1 ∷ i32_sub ∷ End ∷ []) ≡ refused_at 2 wrong_type
  -- a local that is set takes an operand of its type, and leaves none
  pub set : checked_body m (I32Const (pos 7) ∷ LocalSet 0 ∷ LocalGet 0 ∷ End ∷ []) ≡ None
  pub set_index : checked_body m (I32Const (pos 7) ∷ LocalSet 1 ∷ LocalGet 0 ∷ End ∷ []) ≡ refused_at 1 no_index
  pub set_operand : checked_body m (LocalSet 0 ∷ LocalGet 0 ∷ End ∷ []) ≡ refused_at 0 wrong_type
  pub set_type : checked_in m (I32 ∷ I64 ∷ []) (LocalGet 0 ∷ LocalSet 1 ∷ LocalGet 0 ∷ End ∷ []) ≡ refused_at 1 wrong_type
  pub set_result : checked_body m (LocalGet 0 ∷ LocalSet 0 ∷ End ∷ []) ≡ refused_at 2 wrong_type

-- The same of choices.
pub record RefusesInChoices (m : Module) : Type 0 where
  -- with a result, by either code; without one, and with no second code
  pub both : checked_body m (LocalGet 0 ∷ If (Some I32) ∷ I32Const (pos 7) ∷ Else ∷ LocalGet 0 ∷ End ∷ End ∷ []) ≡ None
  pub one : checked_body m (LocalGet 0 ∷ If None ∷ I32Const (pos 7) ∷ LocalSet 0 ∷ End ∷ LocalGet 0 ∷ End ∷ []) ≡ None
  pub empty_else : checked_body m (LocalGet 0 ∷ If None ∷ Else ∷ End ∷ LocalGet 0 ∷ End ∷ []) ≡ None
  -- where there is no second code, there is no result
  pub no_else : checked_body m (LocalGet 0 ∷ If (Some I32) ∷ LocalGet 0 ∷ End ∷ End ∷ []) ≡ refused_at 3 wrong_type
  pub unreachable_no_else : checked_body m (LocalGet 0 ∷ If (Some I32) ∷ Unreachable ∷ End ∷ End ∷ []) ≡ refused_at 3 wrong_type
  -- the operand is missing, or has another type
  pub operand : checked_body m (If None ∷ End ∷ LocalGet 0 ∷ End ∷ []) ≡ refused_at 0 wrong_type
  pub operand_type : checked_in m (I32 ∷ I64 ∷ []) (LocalGet 1 ∷ If None ∷ End ∷ LocalGet 0 ∷ End ∷ []) ≡ refused_at 1 wrong_type
  -- the result of the first code or of the second is missing, or has another type
  pub first_result : checked_body m (LocalGet 0 ∷ If (Some I32) ∷ Else ∷ LocalGet 0 ∷ End ∷ End ∷ []) ≡ refused_at 2 wrong_type
  pub second_result : checked_body m (LocalGet 0 ∷ If (Some I32) ∷ LocalGet 0 ∷ Else ∷ End ∷ End ∷ []) ≡ refused_at 4 wrong_type
  pub result_type : checked_in m (I32 ∷ I64 ∷ []) (LocalGet 0 ∷ If (Some I32) ∷ LocalGet 1 ∷ Else ∷ LocalGet 0 ∷ End ∷ End ∷ []) ≡ refused_at 3 wrong_type
  -- an operand is left over in the first code or in the second
  pub first_left_over : checked_body m (LocalGet 0 ∷ If None ∷ LocalGet 0 ∷ End ∷ LocalGet 0 ∷ End ∷ []) ≡ refused_at 3 wrong_type
  pub second_left_over : checked_body m (LocalGet 0 ∷ If None ∷ Else ∷ LocalGet 0 ∷ End ∷ LocalGet 0 ∷ End ∷ []) ≡ refused_at 4 wrong_type
  -- the operands below are out of reach inside, and there again behind the end
  pub below : checked_body m (LocalGet 0 ∷ LocalGet 0 ∷ If (Some I32) ∷ LocalGet 0 ∷ i32_add ∷ Else ∷ LocalGet 0 ∷ End ∷ i32_add ∷ End ∷ []) ≡ refused_at 4 wrong_type
  pub behind : checked_body m (LocalGet 0 ∷ LocalGet 0 ∷ If (Some I32) ∷ LocalGet 0 ∷ Else ∷ LocalGet 0 ∷ End ∷ i32_add ∷ End ∷ []) ≡ None
  -- code out of reach ends with the code that it is in
  pub unreachable : checked_body m (LocalGet 0 ∷ If None ∷ Unreachable ∷ End ∷ End ∷ []) ≡ refused_at 4 wrong_type
  pub unreachable_first : checked_body m (LocalGet 0 ∷ If (Some I32) ∷ Unreachable ∷ Else ∷ End ∷ End ∷ []) ≡ refused_at 4 wrong_type
  pub unreachable_outside : checked_body m (Unreachable ∷ If None ∷ End ∷ End ∷ []) ≡ None
  -- an `else` stands in an `if`, and once
  pub else_alone : checked_body m (LocalGet 0 ∷ Else ∷ LocalGet 0 ∷ End ∷ []) ≡ refused_at 1 wrong_type
  pub else_again : checked_body m (LocalGet 0 ∷ If None ∷ Else ∷ Else ∷ End ∷ LocalGet 0 ∷ End ∷ []) ≡ refused_at 3 wrong_type
  -- the `if` has its own end
  pub no_end : checked_body m (LocalGet 0 ∷ If None ∷ LocalGet 0 ∷ End ∷ []) ≡ refused_at 3 wrong_type

-- The module with other functions and globals: function 0 is imported, takes an i32 and gives nothing; function 1 takes an
-- i32 and an i64, and gives an i32. Global 0 is an i32 that isn't mutable, and global 1 one that is.
abbrev pub with_functions : Module → FuncImport → Module
with_functions m i = record m {
  types = record { params = I32 ∷ I64 ∷ []; result = Some I32 } ∷ record { params = I32 ∷ []; result = None } ∷ [];
  imports = record i { ty = 1 } ∷ [];
  funcs = 0 ∷ [];
  globals = record { ty = I32; mutable = false; init = I32Const (pos 7) ∷ End ∷ [] } ∷ record { ty = I32; mutable = true; init = I32Const (pos 0) ∷ End ∷ [] } ∷ [];
}

-- what a body of this module comes to that has an i32 and an i64 local
abbrev pub checked_with : Module → FuncImport → List Instr → Option Place
checked_with m i is = checked_in (with_functions m i) (I32 ∷ I64 ∷ []) is

-- The same of calls and globals.
pub record RefusesCalls (m : Module) (i : FuncImport) : Type 0 where
  -- the arguments stand in the order of the parameters, under the function's result
  pub call : checked_with m i (LocalGet 0 ∷ LocalGet 1 ∷ instr.Call 1 ∷ End ∷ []) ≡ None
  pub imported : checked_with m i (LocalGet 0 ∷ instr.Call 0 ∷ LocalGet 0 ∷ End ∷ []) ≡ None
  pub order : checked_with m i (LocalGet 1 ∷ LocalGet 0 ∷ instr.Call 1 ∷ End ∷ []) ≡ refused_at 2 wrong_type
  -- one argument is missing; one is left over; there is no result, or one too many
  pub argument : checked_with m i (LocalGet 1 ∷ instr.Call 1 ∷ End ∷ []) ≡ refused_at 1 wrong_type
  pub left_over : checked_with m i (LocalGet 0 ∷ LocalGet 0 ∷ LocalGet 1 ∷ instr.Call 1 ∷ End ∷ []) ≡ refused_at 4 wrong_type
  pub result : checked_with m i (LocalGet 0 ∷ instr.Call 0 ∷ End ∷ []) ≡ refused_at 2 wrong_type
  pub result_too : checked_with m i (LocalGet 0 ∷ LocalGet 0 ∷ LocalGet 1 ∷ instr.Call 1 ∷ i32_add ∷ End ∷ []) ≡ None
  -- there is no such function
  pub func_index : checked_with m i (LocalGet 0 ∷ instr.Call 2 ∷ End ∷ []) ≡ refused_at 1 no_index
  -- any global is read, and one that is mutable is written
  pub read : checked_with m i (GlobalGet 0 ∷ GlobalGet 1 ∷ i32_add ∷ End ∷ []) ≡ None
  pub written : checked_with m i (LocalGet 0 ∷ GlobalSet 1 ∷ GlobalGet 1 ∷ End ∷ []) ≡ None
  pub immutable : checked_with m i (LocalGet 0 ∷ GlobalSet 0 ∷ GlobalGet 0 ∷ End ∷ []) ≡ refused_at 1 wrong_type
  -- the value is missing, or has another type; there is no such global
  pub value : checked_with m i (GlobalSet 1 ∷ GlobalGet 1 ∷ End ∷ []) ≡ refused_at 0 wrong_type
  pub value_type : checked_with m i (LocalGet 1 ∷ GlobalSet 1 ∷ GlobalGet 1 ∷ End ∷ []) ≡ refused_at 1 wrong_type
  pub global_index : checked_with m i (LocalGet 0 ∷ GlobalSet 2 ∷ LocalGet 0 ∷ End ∷ []) ≡ refused_at 1 no_index
  pub read_index : checked_with m i (GlobalGet 2 ∷ End ∷ []) ≡ refused_at 0 no_index

-- The same of blocks, loops and branches.
pub record RefusesBranches (m : Module) : Type 0 where
  -- a block and a loop give their result to what stands round them, and what lies below is out of reach inside
  pub block : checked_body m (Block (Some I32) ∷ LocalGet 0 ∷ End ∷ End ∷ []) ≡ None
  pub loop : checked_body m (Loop (Some I32) ∷ LocalGet 0 ∷ End ∷ End ∷ []) ≡ None
  pub below : checked_body m (LocalGet 0 ∷ Block (Some I32) ∷ End ∷ End ∷ []) ≡ refused_at 2 wrong_type
  pub no_else : checked_body m (Block None ∷ Else ∷ End ∷ LocalGet 0 ∷ End ∷ []) ≡ refused_at 1 wrong_type
  -- a branch to a block takes its result, and one to a loop nothing
  pub to_block : checked_body m (Block (Some I32) ∷ LocalGet 0 ∷ Br 0 ∷ End ∷ End ∷ []) ≡ None
  pub to_block_operand : checked_body m (Block (Some I32) ∷ Br 0 ∷ End ∷ End ∷ []) ≡ refused_at 1 wrong_type
  pub to_loop : checked_body m (Loop (Some I32) ∷ Br 0 ∷ End ∷ End ∷ []) ≡ None
  pub to_loop_if : checked_body m (Loop (Some I32) ∷ LocalGet 0 ∷ BrIf 0 ∷ LocalGet 0 ∷ End ∷ End ∷ []) ≡ None
  pub to_block_if : checked_body m (Block (Some I32) ∷ LocalGet 0 ∷ BrIf 0 ∷ LocalGet 0 ∷ End ∷ End ∷ []) ≡ refused_at 2 wrong_type
  pub to_block_if_stays : checked_body m (Block (Some I32) ∷ LocalGet 0 ∷ LocalGet 0 ∷ BrIf 0 ∷ End ∷ End ∷ []) ≡ None
  -- the outermost label is the body's
  pub to_body : checked_body m (LocalGet 0 ∷ Br 0 ∷ End ∷ []) ≡ None
  pub to_body_operand : checked_body m (Block None ∷ Br 1 ∷ End ∷ LocalGet 0 ∷ End ∷ []) ≡ refused_at 1 wrong_type
  pub no_label : checked_body m (LocalGet 0 ∷ Br 1 ∷ End ∷ []) ≡ refused_at 1 no_index
  pub no_label_if : checked_body m (LocalGet 0 ∷ BrIf 1 ∷ LocalGet 0 ∷ End ∷ []) ≡ refused_at 1 no_index
  -- behind a branch any operands are found, and more may not be left
  pub behind : checked_body m (Block None ∷ Br 0 ∷ i32_add ∷ Drop ∷ End ∷ LocalGet 0 ∷ End ∷ []) ≡ None
  pub not_behind : checked_body m (Block None ∷ i32_add ∷ Drop ∷ End ∷ LocalGet 0 ∷ End ∷ []) ≡ refused_at 1 wrong_type
  pub behind_type : checked_in m (I32 ∷ I64 ∷ []) (LocalGet 0 ∷ Br 0 ∷ LocalGet 1 ∷ i32_add ∷ End ∷ []) ≡ refused_at 3 wrong_type
  pub behind_left_over : checked_body m (Block None ∷ Br 0 ∷ i32_add ∷ End ∷ LocalGet 0 ∷ End ∷ []) ≡ refused_at 3 wrong_type
  pub behind_if : checked_body m (Block None ∷ LocalGet 0 ∷ BrIf 0 ∷ i32_add ∷ Drop ∷ End ∷ LocalGet 0 ∷ End ∷ []) ≡ refused_at 3 wrong_type
  -- by a table: each label is there, and takes what the default takes
  pub table : checked_body m (Block (Some I32) ∷ LocalGet 0 ∷ LocalGet 0 ∷ BrTable 0 (0 ∷ 1 ∷ []) ∷ End ∷ End ∷ []) ≡ None
  pub table_label : checked_body m (Block (Some I32) ∷ LocalGet 0 ∷ LocalGet 0 ∷ BrTable 0 (0 ∷ 2 ∷ []) ∷ End ∷ End ∷ []) ≡ refused_at 3 no_index
  pub table_default : checked_body m (Block (Some I32) ∷ LocalGet 0 ∷ LocalGet 0 ∷ BrTable 2 (0 ∷ 1 ∷ []) ∷ End ∷ End ∷ []) ≡ refused_at 3 no_index
  pub table_arity : checked_body m (Block None ∷ LocalGet 0 ∷ LocalGet 0 ∷ BrTable 1 (0 ∷ []) ∷ End ∷ LocalGet 0 ∷ End ∷ []) ≡ refused_at 3 wrong_type
  pub table_operand : checked_body m (Block None ∷ BrTable 0 [] ∷ End ∷ LocalGet 0 ∷ End ∷ []) ≡ refused_at 1 wrong_type
  -- a return takes the function's result, wherever it stands
  pub returns : checked_body m (Block None ∷ Loop None ∷ LocalGet 0 ∷ Return ∷ i32_add ∷ Drop ∷ End ∷ End ∷ LocalGet 0 ∷ End ∷ []) ≡ None
  pub returns_nothing : checked_body m (Return ∷ End ∷ []) ≡ refused_at 0 wrong_type

-- The same of single operands and of operators.
pub record RefusesOperands (m : Module) : Type 0 where
  pub nop : checked_body m (LocalGet 0 ∷ instr.Nop ∷ End ∷ []) ≡ None
  pub drop : checked_in m (I32 ∷ I64 ∷ []) (LocalGet 0 ∷ LocalGet 1 ∷ Drop ∷ End ∷ []) ≡ None
  pub drop_none : checked_body m (Drop ∷ LocalGet 0 ∷ End ∷ []) ≡ refused_at 0 wrong_type
  pub drop_unreachable : checked_body m (Unreachable ∷ Drop ∷ End ∷ []) ≡ None
  -- two operands of one type, and an i32
  pub select : checked_body m (LocalGet 0 ∷ LocalGet 0 ∷ LocalGet 0 ∷ Select ∷ End ∷ []) ≡ None
  pub select_types : checked_in m (I32 ∷ I64 ∷ []) (LocalGet 0 ∷ LocalGet 1 ∷ LocalGet 0 ∷ Select ∷ End ∷ []) ≡ refused_at 3 wrong_type
  pub select_by : checked_in m (I32 ∷ I64 ∷ []) (LocalGet 0 ∷ LocalGet 0 ∷ LocalGet 1 ∷ Select ∷ End ∷ []) ≡ refused_at 3 wrong_type
  pub select_one : checked_body m (LocalGet 0 ∷ LocalGet 0 ∷ Select ∷ End ∷ []) ≡ refused_at 2 wrong_type
  pub select_unreachable : checked_body m (Unreachable ∷ Select ∷ End ∷ []) ≡ None
  pub select_unreachable_type : checked_in m (I32 ∷ I64 ∷ []) (Unreachable ∷ LocalGet 1 ∷ LocalGet 0 ∷ Select ∷ End ∷ []) ≡ refused_at 4 wrong_type
  -- a local that is set by a tee leaves its operand
  pub tee : checked_body m (LocalGet 0 ∷ LocalTee 0 ∷ End ∷ []) ≡ None
  pub tee_none : checked_body m (LocalTee 0 ∷ End ∷ []) ≡ refused_at 0 wrong_type
  pub tee_index : checked_body m (LocalGet 0 ∷ LocalTee 1 ∷ End ∷ []) ≡ refused_at 1 no_index
  -- operators of 64 bits, of which a test and a comparison give 32
  pub long : checked_body m (I64Const (pos 1) ∷ End ∷ []) ≡ refused_at 1 wrong_type
  pub zero : checked_body m (I64Const (pos 1) ∷ IsZero I64 ∷ End ∷ []) ≡ None
  pub zero_type : checked_body m (LocalGet 0 ∷ IsZero I64 ∷ End ∷ []) ≡ refused_at 1 wrong_type
  pub less : checked_body m (I64Const (pos 1) ∷ I64Const (pos 2) ∷ Compare I64 LtU ∷ End ∷ []) ≡ None
  pub less_type : checked_body m (I64Const (pos 1) ∷ LocalGet 0 ∷ Compare I64 LtU ∷ End ∷ []) ≡ refused_at 2 wrong_type
  pub zeros : checked_body m (I64Const (pos 1) ∷ Unary I64 Clz ∷ Convert conversion.Wrap ∷ End ∷ []) ≡ None
  pub zeros_type : checked_body m (LocalGet 0 ∷ Unary I64 Clz ∷ Drop ∷ LocalGet 0 ∷ End ∷ []) ≡ refused_at 1 wrong_type
  pub sum : checked_body m (I64Const (pos 1) ∷ LocalGet 0 ∷ Convert conversion.ExtendU ∷ Binary I64 Add ∷ Convert conversion.Wrap ∷ End ∷ []) ≡ None
  pub wrap_type : checked_body m (LocalGet 0 ∷ Convert conversion.Wrap ∷ End ∷ []) ≡ refused_at 1 wrong_type
  pub extend_type : checked_body m (I64Const (pos 1) ∷ Convert conversion.ExtendS ∷ Drop ∷ LocalGet 0 ∷ End ∷ []) ≡ refused_at 1 wrong_type

-- The module with a memory and a table, or without them, and with a type of functions that take an i64.
abbrev pub with_memory : Module → Module
with_memory m = record m {
  memories = record { least = 1; greatest = None } ∷ [];
  tables = record { least = 1; greatest = None } ∷ [];
  types = record { params = I64 ∷ []; result = Some I32 } ∷ [];
}

abbrev pub without_memory : Module → Module
without_memory m = record m { memories = []; tables = [] }

-- The same of the memory and the table.
pub record RefusesMemory (m : Module) : Type 0 where
  pub loads : checked_body (with_memory m) (LocalGet 0 ∷ Load load.I32 (record { align = 2; offset = 4 }) ∷ End ∷ []) ≡ None
  pub loads_long : checked_body (with_memory m) (LocalGet 0 ∷ Load load.I64U32 (record { align = 2; offset = 0 }) ∷ IsZero I64 ∷ End ∷ []) ≡ None
  pub load_result : checked_body (with_memory m) (LocalGet 0 ∷ Load load.I64 (record { align = 3; offset = 0 }) ∷ End ∷ []) ≡ refused_at 2 wrong_type
  pub load_operand : checked_body (with_memory m) (Load load.I32 (record { align = 2; offset = 0 }) ∷ End ∷ []) ≡ refused_at 0 wrong_type
  pub stores : checked_body (with_memory m) (LocalGet 0 ∷ I64Const (pos 1) ∷ Store store.I64Low16 (record { align = 1; offset = 0 }) ∷ LocalGet 0 ∷ End ∷ []) ≡ None
  pub store_type : checked_body (with_memory m) (LocalGet 0 ∷ LocalGet 0 ∷ Store store.I64Low16 (record { align = 1; offset = 0 }) ∷ LocalGet 0 ∷ End ∷ []) ≡ refused_at 2 wrong_type
  -- an alignment past the natural one; of several reasons the index comes first, and then the operands
  pub load_alignment : checked_body (with_memory m) (LocalGet 0 ∷ Load load.I32 (record { align = 3; offset = 0 }) ∷ End ∷ []) ≡ refused_at 1 wrong_alignment
  pub load_alignment_narrow : checked_body (with_memory m) (LocalGet 0 ∷ Load load.I32S8 (record { align = 1; offset = 0 }) ∷ End ∷ []) ≡ refused_at 1 wrong_alignment
  pub store_alignment : checked_body (with_memory m) (LocalGet 0 ∷ I64Const (pos 1) ∷ Store store.I64 (record { align = 4; offset = 0 }) ∷ LocalGet 0 ∷ End ∷ []) ≡ refused_at 2 wrong_alignment
  pub operand_first : checked_body (with_memory m) (Load load.I32 (record { align = 3; offset = 0 }) ∷ End ∷ []) ≡ refused_at 0 wrong_type
  pub index_first : checked_body (without_memory m) (Load load.I32 (record { align = 3; offset = 0 }) ∷ End ∷ []) ≡ refused_at 0 no_index
  -- the size of a memory that isn't there
  pub size : checked_body (with_memory m) (MemorySize ∷ MemoryGrow ∷ End ∷ []) ≡ None
  pub size_index : checked_body (without_memory m) (MemorySize ∷ End ∷ []) ≡ refused_at 0 no_index
  pub grow_index : checked_body (without_memory m) (LocalGet 0 ∷ MemoryGrow ∷ End ∷ []) ≡ refused_at 1 no_index
  -- a call by the table: the arguments stand under the place
  pub indirect : checked_body (with_memory m) (I64Const (pos 1) ∷ LocalGet 0 ∷ CallIndirect 0 ∷ End ∷ []) ≡ None
  pub indirect_order : checked_body (with_memory m) (LocalGet 0 ∷ I64Const (pos 1) ∷ CallIndirect 0 ∷ End ∷ []) ≡ refused_at 2 wrong_type
  pub indirect_type : checked_body (with_memory m) (I64Const (pos 1) ∷ LocalGet 0 ∷ CallIndirect 1 ∷ End ∷ []) ≡ refused_at 2 no_index
  pub indirect_table : checked_body (without_memory m) (I64Const (pos 1) ∷ LocalGet 0 ∷ CallIndirect 0 ∷ End ∷ []) ≡ refused_at 2 no_index

-- in every module
pub record BodiesAreTyped : Type 0 where
  pub bodies : (m : Module) → RefusesFirst m
  pub choices : (m : Module) → RefusesInChoices m
  pub calls : (m : Module) (i : FuncImport) → RefusesCalls m i
  pub branches : (m : Module) → RefusesBranches m
  pub operands : (m : Module) → RefusesOperands m
  pub memory : (m : Module) → RefusesMemory m
