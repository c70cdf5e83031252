-- WorkedRuns: what calls of one small module come to, worked out from the rules by hand (WebAssembly Core Specification 1.0, 4.4).
use Rattle.std.specs.Prelude.{◌≡◌, ℕ, zero, suc, pos, negsuc, Bool, true, false, List, [], ◌∷◌, codes, Some, None}
use Rattle.zw_session.specs.Sessions.{Scalar, Number, Truth, HostEvent, Halt, WantsReply, Running, Trapped, Returned, Halted, Outcome}
use Rattle.zw_wasm.specs.declared.module.BinaryOperator.TheVariants.{Mul, DivS, DivU}
use Rattle.zw_wasm.specs.declared.module.Comparison.TheVariants.{LtS}
use Rattle.zw_wasm.specs.declared.module.Conversion.TheVariants.{Wrap, ExtendS, ExtendU}
use Rattle.zw_wasm.specs.declared.module.Instr.{Instr}
use Rattle.zw_wasm.specs.declared.module.Instr.TheVariants.{Unreachable, Block, Loop, If, Else, End, Br, BrIf, BrTable, Return, CallIndirect, Drop, Select, LocalGet, LocalSet, LocalTee, GlobalGet, GlobalSet, Load, MemorySize, MemoryGrow, I32Const, I64Const, IsZero, Compare, Binary, Convert}
use Rattle.zw_wasm.specs.declared.module.Instr.TheVariants as instr
use Rattle.zw_wasm.specs.declared.module.LoadKind.TheVariants as load
use Rattle.zw_wasm.specs.declared.module.Module.{Module}
use Rattle.zw_wasm.specs.declared.module.TheConstants.ExportDef.{FUNC}
use Rattle.zw_wasm.specs.declared.module.StoreKind.TheVariants as store
use Rattle.zw_wasm.specs.declared.module.ValType.TheVariants as ty
use Rattle.zw_wasm.specs.ModuleMachine.{call_fits, call_of}
use Rattle.zw_wasm.specs.Reduction.{Store, bounds_trap, frames_trap, no_entry_trap, overflow_trap, signature_trap, unreachable_trap, zero_divisor_trap}
use Rattle.zw_wasm.specs.Signature.{Shown, Value, Bytes, Unsigned, View}
use Rattle.zw_wasm.specs.Structure.{I32, i32_add, i32_lt_u, i32_sub}

-- The functions: 0 is imported, takes an i32 and gives nothing; 1 is imported, takes the place and the number of some
-- bytes, and gives an i32; 2 gives the difference of two i32; 3 has this body, two i32 parameters, one i32 local and an
-- i32 result, and is exported as "f". Global 0 is a mutable i32.
abbrev pub worked_module : List Instr → Module
worked_module body = record {
  types = record { params = ty.I32 ∷ []; result = None } ∷ record { params = ty.I32 ∷ ty.I32 ∷ []; result = Some ty.I32 } ∷ [];
  imports = record { «module» = codes "host"; field = codes "say"; ty = 0 } ∷ record { «module» = codes "host"; field = codes "ask"; ty = 1 } ∷ [];
  funcs = 1 ∷ 1 ∷ [];
  tables = [];
  memories = record { least = 1; greatest = Some 1 } ∷ [];
  globals = record { ty = ty.I32; mutable = true; init = I32Const (pos 0) ∷ End ∷ [] } ∷ [];
  exports = record { name = codes "f"; kind = FUNC; index = 3 } ∷ [];
  start = None;
  elements = [];
  codes = record { locals = []; instrs = LocalGet 0 ∷ LocalGet 1 ∷ i32_sub ∷ End ∷ [] } ∷ record { locals = (1, ty.I32) ∷ []; instrs = body } ∷ [];
  datas = [];
}

-- function 1 shows the bytes, the second parameter of "f" is a byte, and all other values are words; none has a sign
abbrev pub worked_view : View
worked_view = record {
  exported = λ name. Some (record { params = Unsigned 32 ∷ Unsigned 8 ∷ []; result = Some (Unsigned 32) });
  import_params = shown_to;
}
  where
    shown_to : ℕ → List Shown
    shown_to zero = Value (Unsigned 32) ∷ []
    shown_to (suc k) = Bytes ∷ []

-- the value of the global, a memory of three bytes, and a table of two functions and a place without one
abbrev pub worked_store : ℕ → Store
worked_store global = record { globals = I32 global ∷ []; memory = codes "hi!"; table = Some 2 ∷ None ∷ Some 0 ∷ [] }

-- a call with these arguments and replies, under this bound
abbrev pub worked_call : List Instr → ℕ → ℕ → List ℕ → ℕ → Outcome Store
worked_call body a b replies bound =
    call_of (worked_module body) worked_view (worked_store 0) (record { name = codes "f"; args = Number (pos a) ∷ Number (pos b) ∷ [] }) replies bound

-- whether a call under this name with these arguments may be made
abbrev pub fits_worked : List ℕ → List Scalar → Bool
fits_worked name args = call_fits (worked_module (LocalGet 0 ∷ End ∷ [])) worked_view (record { name = name; args = args })

-- it returns with these events and this value, and this is left of the global, the replies and the bound
abbrev pub gives : List HostEvent → ℕ → ℕ → List ℕ → ℕ → Outcome Store
gives events value global replies left =
    record { events = events; end = Returned (Some (Number (pos value))) (worked_store global) replies left }

abbrev pub halts : List HostEvent → Halt → Outcome Store
halts events h = record { events = events; end = Halted h }

abbrev pub said : ℕ → HostEvent
said n = record { name = codes "say"; args = Number (pos n) ∷ []; shown = [] }

abbrev pub asked : List ℕ → HostEvent
asked bytes = record { name = codes "ask"; args = []; shown = bytes ∷ [] }

-- `if (a) { if (b) 11 else 10 } else { if (b) 1 else 0 }`, plus 100
abbrev pub nested_choices : List Instr
nested_choices =
    I32Const (pos 100) ∷ LocalGet 0 ∷ If (Some ty.I32) ∷ LocalGet 1 ∷ If (Some ty.I32) ∷ I32Const (pos 11) ∷ Else ∷ I32Const (pos 10) ∷ End
    ∷ Else ∷ LocalGet 1 ∷ If (Some ty.I32) ∷ I32Const (pos 1) ∷ Else ∷ I32Const (pos 0) ∷ End ∷ End ∷ i32_add ∷ End ∷ Unreachable ∷ []

pub record WorkedCalls : Type 0 where
  -- a call may be made with any i32 for each parameter, told with a sign or without one, and a truth value is one
  pub greatest : fits_worked (codes "f") (Number (pos 4294967295) ∷ Number (pos 300) ∷ []) ≡ true
  pub least : fits_worked (codes "f") (Number (negsuc 2147483647) ∷ Truth true ∷ []) ≡ true
  pub too_great : fits_worked (codes "f") (Number (pos 4294967296) ∷ Number (pos 0) ∷ []) ≡ false
  pub too_small : fits_worked (codes "f") (Number (pos 0) ∷ Number (negsuc 2147483648) ∷ []) ≡ false
  pub too_few : fits_worked (codes "f") (Number (pos 0) ∷ []) ≡ false
  pub no_export : fits_worked (codes "g") (Number (pos 0) ∷ Number (pos 0) ∷ []) ≡ false
  -- the first argument is the first parameter; what lies below the arguments stays there
  pub call : worked_call (LocalGet 0 ∷ LocalGet 1 ∷ instr.Call 2 ∷ End ∷ []) 10 3 [] 8 ≡ gives [] 7 0 [] 2
  pub below : worked_call (LocalGet 0 ∷ LocalGet 0 ∷ LocalGet 1 ∷ instr.Call 2 ∷ i32_add ∷ End ∷ []) 10 3 [] 8 ≡ gives [] 17 0 [] 0
  -- the bound is one short
  pub bound : worked_call (LocalGet 0 ∷ LocalGet 1 ∷ instr.Call 2 ∷ End ∷ []) 10 3 [] 5 ≡ halts [] Running
  -- differences are modulo 2^32, and comparisons without signs
  pub wraps : worked_call (LocalGet 0 ∷ LocalGet 1 ∷ i32_sub ∷ End ∷ []) 3 10 [] 3 ≡ gives [] 4294967289 0 [] 0
  pub less : worked_call (LocalGet 0 ∷ LocalGet 1 ∷ i32_lt_u ∷ End ∷ []) 3 10 [] 3 ≡ gives [] 1 0 [] 0
  pub equal : worked_call (LocalGet 0 ∷ LocalGet 1 ∷ i32_lt_u ∷ End ∷ []) 10 10 [] 3 ≡ gives [] 0 0 [] 0
  pub unsigned : worked_call (LocalGet 0 ∷ LocalGet 1 ∷ i32_lt_u ∷ End ∷ []) 1 4294967295 [] 3 ≡ gives [] 1 0 [] 0
  -- a choice gives its result to what stands round it
  pub first : worked_call (LocalGet 0 ∷ LocalGet 1 ∷ If (Some ty.I32) ∷ I32Const (pos 100) ∷ Else ∷ I32Const (pos 200) ∷ End ∷ i32_sub ∷ End ∷ []) 300 5 [] 5 ≡ gives [] 200 0 [] 0
  pub second : worked_call (LocalGet 0 ∷ LocalGet 1 ∷ If (Some ty.I32) ∷ I32Const (pos 100) ∷ Else ∷ I32Const (pos 200) ∷ End ∷ i32_sub ∷ End ∷ []) 300 0 [] 5 ≡ gives [] 100 0 [] 0
  pub passed : worked_call (LocalGet 0 ∷ LocalGet 1 ∷ If None ∷ Unreachable ∷ End ∷ End ∷ []) 7 0 [] 3 ≡ gives [] 7 0 [] 0
  pub taken : worked_call (LocalGet 0 ∷ LocalGet 1 ∷ If None ∷ Unreachable ∷ End ∷ End ∷ []) 7 1 [] 9 ≡ halts [] (Trapped unreachable_trap)
  -- choices nest, and what stands behind the code's end isn't reached
  pub both : worked_call nested_choices 1 1 [] 10 ≡ gives [] 111 0 [] 3
  pub first_alone : worked_call nested_choices 1 0 [] 10 ≡ gives [] 110 0 [] 3
  pub second_alone : worked_call nested_choices 0 1 [] 10 ≡ gives [] 101 0 [] 3
  pub neither : worked_call nested_choices 0 0 [] 10 ≡ gives [] 100 0 [] 3
  -- locals are 0 at first, and parameters are set like other locals
  pub zeros : worked_call (LocalGet 2 ∷ End ∷ []) 10 3 [] 1 ≡ gives [] 0 0 [] 0
  pub sets : worked_call (LocalGet 0 ∷ LocalSet 2 ∷ LocalGet 1 ∷ LocalSet 0 ∷ LocalGet 2 ∷ LocalGet 0 ∷ i32_sub ∷ End ∷ []) 10 3 [] 7 ≡ gives [] 7 0 [] 0
  -- a global outlasts the call
  pub global : worked_call (LocalGet 0 ∷ GlobalSet 0 ∷ GlobalGet 0 ∷ LocalGet 1 ∷ i32_add ∷ End ∷ []) 10 3 [] 5 ≡ gives [] 13 10 [] 0
  -- host calls in turn, each with its argument
  pub says : worked_call (LocalGet 0 ∷ instr.Call 0 ∷ LocalGet 1 ∷ instr.Call 0 ∷ LocalGet 0 ∷ End ∷ []) 10 3 (4 ∷ []) 5 ≡ gives (said 10 ∷ said 3 ∷ []) 10 0 (4 ∷ []) 0
  -- a reply is the result, modulo 2^32; where there is none, the call was made
  pub asks : worked_call (I32Const (pos 1) ∷ I32Const (pos 2) ∷ instr.Call 1 ∷ End ∷ []) 0 0 (4294967301 ∷ 6 ∷ []) 3 ≡ gives (asked (codes "i!") ∷ []) 5 0 (6 ∷ []) 0
  pub wants : worked_call (I32Const (pos 0) ∷ I32Const (pos 2) ∷ instr.Call 1 ∷ End ∷ []) 0 0 [] 9 ≡ halts (asked (codes "hi") ∷ []) WantsReply
  -- bytes that aren't all in the memory are not shown
  pub outside : worked_call (I32Const (pos 2) ∷ I32Const (pos 2) ∷ instr.Call 1 ∷ End ∷ []) 0 0 (4 ∷ []) 9 ≡ halts [] (Trapped bounds_trap)
  -- what was called before a trap was called
  pub says_first : worked_call (LocalGet 0 ∷ instr.Call 0 ∷ Unreachable ∷ End ∷ []) 10 3 [] 9 ≡ halts (said 10 ∷ []) (Trapped unreachable_trap)

-- the memory and the place in it, of an access
abbrev pub i32_load : ℕ → Instr
i32_load offset = Load load.I32 (record { align = 0; offset = offset })

abbrev pub i32_load8_u : ℕ → Instr
i32_load8_u offset = Load load.I32U8 (record { align = 0; offset = offset })

abbrev pub i32_load8_s : ℕ → Instr
i32_load8_s offset = Load load.I32S8 (record { align = 0; offset = offset })

abbrev pub i32_load16_u : ℕ → Instr
i32_load16_u offset = Load load.I32U16 (record { align = 0; offset = offset })

abbrev pub i32_store8 : ℕ → Instr
i32_store8 offset = instr.Store store.I32Low8 (record { align = 0; offset = offset })

abbrev pub i64_store16 : ℕ → Instr
i64_store16 offset = instr.Store store.I64Low16 (record { align = 0; offset = offset })

-- it returns with this value, and this is left of the memory and the bound
abbrev pub gives_memory : ℕ → List ℕ → ℕ → Outcome Store
gives_memory value memory left =
    record { events = []; end = Returned (Some (Number (pos value))) (record (worked_store 0) { memory = memory }) [] left }

-- one code of three, by a table
abbrev pub by_table : List Instr
by_table =
    Block None ∷ Block None ∷ Block None ∷ LocalGet 0 ∷ BrTable 2 (0 ∷ 1 ∷ []) ∷ End ∷ I32Const (pos 10) ∷ Return ∷ End ∷ I32Const (pos 20) ∷ Return
    ∷ End ∷ I32Const (pos 30) ∷ End ∷ []

-- the sum of the numbers from the first parameter down to 1
abbrev pub sum_down : List Instr
sum_down =
    Loop None ∷ LocalGet 2 ∷ LocalGet 0 ∷ i32_add ∷ LocalSet 2 ∷ LocalGet 0 ∷ I32Const (pos 1) ∷ i32_sub ∷ LocalTee 0 ∷ BrIf 0 ∷ End ∷ LocalGet 2
    ∷ End ∷ []

pub record WorkedBranches : Type 0 where
  -- a block counts as an instruction, and so does a branch
  pub nop : worked_call (LocalGet 0 ∷ instr.Nop ∷ End ∷ []) 10 3 [] 2 ≡ gives [] 10 0 [] 0
  pub block : worked_call (LocalGet 0 ∷ Block (Some ty.I32) ∷ LocalGet 1 ∷ End ∷ i32_sub ∷ End ∷ []) 10 3 [] 4 ≡ gives [] 7 0 [] 0
  pub past : worked_call (Block None ∷ Br 0 ∷ Unreachable ∷ End ∷ LocalGet 0 ∷ End ∷ []) 10 3 [] 3 ≡ gives [] 10 0 [] 0
  -- a branch takes the block's result along, and leaves what else is there
  pub result : worked_call (LocalGet 0 ∷ Block (Some ty.I32) ∷ LocalGet 0 ∷ LocalGet 1 ∷ Br 0 ∷ End ∷ i32_sub ∷ End ∷ []) 10 3 [] 6 ≡ gives [] 7 0 [] 0
  -- past two blocks
  pub outer : worked_call (Block None ∷ Block None ∷ Br 1 ∷ End ∷ Unreachable ∷ End ∷ LocalGet 0 ∷ End ∷ []) 10 3 [] 9 ≡ gives [] 10 0 [] 5
  pub inner : worked_call (Block None ∷ Block None ∷ Br 0 ∷ End ∷ Unreachable ∷ End ∷ LocalGet 0 ∷ End ∷ []) 10 3 [] 9 ≡ halts [] (Trapped unreachable_trap)
  -- out of an `if`
  pub out_of_if : worked_call (LocalGet 0 ∷ If (Some ty.I32) ∷ LocalGet 1 ∷ Br 0 ∷ Else ∷ Unreachable ∷ End ∷ End ∷ []) 10 3 [] 4 ≡ gives [] 3 0 [] 0
  -- where the operand isn't 0; else the result stays
  pub unless_zero : worked_call (Block (Some ty.I32) ∷ LocalGet 0 ∷ LocalGet 1 ∷ BrIf 0 ∷ Unreachable ∷ End ∷ End ∷ []) 10 3 [] 4 ≡ gives [] 10 0 [] 0
  pub zero : worked_call (Block (Some ty.I32) ∷ LocalGet 0 ∷ LocalGet 1 ∷ BrIf 0 ∷ Drop ∷ I32Const (pos 5) ∷ End ∷ End ∷ []) 10 0 [] 6 ≡ gives [] 5 0 [] 0
  -- a branch to a loop goes on with the loop, which counts again; at the end of its code a loop ends
  pub loop : worked_call sum_down 3 0 [] 31 ≡ gives [] 6 0 [] 0
  pub loop_once : worked_call sum_down 1 0 [] 11 ≡ gives [] 1 0 [] 0
  pub loop_bound : worked_call sum_down 3 0 [] 30 ≡ halts [] Running
  pub for_ever : worked_call (Loop None ∷ Br 0 ∷ End ∷ Unreachable ∷ End ∷ []) 0 0 [] 999 ≡ halts [] Running
  -- by a table, and past it by the default
  pub table_first : worked_call by_table 0 0 [] 7 ≡ gives [] 10 0 [] 0
  pub table_second : worked_call by_table 1 0 [] 7 ≡ gives [] 20 0 [] 0
  pub table_default : worked_call by_table 2 0 [] 6 ≡ gives [] 30 0 [] 0
  pub table_past : worked_call by_table 4294967295 0 [] 6 ≡ gives [] 30 0 [] 0
  -- a return, and a branch to the body's own label, leave all labels and all operands but the result
  pub returns : worked_call (LocalGet 0 ∷ Block None ∷ Loop None ∷ LocalGet 0 ∷ LocalGet 1 ∷ Return ∷ End ∷ End ∷ Unreachable ∷ End ∷ []) 10 3 [] 6 ≡ gives [] 3 0 [] 0
  pub to_body : worked_call (LocalGet 0 ∷ Block None ∷ LocalGet 0 ∷ LocalGet 1 ∷ Br 1 ∷ End ∷ Unreachable ∷ End ∷ []) 10 3 [] 5 ≡ gives [] 3 0 [] 0
  -- a call by the table, of a place without a function, past the table, and of another type
  pub indirect : worked_call (LocalGet 0 ∷ LocalGet 1 ∷ I32Const (pos 0) ∷ CallIndirect 1 ∷ End ∷ []) 10 3 [] 7 ≡ gives [] 7 0 [] 0
  pub no_function : worked_call (LocalGet 0 ∷ LocalGet 1 ∷ I32Const (pos 1) ∷ CallIndirect 1 ∷ End ∷ []) 10 3 [] 9 ≡ halts [] (Trapped no_entry_trap)
  pub past_table : worked_call (LocalGet 0 ∷ LocalGet 1 ∷ I32Const (pos 3) ∷ CallIndirect 1 ∷ End ∷ []) 10 3 [] 9 ≡ halts [] (Trapped no_entry_trap)
  pub other_type : worked_call (LocalGet 0 ∷ LocalGet 1 ∷ I32Const (pos 2) ∷ CallIndirect 1 ∷ End ∷ []) 10 3 [] 9 ≡ halts [] (Trapped signature_trap)
  pub indirect_host : worked_call (LocalGet 0 ∷ I32Const (pos 2) ∷ CallIndirect 0 ∷ LocalGet 1 ∷ End ∷ []) 10 3 [] 4 ≡ gives (said 10 ∷ []) 3 0 [] 0

pub record WorkedMemory : Type 0 where
  -- a byte, two bytes, the lowest first, and four, of which one lies outside
  pub byte : worked_call (LocalGet 0 ∷ i32_load8_u 1 ∷ End ∷ []) 1 0 [] 2 ≡ gives [] 33 0 [] 0
  pub two : worked_call (LocalGet 0 ∷ i32_load16_u 0 ∷ End ∷ []) 0 0 [] 2 ≡ gives [] 26984 0 [] 0
  pub four : worked_call (LocalGet 0 ∷ i32_load 0 ∷ End ∷ []) 0 0 [] 2 ≡ halts [] (Trapped bounds_trap)
  pub outside : worked_call (LocalGet 0 ∷ i32_load8_u 0 ∷ End ∷ []) 3 0 [] 2 ≡ halts [] (Trapped bounds_trap)
  -- the sum of address and offset isn't cut to 32 bits
  pub far : worked_call (LocalGet 0 ∷ i32_load8_u 1 ∷ End ∷ []) 4294967295 0 [] 2 ≡ halts [] (Trapped bounds_trap)
  -- what is written is read, with a sign or without
  pub stores : worked_call (I32Const (pos 1) ∷ LocalGet 0 ∷ i32_store8 1 ∷ I32Const (pos 0) ∷ i32_load8_s 2 ∷ End ∷ []) 511 0 [] 5 ≡ gives_memory 4294967295 (104 ∷ 105 ∷ 255 ∷ []) 0
  pub stores_long : worked_call (I32Const (pos 0) ∷ LocalGet 0 ∷ Convert ExtendU ∷ i64_store16 0 ∷ LocalGet 1 ∷ End ∷ []) 66051 7 [] 5 ≡ gives_memory 7 (3 ∷ 2 ∷ 33 ∷ []) 0
  pub stores_outside : worked_call (I32Const (pos 0) ∷ LocalGet 0 ∷ Convert ExtendU ∷ i64_store16 2 ∷ LocalGet 1 ∷ End ∷ []) 66051 7 [] 5 ≡ halts [] (Trapped bounds_trap)
  -- the size in pages, and a growth that is too great, or none
  pub size : worked_call (MemorySize ∷ End ∷ []) 0 0 [] 1 ≡ gives [] 0 0 [] 0
  pub grows_not : worked_call (LocalGet 0 ∷ MemoryGrow ∷ End ∷ []) 2 0 [] 2 ≡ gives [] 4294967295 0 [] 0
  pub grows_far : worked_call (LocalGet 0 ∷ MemoryGrow ∷ End ∷ []) 4294967295 0 [] 2 ≡ gives [] 4294967295 0 [] 0
  pub grows_by_none : worked_call (LocalGet 0 ∷ MemoryGrow ∷ End ∷ []) 0 0 [] 2 ≡ gives [] 0 0 [] 0

pub record WorkedOperators : Type 0 where
  pub drop : worked_call (LocalGet 0 ∷ LocalGet 1 ∷ Drop ∷ End ∷ []) 10 3 [] 3 ≡ gives [] 10 0 [] 0
  pub select_first : worked_call (LocalGet 0 ∷ LocalGet 1 ∷ I32Const (pos 7) ∷ Select ∷ End ∷ []) 10 3 [] 4 ≡ gives [] 10 0 [] 0
  pub select_second : worked_call (LocalGet 0 ∷ LocalGet 1 ∷ I32Const (pos 0) ∷ Select ∷ End ∷ []) 10 3 [] 4 ≡ gives [] 3 0 [] 0
  pub tee : worked_call (LocalGet 0 ∷ LocalTee 2 ∷ LocalGet 2 ∷ i32_add ∷ End ∷ []) 10 3 [] 4 ≡ gives [] 20 0 [] 0
  -- in 64 bits a product is past 32, of which the lowest are given
  pub long : worked_call (LocalGet 0 ∷ Convert ExtendU ∷ LocalGet 1 ∷ Convert ExtendU ∷ Binary ty.I64 Mul ∷ I64Const (pos 65536) ∷ Binary ty.I64 DivU ∷ Convert Wrap ∷ End ∷ []) 4294967295 65536 [] 8 ≡ gives [] 4294967295 0 [] 0
  pub with_sign : worked_call (LocalGet 0 ∷ Convert ExtendS ∷ I64Const (pos 0) ∷ Compare ty.I64 LtS ∷ End ∷ []) 4294967295 0 [] 4 ≡ gives [] 1 0 [] 0
  pub without_sign : worked_call (LocalGet 0 ∷ Convert ExtendU ∷ I64Const (pos 0) ∷ Compare ty.I64 LtS ∷ End ∷ []) 4294967295 0 [] 4 ≡ gives [] 0 0 [] 0
  pub is_zero : worked_call (LocalGet 0 ∷ Convert ExtendU ∷ IsZero ty.I64 ∷ End ∷ []) 0 0 [] 3 ≡ gives [] 1 0 [] 0
  pub by_zero : worked_call (LocalGet 0 ∷ LocalGet 1 ∷ Binary ty.I32 DivU ∷ End ∷ []) 10 0 [] 3 ≡ halts [] (Trapped zero_divisor_trap)
  pub too_great : worked_call (LocalGet 0 ∷ LocalGet 1 ∷ Binary ty.I32 DivS ∷ End ∷ []) 2147483648 4294967295 [] 3 ≡ halts [] (Trapped overflow_trap)
  -- a function that calls itself
  pub frames : worked_call (LocalGet 0 ∷ LocalGet 1 ∷ instr.Call 3 ∷ End ∷ []) 0 0 [] 6300 ≡ halts [] (Trapped frames_trap)
