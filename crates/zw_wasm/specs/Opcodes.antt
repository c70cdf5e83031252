-- Opcodes: the byte with which each instruction begins, and the immediate argument behind it (WebAssembly Core
-- Specification 1.0, 5.4). What an argument is in bytes goes by its kind, of which there are few.
use Rattle.std.specs.Prelude.{ℕ, ◌+◌, ℤ, List, Option}
use Rattle.zw_wasm.specs.declared.module.BinaryOperator.{BinaryOperator}
use Rattle.zw_wasm.specs.declared.module.BinaryOperator.TheVariants.{Add, Sub, Mul, DivS, DivU, RemS, RemU, And, Or, Xor, Shl, ShrS, ShrU, Rotl, Rotr}
use Rattle.zw_wasm.specs.declared.module.Comparison.{Comparison}
use Rattle.zw_wasm.specs.declared.module.Comparison.TheVariants.{Eq, Ne, LtS, LtU, GtS, GtU, LeS, LeU, GeS, GeU}
use Rattle.zw_wasm.specs.declared.module.Conversion.{Conversion}
use Rattle.zw_wasm.specs.declared.module.Conversion.TheVariants.{Wrap, ExtendS, ExtendU}
use Rattle.zw_wasm.specs.declared.module.Instr.{Instr}
use Rattle.zw_wasm.specs.declared.module.Instr.TheVariants.{Unreachable, Nop, Block, Loop, If, Else, End, Br, BrIf, BrTable, Return, Call, CallIndirect, Drop, Select, LocalGet, LocalSet, LocalTee, GlobalGet, GlobalSet, Load, Store, MemorySize, MemoryGrow, I32Const, I64Const, IsZero, Compare, Unary, Binary, Convert}
use Rattle.zw_wasm.specs.declared.module.LoadKind.{LoadKind}
use Rattle.zw_wasm.specs.declared.module.LoadKind.TheVariants as load
use Rattle.zw_wasm.specs.declared.module.MemoryArgument.{MemoryArgument}
use Rattle.zw_wasm.specs.declared.module.StoreKind.{StoreKind}
use Rattle.zw_wasm.specs.declared.module.StoreKind.TheVariants as store
use Rattle.zw_wasm.specs.declared.module.UnaryOperator.{UnaryOperator}
use Rattle.zw_wasm.specs.declared.module.UnaryOperator.TheVariants.{Clz, Ctz, Popcnt}
use Rattle.zw_wasm.specs.declared.module.ValType.{ValType}
use Rattle.zw_wasm.specs.declared.module.ValType.TheVariants.{I32, I64}

-- ---- memory (5.4.3)

abbrev pub load_opcode : LoadKind → ℕ
load_opcode load.I32 = 0x28
load_opcode load.I64 = 0x29
load_opcode load.I32S8 = 0x2C
load_opcode load.I32U8 = 0x2D
load_opcode load.I32S16 = 0x2E
load_opcode load.I32U16 = 0x2F
load_opcode load.I64S8 = 0x30
load_opcode load.I64U8 = 0x31
load_opcode load.I64S16 = 0x32
load_opcode load.I64U16 = 0x33
load_opcode load.I64S32 = 0x34
load_opcode load.I64U32 = 0x35

abbrev pub store_opcode : StoreKind → ℕ
store_opcode store.I32 = 0x36
store_opcode store.I64 = 0x37
store_opcode store.I32Low8 = 0x3A
store_opcode store.I32Low16 = 0x3B
store_opcode store.I64Low8 = 0x3C
store_opcode store.I64Low16 = 0x3D
store_opcode store.I64Low32 = 0x3E

-- ---- numbers (5.4.5): the opcodes for i32

abbrev pub comparison_opcode : Comparison → ℕ
comparison_opcode Eq = 0x46
comparison_opcode Ne = 0x47
comparison_opcode LtS = 0x48
comparison_opcode LtU = 0x49
comparison_opcode GtS = 0x4A
comparison_opcode GtU = 0x4B
comparison_opcode LeS = 0x4C
comparison_opcode LeU = 0x4D
comparison_opcode GeS = 0x4E
comparison_opcode GeU = 0x4F

abbrev pub unary_opcode : UnaryOperator → ℕ
unary_opcode Clz = 0x67
unary_opcode Ctz = 0x68
unary_opcode Popcnt = 0x69

abbrev pub binary_opcode : BinaryOperator → ℕ
binary_opcode Add = 0x6A
binary_opcode Sub = 0x6B
binary_opcode Mul = 0x6C
binary_opcode DivS = 0x6D
binary_opcode DivU = 0x6E
binary_opcode RemS = 0x6F
binary_opcode RemU = 0x70
binary_opcode And = 0x71
binary_opcode Or = 0x72
binary_opcode Xor = 0x73
binary_opcode Shl = 0x74
binary_opcode ShrS = 0x75
binary_opcode ShrU = 0x76
binary_opcode Rotl = 0x77
binary_opcode Rotr = 0x78

abbrev pub conversion_opcode : Conversion → ℕ
conversion_opcode Wrap = 0xA7
conversion_opcode ExtendS = 0xAC
conversion_opcode ExtendU = 0xAD

-- how much higher the opcodes of the tests and comparisons of a type are
abbrev pub relations_up : ValType → ℕ
relations_up I32 = 0
relations_up I64 = 0x0B

-- and those of its operators
abbrev pub operators_up : ValType → ℕ
operators_up I32 = 0
operators_up I64 = 0x12

-- ---- instructions

abbrev pub opcode : Instr → ℕ
opcode Unreachable = 0x00
opcode Nop = 0x01
opcode (Block result) = 0x02
opcode (Loop result) = 0x03
opcode (If result) = 0x04
opcode Else = 0x05
opcode End = 0x0B
opcode (Br label) = 0x0C
opcode (BrIf label) = 0x0D
opcode (BrTable default labels) = 0x0E
opcode Return = 0x0F
opcode (Call f) = 0x10
opcode (CallIndirect ty) = 0x11
opcode Drop = 0x1A
opcode Select = 0x1B
opcode (LocalGet n) = 0x20
opcode (LocalSet n) = 0x21
opcode (LocalTee n) = 0x22
opcode (GlobalGet n) = 0x23
opcode (GlobalSet n) = 0x24
opcode (Load kind at) = load_opcode kind
opcode (Store kind at) = store_opcode kind
opcode MemorySize = 0x3F
opcode MemoryGrow = 0x40
opcode (I32Const z) = 0x41
opcode (I64Const z) = 0x42
opcode (IsZero ty) = 0x45 + relations_up ty
opcode (Compare ty comparison) = comparison_opcode comparison + relations_up ty
opcode (Unary ty operator) = unary_opcode operator + operators_up ty
opcode (Binary ty operator) = binary_opcode operator + operators_up ty
opcode (Convert conversion) = conversion_opcode conversion

-- What stands behind an opcode: nothing, the type of a block, an index, labels with a default, an index and a zero, a
-- zero, an alignment and an offset, or a signed number of 32 or of 64 bits.
pub data Immediate : Type 0 where
  Nothing : Immediate
  BlockType : (result : Option ValType) → Immediate
  Index : (index : ℕ) → Immediate
  Labels : (labels : List ℕ) (default : ℕ) → Immediate
  IndexAndZero : (index : ℕ) → Immediate
  Zero : Immediate
  Memory : (at : MemoryArgument) → Immediate
  Signed32 : (z : ℤ) → Immediate
  Signed64 : (z : ℤ) → Immediate

abbrev pub immediate_of : Instr → Immediate
immediate_of (Block result) = BlockType result
immediate_of (Loop result) = BlockType result
immediate_of (If result) = BlockType result
immediate_of (Br label) = Index label
immediate_of (BrIf label) = Index label
immediate_of (BrTable default labels) = Labels labels default
immediate_of (Call f) = Index f
immediate_of (CallIndirect ty) = IndexAndZero ty
immediate_of (LocalGet n) = Index n
immediate_of (LocalSet n) = Index n
immediate_of (LocalTee n) = Index n
immediate_of (GlobalGet n) = Index n
immediate_of (GlobalSet n) = Index n
immediate_of (Load kind at) = Memory at
immediate_of (Store kind at) = Memory at
immediate_of MemorySize = Zero
immediate_of MemoryGrow = Zero
immediate_of (I32Const z) = Signed32 z
immediate_of (I64Const z) = Signed64 z
immediate_of i = Nothing
