-- The shortest spelling of a module in bytes (WebAssembly Core Specification 1.0, 5.1 to 5.5), a function of the
-- module: each number has its shortest spelling, and a section without entries is left out.
use Rattle.std.specs.Prelude.{ℕ, Bool, true, false, List, [], ◌∷◌, ◌++◌, length, Option, Some, None}
use Rattle.std.specs.List.{flat_map}
use Rattle.zw_wasm.specs.declared.module.ValType.{ValType}
use Rattle.zw_wasm.specs.declared.module.ValType.TheVariants.{I32, I64}
use Rattle.zw_wasm.specs.declared.module.FuncType.{FuncType}
use Rattle.zw_wasm.specs.declared.module.FuncImport.{FuncImport}
use Rattle.zw_wasm.specs.declared.module.Limits.{Limits}
use Rattle.zw_wasm.specs.declared.module.GlobalDef.{GlobalDef}
use Rattle.zw_wasm.specs.declared.module.ExportDef.{ExportDef}
use Rattle.zw_wasm.specs.declared.module.Element.{Element}
use Rattle.zw_wasm.specs.declared.module.DataSegment.{DataSegment}
use Rattle.zw_wasm.specs.declared.module.CodeBody.{CodeBody}
use Rattle.zw_wasm.specs.declared.module.Instr.{Instr}
use Rattle.zw_wasm.specs.declared.module.Module.{Module}
use Rattle.zw_leb.specs.Leb.{unsigned, signed}
use Rattle.zw_wasm.specs.Opcodes.{Immediate, Nothing, BlockType, Index, Labels, IndexAndZero, Zero, Memory, Signed32, Signed64, opcode, immediate_of}

-- a list: the number of its items, and then these (5.1.3)
abbrev pub vector : {X : Type 0} → (X → List ℕ) → List X → List ℕ
vector item xs = unsigned (length xs) ++ flat_map item xs

-- a list of bytes, as a name (5.2.4) or the content of a data segment
abbrev pub byte_vector : List ℕ → List ℕ
byte_vector bytes = unsigned (length bytes) ++ bytes

-- a type of a value (5.3.1)
abbrev pub value_type : ValType → List ℕ
value_type I32 = 0x7F ∷ []
value_type I64 = 0x7E ∷ []

-- the result of a function, of which there is at most one (5.3.3)
abbrev pub result_type : Option ValType → List ℕ
result_type None = 0 ∷ []
result_type (Some t) = 1 ∷ value_type t

-- a type of a function (5.3.3)
abbrev pub function_type : FuncType → List ℕ
function_type t = 0x60 ∷ vector value_type t.params ++ result_type t.result

-- a least number, and a greatest one where there is one
abbrev pub bounds : ℕ → Option ℕ → List ℕ
bounds least None = 0 ∷ unsigned least
bounds least (Some greatest) = 1 ∷ unsigned least ++ unsigned greatest

-- limits (5.3.4), which are the type of a memory too (5.3.5)
abbrev pub limits : Limits → List ℕ
limits l = bounds l.least l.greatest

-- a type of a table, whose items are functions (5.3.6)
abbrev pub table_type : Limits → List ℕ
table_type l = 0x70 ∷ limits l

-- whether a global may be written (5.3.7)
abbrev pub mutability : Bool → List ℕ
mutability false = 0 ∷ []
mutability true = 1 ∷ []

-- the type of a block's result, where it has one (5.3.2)
abbrev pub block_type : Option ValType → List ℕ
block_type None = 0x40 ∷ []
block_type (Some t) = value_type t

-- what stands behind an opcode
abbrev pub immediate : Immediate → List ℕ
immediate Nothing = []
immediate (BlockType result) = block_type result
immediate (Index index) = unsigned index
immediate (Labels labels default) = vector unsigned labels ++ unsigned default
immediate (IndexAndZero index) = unsigned index ++ 0x00 ∷ []
immediate Zero = 0x00 ∷ []
immediate (Memory at) = unsigned at.align ++ unsigned at.offset
immediate (Signed32 z) = signed z
immediate (Signed64 z) = signed z

-- an instruction (5.4)
abbrev pub instruction : Instr → List ℕ
instruction i = opcode i ∷ immediate (immediate_of i)

-- an expression (5.4.6), whose list of instructions has its end too
abbrev pub expression : List Instr → List ℕ
expression instrs = flat_map instruction instrs

-- an imported function (5.5.5)
abbrev pub function_import : FuncImport → List ℕ
function_import i = byte_vector i.module ++ byte_vector i.field ++ 0x00 ∷ unsigned i.ty

-- a global (5.5.9)
abbrev pub global : GlobalDef → List ℕ
global g = value_type g.ty ++ mutability g.mutable ++ expression g.init

-- an export (5.5.10)
abbrev pub export : ExportDef → List ℕ
export e = byte_vector e.name ++ e.kind ∷ unsigned e.index

-- the functions that a part of a table begins with (5.5.12)
abbrev pub element : Element → List ℕ
element e = unsigned e.table ++ expression e.at ++ vector unsigned e.funcs

-- a run of locals of one type (5.5.13)
abbrev pub local_run : ℕ × ValType → List ℕ
local_run run = unsigned run.0 ++ value_type run.1

-- the locals and the code of a function
abbrev pub body : CodeBody → List ℕ
body c = vector local_run c.locals ++ expression c.instrs

-- the same after its size
abbrev pub code : CodeBody → List ℕ
code c = byte_vector (body c)

-- the bytes that a part of a memory begins with (5.5.14)
abbrev pub data_segment : DataSegment → List ℕ
data_segment d = unsigned d.memory ++ expression d.at ++ byte_vector d.bytes

-- a section: its number, its size and its content (5.5.2)
abbrev pub section : ℕ → List ℕ → List ℕ
section id content = id ∷ byte_vector content

-- a section that is a list, left out where that is empty
abbrev pub list_section : {X : Type 0} → ℕ → (X → List ℕ) → List X → List ℕ
list_section id item [] = []
list_section id item (x ∷ xs) = section id (vector item (x ∷ xs))

-- the section of the function that runs first (5.5.11)
abbrev pub start_section : Option ℕ → List ℕ
start_section None = []
start_section (Some index) = section 8 (unsigned index)

-- the first four bytes and the version (5.5.15)
abbrev pub header : List ℕ
header = 0x00 ∷ 0x61 ∷ 0x73 ∷ 0x6D ∷ 0x01 ∷ 0x00 ∷ 0x00 ∷ 0x00 ∷ []

-- the sections before the function that runs first
unfoldable pub front_sections : Module → List ℕ
front_sections m =
    list_section 1 function_type m.types
    ++ list_section 2 function_import m.imports
    ++ list_section 3 unsigned m.funcs
    ++ list_section 4 table_type m.tables
    ++ list_section 5 limits m.memories
    ++ list_section 6 global m.globals
    ++ list_section 7 export m.exports

-- that function and the sections after it
unfoldable pub back_sections : Module → List ℕ
back_sections m =
    start_section m.start
    ++ list_section 9 element m.elements
    ++ list_section 10 code m.codes
    ++ list_section 11 data_segment m.datas

-- all bytes of a module
unfoldable pub spelling : Module → List ℕ
spelling m = header ++ front_sections m ++ back_sections m
