-- Which bytes spell a module (WebAssembly Core Specification 1.0, chapter 5, for the integer profile): each number in
-- any of its spellings, custom sections between the others, and a section without entries there or left out.
use Rattle.std.specs.Prelude.{◌≡◌, ◌⊎◌, ℕ, ◌<◌, ◌^◌, ℤ, Bool, true, false, List, [], ◌∷◌, ◌++◌, length, Option, Some, None, IsUtf8}
use Rattle.std.specs.List.{concat, sum_by, AllByRecursion}
use Rattle.zw_wasm.specs.declared.module.ValType.{ValType}
use Rattle.zw_wasm.specs.declared.module.ValType.TheVariants.{I32, I64}
use Rattle.zw_wasm.specs.declared.module.FuncType.{FuncType}
use Rattle.zw_wasm.specs.declared.module.FuncImport.{FuncImport}
use Rattle.zw_wasm.specs.declared.module.Limits.{Limits}
use Rattle.zw_wasm.specs.declared.module.GlobalDef.{GlobalDef}
use Rattle.zw_wasm.specs.declared.module.ExportDef.{ExportDef}
use Rattle.zw_wasm.specs.declared.module.Element.{Element}
use Rattle.zw_wasm.specs.declared.module.DataSegment.{DataSegment}
use Rattle.zw_wasm.specs.declared.module.CodeBody.{CodeBody}
use Rattle.zw_wasm.specs.declared.module.Instr.{Instr}
use Rattle.zw_wasm.specs.declared.module.Instr.TheVariants.{Block, Loop, If, Else, End}
use Rattle.zw_wasm.specs.declared.module.Module.{Module}
use Rattle.zw_leb.specs.Leb.{IsUnsigned, IsSigned}
use Rattle.zw_wasm.specs.Opcodes.{Immediate, Nothing, BlockType, Index, Labels, IndexAndZero, Zero, Memory, Signed32, Signed64, opcode, immediate_of}

-- ---- what bytes may be

-- these bytes and no others
abbrev pub Exactly : List ℕ → List ℕ → Type 0
Exactly expected bytes = bytes ≡ expected

-- any bytes
abbrev pub Anything : List ℕ → Type 0
Anything bytes = Unit {0}

-- a front of the one kind, and after it a back of the other
pub record InTurn (P Q : List ℕ → Type 0) (bytes : List ℕ) : Type 0 where
  pub front : List ℕ
  pub back : List ℕ
  pub first : P front
  pub second : Q back
  pub whole : bytes ≡ front ++ back

infixl 20 ◌⌢◌
abbrev pub ◌⌢◌ : (List ℕ → Type 0) → (List ℕ → Type 0) → List ℕ → Type 0
P ⌢ Q = InTurn P Q

-- one byte
abbrev pub Byte : ℕ → List ℕ → Type 0
Byte b = Exactly (b ∷ [])

-- an unsigned number of 32 bits (5.2.2)
abbrev pub IsU32 : ℕ → List ℕ → Type 0
IsU32 n bytes = IsUnsigned 32 bytes n

-- a signed number of 32 bits
abbrev pub IsS32 : ℤ → List ℕ → Type 0
IsS32 z bytes = IsSigned 32 bytes z

-- a signed number of 64 bits
abbrev pub IsS64 : ℤ → List ℕ → Type 0
IsS64 z bytes = IsSigned 64 bytes z

-- what stands for each item, one after another
abbrev pub EachInTurn : {X : Type 0} → (X → List ℕ → Type 0) → List X → List ℕ → Type 0
EachInTurn IsItem [] = Exactly []
EachInTurn IsItem (x ∷ xs) = IsItem x ⌢ EachInTurn IsItem xs

-- a vector: the number of its items, and then these (5.1.3)
abbrev pub IsVector : {X : Type 0} → (X → List ℕ → Type 0) → List X → List ℕ → Type 0
IsVector IsItem xs = IsU32 (length xs) ⌢ EachInTurn IsItem xs

-- a vector of bytes
abbrev pub IsByteVector : List ℕ → List ℕ → Type 0
IsByteVector content = IsU32 (length content) ⌢ Exactly content

-- a name, which is a text in UTF-8 (5.2.4)
pub record IsName (name : List ℕ) (bytes : List ℕ) : Type 0 where
  pub text : IsUtf8 name
  pub vector : IsByteVector name bytes

-- what is of the kind P, after its size in bytes
pub record Sized (P : List ℕ → Type 0) (bytes : List ℕ) : Type 0 where
  pub content : List ℕ
  pub inside : P content
  pub vector : IsByteVector content bytes

-- ---- types

-- a type of a value (5.3.1)
abbrev pub IsValueType : ValType → List ℕ → Type 0
IsValueType I32 = Byte 0x7F
IsValueType I64 = Byte 0x7E

-- the result of a function, of which there is at most one (5.3.3)
abbrev pub IsResultType : Option ValType → List ℕ → Type 0
IsResultType None = IsVector IsValueType []
IsResultType (Some t) = IsVector IsValueType (t ∷ [])

-- a type of a function (5.3.3)
abbrev pub IsFunctionType : FuncType → List ℕ → Type 0
IsFunctionType t = Byte 0x60 ⌢ IsVector IsValueType t.params ⌢ IsResultType t.result

-- a least number, and a greatest one where there is one
abbrev pub AreBounds : ℕ → Option ℕ → List ℕ → Type 0
AreBounds least None = Byte 0x00 ⌢ IsU32 least
AreBounds least (Some greatest) = Byte 0x01 ⌢ IsU32 least ⌢ IsU32 greatest

-- limits (5.3.4), which are the type of a memory too (5.3.5)
abbrev pub AreLimits : Limits → List ℕ → Type 0
AreLimits l = AreBounds l.least l.greatest

-- a type of a table, whose items are functions (5.3.6)
abbrev pub IsTableType : Limits → List ℕ → Type 0
IsTableType l = Byte 0x70 ⌢ AreLimits l

-- whether a global may be written (5.3.7)
abbrev pub IsMutability : Bool → List ℕ → Type 0
IsMutability false = Byte 0x00
IsMutability true = Byte 0x01

-- ---- instructions

-- the type of a block's result, where it has one (5.3.2)
abbrev pub IsBlockType : Option ValType → List ℕ → Type 0
IsBlockType None = Byte 0x40
IsBlockType (Some t) = IsValueType t

-- what stands behind an opcode
abbrev pub IsImmediate : Immediate → List ℕ → Type 0
IsImmediate Nothing = Exactly []
IsImmediate (BlockType result) = IsBlockType result
IsImmediate (Index index) = IsU32 index
IsImmediate (Labels labels default) = IsVector IsU32 labels ⌢ IsU32 default
IsImmediate (IndexAndZero index) = IsU32 index ⌢ Byte 0x00
IsImmediate Zero = Byte 0x00
IsImmediate (Memory at) = IsU32 at.align ⌢ IsU32 at.offset
IsImmediate (Signed32 z) = IsS32 z
IsImmediate (Signed64 z) = IsS64 z

-- an instruction (5.4)
abbrev pub IsInstruction : Instr → List ℕ → Type 0
IsInstruction i = Byte (opcode i) ⌢ IsImmediate (immediate_of i)

-- Instructions up to the end of the sequence that they are in, and nothing behind it. For each sequence inside it that
-- is open stands whether its `else` may come: it may once, behind an `if` (5.4.1).
abbrev pub ClosesIn : List Bool → List Instr → Type 0
ClosesIn open_ifs [] = ⊥
ClosesIn open_ifs (Block result ∷ instrs) = ClosesIn (false ∷ open_ifs) instrs
ClosesIn open_ifs (Loop result ∷ instrs) = ClosesIn (false ∷ open_ifs) instrs
ClosesIn open_ifs (If result ∷ instrs) = ClosesIn (true ∷ open_ifs) instrs
ClosesIn (true ∷ outer) (Else ∷ instrs) = ClosesIn (false ∷ outer) instrs
ClosesIn open_ifs (Else ∷ instrs) = ⊥
ClosesIn [] (End ∷ instrs) = instrs ≡ []
ClosesIn (may_else ∷ outer) (End ∷ instrs) = ClosesIn outer instrs
ClosesIn open_ifs (i ∷ instrs) = ClosesIn open_ifs instrs

-- a list of instructions ends where its own end stands
abbrev pub EndsOnce : List Instr → Type 0
EndsOnce instrs = ClosesIn [] instrs

-- an expression (5.4.6)
pub record IsExpression (instrs : List Instr) (bytes : List ℕ) : Type 0 where
  pub ended : EndsOnce instrs
  pub each : EachInTurn IsInstruction instrs bytes

-- ---- entries of sections

-- an imported function (5.5.5)
abbrev pub IsFunctionImport : FuncImport → List ℕ → Type 0
IsFunctionImport i = IsName i.module ⌢ IsName i.field ⌢ (Byte 0x00 ⌢ IsU32 i.ty)

-- a global (5.5.9)
abbrev pub IsGlobal : GlobalDef → List ℕ → Type 0
IsGlobal g = IsValueType g.ty ⌢ IsMutability g.mutable ⌢ IsExpression g.init

-- what an export is of: a function, a table, a memory or a global
pub record IsExportKind (kind : ℕ) (bytes : List ℕ) : Type 0 where
  pub known : kind < 4
  pub byte : Byte kind bytes

-- an export (5.5.10)
abbrev pub IsExport : ExportDef → List ℕ → Type 0
IsExport e = IsName e.name ⌢ (IsExportKind e.kind ⌢ IsU32 e.index)

-- the functions that a part of a table begins with (5.5.12)
abbrev pub IsElement : Element → List ℕ → Type 0
IsElement e = IsU32 e.table ⌢ IsExpression e.at ⌢ IsVector IsU32 e.funcs

-- a run of locals of one type (5.5.13)
abbrev pub IsLocalRun : ℕ × ValType → List ℕ → Type 0
IsLocalRun run = IsU32 run.0 ⌢ IsValueType run.1

-- how many locals the runs have in all
abbrev pub local_count : List (ℕ × ValType) → ℕ
local_count runs = sum_by (λ (run : ℕ × ValType). run.0) runs

-- the locals and the code of a function, after their size
pub record IsCode (c : CodeBody) (bytes : List ℕ) : Type 0 where
  pub few_locals : local_count c.locals < 2 ^ 32
  pub sized : Sized (IsVector IsLocalRun c.locals ⌢ IsExpression c.instrs) bytes

-- the bytes that a part of a memory begins with (5.5.14)
abbrev pub IsDataSegment : DataSegment → List ℕ → Type 0
IsDataSegment d = IsU32 d.memory ⌢ IsExpression d.at ⌢ IsByteVector d.bytes

-- ---- sections

-- a section: its number, its size and its content (5.5.2)
abbrev pub IsSection : ℕ → (List ℕ → Type 0) → List ℕ → Type 0
IsSection id P = Byte id ⌢ Sized P

-- a section that is a vector, which may be left out where that is empty
abbrev pub IsListSection : {X : Type 0} → ℕ → (X → List ℕ → Type 0) → List X → List ℕ → Type 0
IsListSection id IsItem xs bytes = ((xs ≡ []) × (bytes ≡ [])) ⊎ IsSection id (IsVector IsItem xs) bytes

-- the section of the function that runs first (5.5.11)
abbrev pub IsStartSection : Option ℕ → List ℕ → Type 0
IsStartSection None = Exactly []
IsStartSection (Some index) = IsSection 8 (IsU32 index)

-- some name
abbrev pub IsSomeName : List ℕ → Type 0
IsSomeName bytes = (name : List ℕ) × IsName name bytes

-- a custom section, whose content is a name and any bytes (5.5.3)
abbrev pub IsCustomSection : List ℕ → Type 0
IsCustomSection = IsSection 0 (IsSomeName ⌢ Anything)

-- any number of custom sections
pub record AreCustomSections (bytes : List ℕ) : Type 0 where
  pub sections : List (List ℕ)
  pub each : AllByRecursion IsCustomSection sections
  pub whole : bytes ≡ concat sections

-- a section, with custom sections before it
abbrev pub Behind : (List ℕ → Type 0) → List ℕ → Type 0
Behind P = AreCustomSections ⌢ P

-- the sections before that of the function that runs first
abbrev pub AreFrontSections : Module → List ℕ → Type 0
AreFrontSections m =
    Behind (IsListSection 1 IsFunctionType m.types)
    ⌢ Behind (IsListSection 2 IsFunctionImport m.imports)
    ⌢ Behind (IsListSection 3 IsU32 m.funcs)
    ⌢ Behind (IsListSection 4 IsTableType m.tables)
    ⌢ Behind (IsListSection 5 AreLimits m.memories)
    ⌢ Behind (IsListSection 6 IsGlobal m.globals)
    ⌢ Behind (IsListSection 7 IsExport m.exports)

-- that function's section and those after it
abbrev pub AreBackSections : Module → List ℕ → Type 0
AreBackSections m =
    Behind (IsStartSection m.start)
    ⌢ Behind (IsListSection 9 IsElement m.elements)
    ⌢ Behind (IsListSection 10 IsCode m.codes)
    ⌢ Behind (IsListSection 11 IsDataSegment m.datas)

-- the first four bytes and the version (5.5.15)
abbrev pub IsHeader : List ℕ → Type 0
IsHeader = Exactly (0x00 ∷ 0x61 ∷ 0x73 ∷ 0x6D ∷ 0x01 ∷ 0x00 ∷ 0x00 ∷ 0x00 ∷ [])

-- The bytes spell the module (5.5.15). Custom sections are not kept. Each function of the module has its code.
pub record ModuleBytes (m : Module) (bytes : List ℕ) : Type 0 where
  pub same_count : length m.funcs ≡ length m.codes
  pub sections : (IsHeader ⌢ AreFrontSections m ⌢ AreBackSections m ⌢ AreCustomSections) bytes
