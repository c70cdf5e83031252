-- What 32 bits have room for in the bytes of a module: its numbers, the numbers of its items, and its sizes.
use Rattle.std.specs.Prelude.{ℕ, ◌<◌, ◌^◌, List, length, All, IfSome, FitsSigned}
use Rattle.std.specs.Int.{w32, w64}
use Rattle.zw_wasm.specs.declared.module.ValType.{ValType}
use Rattle.zw_wasm.specs.declared.module.FuncType.{FuncType}
use Rattle.zw_wasm.specs.declared.module.FuncImport.{FuncImport}
use Rattle.zw_wasm.specs.declared.module.Limits.{Limits}
use Rattle.zw_wasm.specs.declared.module.GlobalDef.{GlobalDef}
use Rattle.zw_wasm.specs.declared.module.ExportDef.{ExportDef}
use Rattle.zw_wasm.specs.declared.module.Element.{Element}
use Rattle.zw_wasm.specs.declared.module.DataSegment.{DataSegment}
use Rattle.zw_wasm.specs.declared.module.CodeBody.{CodeBody}
use Rattle.zw_wasm.specs.declared.module.Instr.{Instr}
use Rattle.zw_wasm.specs.declared.module.Module.{Module}
use Rattle.zw_leb.specs.Leb.{unsigned}
use Rattle.zw_wasm.specs.Opcodes.{Immediate, Nothing, BlockType, Index, Labels, IndexAndZero, Zero, Memory, Signed32, Signed64, immediate_of}
use Rattle.zw_wasm.specs.Spelling.{vector, function_type, table_type, limits, global, function_import, export, element, code, body, data_segment}

-- a number of 32 bits
abbrev pub Fits32 : ℕ → Type 0
Fits32 n = n < 2 ^ 32

-- a list of so few items that 32 bits count them
abbrev pub Countable : {X : Type 0} → List X → Type 0
Countable xs = Fits32 (length xs)

-- a list of so few items that fit, too
pub record FitsVector {X : Type 0} (FitsItem : X → Type 0) (xs : List X) : Type 0 where
  pub count : Countable xs
  pub each : All FitsItem xs

-- such a list whose bytes have a size of 32 bits, as the content of a section
pub record FitsSection {X : Type 0} (FitsItem : X → Type 0) (item : X → List ℕ) (xs : List X) : Type 0 where
  pub items : FitsVector FitsItem xs
  pub size : Countable (vector item xs)

-- a type of a value has no number
abbrev pub FitsValueType : ValType → Type 0
FitsValueType t = Unit {0}

abbrev pub FitsFunctionType : FuncType → Type 0
FitsFunctionType t = FitsVector FitsValueType t.params

pub record FitsLimits (l : Limits) : Type 0 where
  pub least : Fits32 l.least
  pub greatest : IfSome l.greatest Fits32

abbrev pub FitsImmediate : Immediate → Type 0
FitsImmediate Nothing = Unit {0}
FitsImmediate (BlockType result) = Unit {0}
FitsImmediate (Index index) = Fits32 index
FitsImmediate (Labels labels default) = FitsVector Fits32 labels × Fits32 default
FitsImmediate (IndexAndZero index) = Fits32 index
FitsImmediate Zero = Unit {0}
FitsImmediate (Memory at) = Fits32 at.align × Fits32 at.offset
FitsImmediate (Signed32 z) = FitsSigned w32 z
FitsImmediate (Signed64 z) = FitsSigned w64 z

abbrev pub FitsInstruction : Instr → Type 0
FitsInstruction i = FitsImmediate (immediate_of i)

abbrev pub FitsExpression : List Instr → Type 0
FitsExpression instrs = All FitsInstruction instrs

abbrev pub FitsImport : FuncImport → Type 0
FitsImport i = Countable i.module × Countable i.field × Fits32 i.ty

abbrev pub FitsGlobal : GlobalDef → Type 0
FitsGlobal g = FitsExpression g.init

abbrev pub FitsExport : ExportDef → Type 0
FitsExport e = Countable e.name × Fits32 e.index

abbrev pub FitsElement : Element → Type 0
FitsElement e = Fits32 e.table × FitsExpression e.at × FitsVector Fits32 e.funcs

abbrev pub FitsRun : ℕ × ValType → Type 0
FitsRun run = Fits32 run.0

abbrev pub FitsCode : CodeBody → Type 0
FitsCode c = FitsVector FitsRun c.locals × FitsExpression c.instrs × Countable (body c)

abbrev pub FitsData : DataSegment → Type 0
FitsData d = Fits32 d.memory × FitsExpression d.at × Countable d.bytes

pub record FitsFront (m : Module) : Type 0 where
  pub types : FitsSection FitsFunctionType function_type m.types
  pub imports : FitsSection FitsImport function_import m.imports
  pub funcs : FitsSection Fits32 unsigned m.funcs
  pub tables : FitsSection FitsLimits table_type m.tables
  pub memories : FitsSection FitsLimits limits m.memories
  pub globals : FitsSection FitsGlobal global m.globals
  pub exports : FitsSection FitsExport export m.exports

pub record FitsBack (m : Module) : Type 0 where
  pub start : IfSome m.start Fits32
  pub elements : FitsSection FitsElement element m.elements
  pub codes : FitsSection FitsCode code m.codes
  pub datas : FitsSection FitsData data_segment m.datas

-- all of the module
abbrev pub Fits : Module → Type 0
Fits m = FitsFront m × FitsBack m
