-- The shortest spelling of a module spells it.
use Rattle.std.proofs.Common.{ℕ, Bool, true, false, List, [], ◌∷◌, ◌++◌, length, Option, Some, None, refl, subst, inl, inr, arith, IfSome, lit<}
use Rattle.std.specs.List.{flat_map, AllByRecursion}
use Rattle.std.specs.Prelude.{IsUtf8}
use Rattle.std.proofs.lemmas.List.{append-nil}
use Rattle.std.proofs.lemmas.List.Elements.{recursion_from_All}
use Rattle.zw_wasm.specs.declared.module.ValType.{ValType}
use Rattle.zw_wasm.specs.declared.module.ValType.TheVariants.{I32, I64}
use Rattle.zw_wasm.specs.declared.module.FuncType.{FuncType}
use Rattle.zw_wasm.specs.declared.module.FuncImport.{FuncImport}
use Rattle.zw_wasm.specs.declared.module.Limits.{Limits}
use Rattle.zw_wasm.specs.declared.module.GlobalDef.{GlobalDef}
use Rattle.zw_wasm.specs.declared.module.ExportDef.{ExportDef}
use Rattle.zw_wasm.specs.declared.module.Element.{Element}
use Rattle.zw_wasm.specs.declared.module.DataSegment.{DataSegment}
use Rattle.zw_wasm.specs.declared.module.CodeBody.{CodeBody}
use Rattle.zw_wasm.specs.declared.module.Instr.{Instr}
use Rattle.zw_wasm.specs.declared.module.Module.{Module}
use Rattle.zw_leb.specs.Leb.{unsigned}
use Rattle.zw_wasm.specs.Opcodes.{Immediate, Nothing, BlockType, Index, Labels, IndexAndZero, Zero, Memory, Signed32, Signed64, opcode, immediate_of}
use Rattle.zw_wasm.specs.Spelling.{vector, byte_vector, value_type, result_type, function_type, bounds, limits, table_type, mutability, block_type, immediate, instruction, expression, function_import, global, export, element, local_run, body, code, data_segment, section, list_section, start_section, header, front_sections, back_sections, spelling}
use Rattle.zw_wasm.specs.ModuleBytes.{ModuleBytes, ◌⌢◌, IsHeader, InTurn, IsU32, EachInTurn, IsVector, IsByteVector, IsName, Sized, IsValueType, IsResultType, IsFunctionType, AreBounds, AreLimits, IsTableType, IsMutability, IsBlockType, IsImmediate, IsInstruction, IsExpression, EndsOnce, IsFunctionImport, IsGlobal, IsExport, IsElement, IsLocalRun, IsCode, IsDataSegment, IsSection, IsListSection, IsStartSection, AreCustomSections, Behind, AreFrontSections, AreBackSections}
use Rattle.zw_wasm.specs.Fits.{Fits, Fits32, Countable, FitsVector, FitsSection, FitsValueType, FitsLimits, FitsImmediate, FitsInstruction, FitsExpression, FitsFunctionType, FitsImport, FitsGlobal, FitsExport, FitsElement, FitsRun, FitsCode, FitsData, FitsFront, FitsBack}
use Rattle.zw_wasm.specs.WellFormed.{IsWellFormed, HasNames, IsWellFormedExport, IsWellFormedCode}
use Rattle.zw_leb.proofs.LebSpellings.{unsigned_spells, signed_spells, signed_spells_64, length-unsigned}

-- ---- lists and sizes

in_turn : {P Q : List ℕ → Type 0} (a b : List ℕ) → P a → Q b → InTurn P Q (a ++ b)
in_turn a b p q = record { front = a; back = b; first = p; second = q; whole = refl }

-- nothing is asked of the items
asks_nothing : {X : Type 0} (xs : List X) → AllByRecursion (λ (x : X). Unit {0}) xs
asks_nothing [] = tt
asks_nothing (x ∷ xs) = (tt, asks_nothing xs)

-- A kind of items with what stands for one, its spelling, and what that asks for.
record Kind (X : Type 0) : Type 1 where
  IsItem : X → List ℕ → Type 0
  item : X → List ℕ
  IsWell : X → Type 0
  FitsItem : X → Type 0
  spells : (x : X) → IsWell x → FitsItem x → IsItem x (item x)

each_spells : {X : Type 0} (k : Kind X) (xs : List X) → AllByRecursion k.IsWell xs → AllByRecursion k.FitsItem xs → EachInTurn k.IsItem xs (flat_map k.item xs)
each_spells k [] well fits = refl
each_spells k (x ∷ xs) well fits = in_turn (k.item x) (flat_map k.item xs) (k.spells x well.0 fits.0) (each_spells k xs well.1 fits.1)

vector_spells : {X : Type 0} (k : Kind X) (xs : List X) → AllByRecursion k.IsWell xs → FitsVector k.FitsItem xs → IsVector k.IsItem xs (vector k.item xs)
vector_spells k xs well fits = in_turn (unsigned (length xs)) (flat_map k.item xs) (unsigned_spells (length xs) fits.count) (each_spells k xs well (recursion_from_All k.FitsItem xs fits.each))

byte_vector_spells : (bytes : List ℕ) → Countable bytes → IsByteVector bytes (byte_vector bytes)
byte_vector_spells bytes count = in_turn (unsigned (length bytes)) bytes (unsigned_spells (length bytes) count) refl

name_spells : (name : List ℕ) → IsUtf8 name → Countable name → IsName name (byte_vector name)
name_spells name text count = record { text = text; vector = byte_vector_spells name count }

sized_spells : (P : List ℕ → Type 0) (content : List ℕ) → P content → Countable content → Sized P (byte_vector content)
sized_spells P content inside count = record { content = content; inside = inside; vector = byte_vector_spells content count }

section_spells : (id : ℕ) (P : List ℕ → Type 0) (content : List ℕ) → P content → Countable content → IsSection id P (section id content)
section_spells id P content inside count = in_turn (id ∷ []) (byte_vector content) refl (sized_spells P content inside count)

list_section_spells : {X : Type 0} (id : ℕ) (k : Kind X) (xs : List X) → AllByRecursion k.IsWell xs → FitsSection k.FitsItem k.item xs → IsListSection id k.IsItem xs (list_section id k.item xs)
list_section_spells id k [] well fits = inl (refl, refl)
list_section_spells id k (x ∷ xs) well fits = inr (section_spells id (IsVector k.IsItem (x ∷ xs)) (vector k.item (x ∷ xs)) (vector_spells k (x ∷ xs) well fits.items) fits.size)

-- ---- types

abbrev numbers : Kind ℕ
numbers = record { IsItem = IsU32; item = unsigned; IsWell = λ n. Unit {0}; FitsItem = Fits32; spells = λ n well fits. unsigned_spells n fits }

value_type_spells : (t : ValType) → IsValueType t (value_type t)
value_type_spells I32 = refl
value_type_spells I64 = refl

abbrev value_types : Kind ValType
value_types = record { IsItem = IsValueType; item = value_type; IsWell = λ t. Unit {0}; FitsItem = FitsValueType; spells = λ t well fits. value_type_spells t }

result_type_spells : (o : Option ValType) → IsResultType o (result_type o)
result_type_spells None = in_turn (0 ∷ []) [] (lit< tt, lit< tt, refl) refl
result_type_spells (Some I32) = in_turn (1 ∷ []) (0x7F ∷ []) (lit< tt, lit< tt, refl) (in_turn (0x7F ∷ []) [] refl refl)
result_type_spells (Some I64) = in_turn (1 ∷ []) (0x7E ∷ []) (lit< tt, lit< tt, refl) (in_turn (0x7E ∷ []) [] refl refl)

function_type_spells : (t : FuncType) → FitsFunctionType t → IsFunctionType t (function_type t)
function_type_spells t fits =
    in_turn (0x60 ∷ vector value_type t.params) (result_type t.result)
    (in_turn (0x60 ∷ []) (vector value_type t.params) refl (vector_spells value_types t.params (asks_nothing t.params) fits))
    (result_type_spells t.result)

abbrev function_types : Kind FuncType
function_types = record { IsItem = IsFunctionType; item = function_type; IsWell = λ t. Unit {0}; FitsItem = FitsFunctionType; spells = λ t well fits. function_type_spells t fits }

bounds_spell : (least : ℕ) (greatest : Option ℕ) → Fits32 least → IfSome greatest Fits32 → AreBounds least greatest (bounds least greatest)
bounds_spell least None low high = in_turn (0 ∷ []) (unsigned least) refl (unsigned_spells least low)
bounds_spell least (Some greatest) low high = in_turn (1 ∷ unsigned least) (unsigned greatest) (in_turn (1 ∷ []) (unsigned least) refl (unsigned_spells least low)) (unsigned_spells greatest high)

abbrev memories : Kind Limits
memories = record { IsItem = AreLimits; item = limits; IsWell = λ l. Unit {0}; FitsItem = FitsLimits; spells = λ l well fits. bounds_spell l.least l.greatest fits.least fits.greatest }

abbrev tables : Kind Limits
tables = record {
  IsItem = IsTableType;
  item = table_type;
  IsWell = λ l. Unit {0};
  FitsItem = FitsLimits;
  spells = λ l well fits. in_turn (0x70 ∷ []) (limits l) refl (bounds_spell l.least l.greatest fits.least fits.greatest);
}

mutability_spells : (b : Bool) → IsMutability b (mutability b)
mutability_spells false = refl
mutability_spells true = refl

-- ---- instructions

block_type_spells : (o : Option ValType) → IsBlockType o (block_type o)
block_type_spells None = refl
block_type_spells (Some t) = value_type_spells t

immediate_spells : (a : Immediate) → FitsImmediate a → IsImmediate a (immediate a)
immediate_spells Nothing fits = refl
immediate_spells (BlockType result) fits = block_type_spells result
immediate_spells (Index index) fits = unsigned_spells index fits
immediate_spells (Labels labels default) fits = in_turn (vector unsigned labels) (unsigned default) (vector_spells numbers labels (asks_nothing labels) fits.0) (unsigned_spells default fits.1)
immediate_spells (IndexAndZero index) fits = in_turn (unsigned index) (0x00 ∷ []) (unsigned_spells index fits) refl
immediate_spells Zero fits = refl
immediate_spells (Memory at) fits = in_turn (unsigned at.align) (unsigned at.offset) (unsigned_spells at.align fits.0) (unsigned_spells at.offset fits.1)
immediate_spells (Signed32 z) fits = signed_spells z fits
immediate_spells (Signed64 z) fits = signed_spells_64 z fits

instruction_spells : (i : Instr) → FitsInstruction i → IsInstruction i (instruction i)
instruction_spells i fits = in_turn (opcode i ∷ []) (immediate (immediate_of i)) refl (immediate_spells (immediate_of i) fits)

abbrev instructions : Kind Instr
instructions = record { IsItem = IsInstruction; item = instruction; IsWell = λ i. Unit {0}; FitsItem = FitsInstruction; spells = λ i well fits. instruction_spells i fits }

expression_spells : (instrs : List Instr) → EndsOnce instrs → FitsExpression instrs → IsExpression instrs (expression instrs)
expression_spells instrs ended fits = record { ended = ended; each = each_spells instructions instrs (asks_nothing instrs) (recursion_from_All FitsInstruction instrs fits) }

-- ---- entries

import_spells : (i : FuncImport) → HasNames i → FitsImport i → IsFunctionImport i (function_import i)
import_spells i well fits =
    in_turn (byte_vector i.module ++ byte_vector i.field) (0x00 ∷ unsigned i.ty)
    (in_turn (byte_vector i.module) (byte_vector i.field) (name_spells i.module well.0 fits.0) (name_spells i.field well.1 fits.1))
    (in_turn (0x00 ∷ []) (unsigned i.ty) refl (unsigned_spells i.ty fits.2))

abbrev imports : Kind FuncImport
imports = record { IsItem = IsFunctionImport; item = function_import; IsWell = HasNames; FitsItem = FitsImport; spells = import_spells }

global_spells : (g : GlobalDef) → EndsOnce g.init → FitsGlobal g → IsGlobal g (global g)
global_spells g ended fits =
    in_turn (value_type g.ty ++ mutability g.mutable) (expression g.init)
    (in_turn (value_type g.ty) (mutability g.mutable) (value_type_spells g.ty) (mutability_spells g.mutable))
    (expression_spells g.init ended fits)

abbrev globals : Kind GlobalDef
globals = record { IsItem = IsGlobal; item = global; IsWell = λ (g : GlobalDef). EndsOnce g.init; FitsItem = FitsGlobal; spells = global_spells }

export_spells : (e : ExportDef) → IsWellFormedExport e → FitsExport e → IsExport e (export e)
export_spells e well fits =
    in_turn (byte_vector e.name) (e.kind ∷ unsigned e.index) (name_spells e.name well.0 fits.0)
    (in_turn (e.kind ∷ []) (unsigned e.index) (record { known = well.1; byte = refl }) (unsigned_spells e.index fits.1))

abbrev exports : Kind ExportDef
exports = record { IsItem = IsExport; item = export; IsWell = IsWellFormedExport; FitsItem = FitsExport; spells = export_spells }

element_spells : (e : Element) → EndsOnce e.at → FitsElement e → IsElement e (element e)
element_spells e ended fits =
    in_turn (unsigned e.table ++ expression e.at) (vector unsigned e.funcs)
    (in_turn (unsigned e.table) (expression e.at) (unsigned_spells e.table fits.0) (expression_spells e.at ended fits.1))
    (vector_spells numbers e.funcs (asks_nothing e.funcs) fits.2)

abbrev elements : Kind Element
elements = record { IsItem = IsElement; item = element; IsWell = λ (e : Element). EndsOnce e.at; FitsItem = FitsElement; spells = element_spells }

local_run_spells : (run : ℕ × ValType) → FitsRun run → IsLocalRun run (local_run run)
local_run_spells run fits = in_turn (unsigned run.0) (value_type run.1) (unsigned_spells run.0 fits) (value_type_spells run.1)

abbrev local_runs : Kind (ℕ × ValType)
local_runs = record { IsItem = IsLocalRun; item = local_run; IsWell = λ (run : ℕ × ValType). Unit {0}; FitsItem = FitsRun; spells = λ run well fits. local_run_spells run fits }

code_spells : (c : CodeBody) → IsWellFormedCode c → FitsCode c → IsCode c (code c)
code_spells c well fits = record {
  few_locals = well.0;
  sized = sized_spells _ (body c)
      (in_turn (vector local_run c.locals) (expression c.instrs)
      (vector_spells local_runs c.locals (asks_nothing c.locals) fits.0)
      (expression_spells c.instrs well.1 fits.1))
      fits.2;
}

abbrev codes : Kind CodeBody
codes = record { IsItem = IsCode; item = code; IsWell = IsWellFormedCode; FitsItem = FitsCode; spells = code_spells }

data_segment_spells : (d : DataSegment) → EndsOnce d.at → FitsData d → IsDataSegment d (data_segment d)
data_segment_spells d ended fits =
    in_turn (unsigned d.memory ++ expression d.at) (byte_vector d.bytes)
    (in_turn (unsigned d.memory) (expression d.at) (unsigned_spells d.memory fits.0) (expression_spells d.at ended fits.1))
    (byte_vector_spells d.bytes fits.2)

abbrev datas : Kind DataSegment
datas = record { IsItem = IsDataSegment; item = data_segment; IsWell = λ (d : DataSegment). EndsOnce d.at; FitsItem = FitsData; spells = data_segment_spells }

-- ---- sections

start_section_spells : (start : Option ℕ) → IfSome start Fits32 → IsStartSection start (start_section start)
start_section_spells None fits = refl
start_section_spells (Some index) fits = section_spells 8 (IsU32 index) (unsigned index) (unsigned_spells index fits) (omega (arith, length-unsigned index))

no_custom_sections : AreCustomSections []
no_custom_sections = record { sections = []; each = tt; whole = refl }

behind : (P : List ℕ → Type 0) (bytes : List ℕ) → P bytes → Behind P bytes
behind P bytes p = in_turn [] bytes no_custom_sections p

-- a section in its place
placed : {X : Type 0} (id : ℕ) (k : Kind X) (xs : List X) → AllByRecursion k.IsWell xs → FitsSection k.FitsItem k.item xs → Behind (IsListSection id k.IsItem xs) (list_section id k.item xs)
placed id k xs well fits = behind (IsListSection id k.IsItem xs) (list_section id k.item xs) (list_section_spells id k xs well fits)

front_sections_spell : (m : Module) → IsWellFormed m → FitsFront m → AreFrontSections m (front_sections m)
unfolding front_sections
front_sections_spell m well fits =
    in_turn _ (list_section 7 export m.exports)
    (in_turn _ (list_section 6 global m.globals)
    (in_turn _ (list_section 5 limits m.memories)
    (in_turn _ (list_section 4 table_type m.tables)
    (in_turn _ (list_section 3 unsigned m.funcs)
    (in_turn (list_section 1 function_type m.types) (list_section 2 function_import m.imports)
    (placed 1 function_types m.types (asks_nothing m.types) fits.types)
    (placed 2 imports m.imports well.imports fits.imports))
    (placed 3 numbers m.funcs (asks_nothing m.funcs) fits.funcs))
    (placed 4 tables m.tables (asks_nothing m.tables) fits.tables))
    (placed 5 memories m.memories (asks_nothing m.memories) fits.memories))
    (placed 6 globals m.globals well.globals fits.globals))
    (placed 7 exports m.exports well.exports fits.exports)

back_sections_spell : (m : Module) → IsWellFormed m → FitsBack m → AreBackSections m (back_sections m)
unfolding back_sections
back_sections_spell m well fits =
    in_turn _ (list_section 11 data_segment m.datas)
    (in_turn _ (list_section 10 code m.codes)
    (in_turn (start_section m.start) (list_section 9 element m.elements)
    (behind (IsStartSection m.start) (start_section m.start) (start_section_spells m.start fits.start))
    (placed 9 elements m.elements well.elements fits.elements))
    (placed 10 codes m.codes well.codes fits.codes))
    (placed 11 datas m.datas well.datas fits.datas)

-- the shortest spelling of a module spells it
pub encodes : (m : Module) → IsWellFormed m → Fits m → ModuleBytes m (spelling m)
unfolding spelling
encodes m well fits = record {
  same_count = well.same_count;
  sections = subst (λ (bytes : List ℕ). InTurn (IsHeader ⌢ AreFrontSections m ⌢ AreBackSections m) AreCustomSections bytes) (append-nil (header ++ front_sections m ++ back_sections m))
      (in_turn (header ++ front_sections m ++ back_sections m) []
      (in_turn (header ++ front_sections m) (back_sections m)
      (in_turn header (front_sections m) refl (front_sections_spell m well fits.0))
      (back_sections_spell m well fits.1))
      no_custom_sections);
}
