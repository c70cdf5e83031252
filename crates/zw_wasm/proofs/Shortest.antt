-- A module that has bytes is well formed and fits, and no bytes of it are fewer than its shortest spelling.
use Rattle.std.proofs.Common.{ℕ, ◌≤◌, Bool, true, false, List, [], ◌∷◌, ◌++◌, length, Option, Some, None, refl, ap, inl, inr, arith, IfSome, length-append}
use Rattle.std.specs.List.{flat_map, AllByRecursion}
use Rattle.std.proofs.lemmas.List.Elements.{All-from_recursion}
use Rattle.zw_wasm.specs.declared.module.ValType.{ValType}
use Rattle.zw_wasm.specs.declared.module.ValType.TheVariants.{I32, I64}
use Rattle.zw_wasm.specs.declared.module.FuncType.{FuncType}
use Rattle.zw_wasm.specs.declared.module.FuncImport.{FuncImport}
use Rattle.zw_wasm.specs.declared.module.Limits.{Limits}
use Rattle.zw_wasm.specs.declared.module.GlobalDef.{GlobalDef}
use Rattle.zw_wasm.specs.declared.module.ExportDef.{ExportDef}
use Rattle.zw_wasm.specs.declared.module.Element.{Element}
use Rattle.zw_wasm.specs.declared.module.DataSegment.{DataSegment}
use Rattle.zw_wasm.specs.declared.module.CodeBody.{CodeBody}
use Rattle.zw_wasm.specs.declared.module.Instr.{Instr}
use Rattle.zw_wasm.specs.declared.module.Module.{Module}
use Rattle.zw_leb.specs.Leb.{unsigned}
use Rattle.zw_wasm.specs.Opcodes.{Immediate, Nothing, BlockType, Index, Labels, IndexAndZero, Zero, Memory, Signed32, Signed64, opcode, immediate_of}
use Rattle.zw_wasm.specs.Spelling.{vector, byte_vector, value_type, result_type, function_type, bounds, limits, table_type, mutability, block_type, immediate, instruction, expression, function_import, global, export, element, local_run, body, code, data_segment, section, list_section, start_section, header, front_sections, back_sections, spelling}
use Rattle.zw_wasm.specs.ModuleBytes.{ModuleBytes, InTurn, Byte, IsU32, EachInTurn, IsVector, IsByteVector, IsName, Sized, IsValueType, IsResultType, IsFunctionType, AreBounds, AreLimits, IsTableType, IsMutability, IsBlockType, IsImmediate, IsInstruction, IsExpression, EndsOnce, IsFunctionImport, IsGlobal, IsExport, IsElement, IsLocalRun, IsCode, IsDataSegment, IsSection, IsListSection, IsStartSection, Behind, AreFrontSections, AreBackSections}
use Rattle.zw_wasm.specs.Fits.{Fits, Fits32, Countable, FitsVector, FitsSection, FitsValueType, FitsLimits, FitsImmediate, FitsInstruction, FitsExpression, FitsFunctionType, FitsImport, FitsGlobal, FitsExport, FitsElement, FitsRun, FitsCode, FitsData, FitsFront, FitsBack}
use Rattle.zw_wasm.specs.WellFormed.{IsWellFormed, HasNames, IsWellFormedExport, IsWellFormedCode}
use Rattle.zw_leb.proofs.LebSpellings.{below_32_bits}
use Rattle.zw_leb.proofs.ShortestNumbers.{unsigned_grows, unsigned_shortest, some_byte, signed_shortest, within_32_bits, within_64_bits}
use Rattle.zw_wasm.proofs.Lists.{no_entries}
use Rattle.zw_wasm.proofs.Encodes.{encodes}

-- ---- lists and sizes

-- what is no longer than either part is no longer than both
both : {P Q : List ℕ → Type 0} (p q bytes : List ℕ) (t : InTurn P Q bytes) → length p ≤ length t.front → length q ≤ length t.back → length (p ++ q) ≤ length bytes
both p q bytes t in_front in_back = omega (arith, length-append p q, length-append t.front t.back, ap length t.whole)

byte_shortest : (b : ℕ) (bytes : List ℕ) → Byte b bytes → length (b ∷ []) ≤ length bytes
byte_shortest b bytes e = omega (arith, ap length e)

-- A kind of items with what stands for one, its spelling, and what each of its bytes tells of it.
record Kind (X : Type 0) : Type 1 where
  IsItem : X → List ℕ → Type 0
  item : X → List ℕ
  IsWell : X → Type 0
  FitsItem : X → Type 0
  shortest : (x : X) (bytes : List ℕ) → IsItem x bytes → length (item x) ≤ length bytes
  well : (x : X) (bytes : List ℕ) → IsItem x bytes → IsWell x
  fits : (x : X) (bytes : List ℕ) → IsItem x bytes → FitsItem x

each_shortest : {X : Type 0} (k : Kind X) (xs : List X) (bytes : List ℕ) → EachInTurn k.IsItem xs bytes → length (flat_map k.item xs) ≤ length bytes
each_shortest k [] bytes e = omega arith
each_shortest k (x ∷ xs) bytes t = both (k.item x) (flat_map k.item xs) bytes t (k.shortest x t.front t.first) (each_shortest k xs t.back t.second)

each_well : {X : Type 0} (k : Kind X) (xs : List X) (bytes : List ℕ) → EachInTurn k.IsItem xs bytes → AllByRecursion k.IsWell xs
each_well k [] bytes e = tt
each_well k (x ∷ xs) bytes t = (k.well x t.front t.first, each_well k xs t.back t.second)

each_fits : {X : Type 0} (k : Kind X) (xs : List X) (bytes : List ℕ) → EachInTurn k.IsItem xs bytes → AllByRecursion k.FitsItem xs
each_fits k [] bytes e = tt
each_fits k (x ∷ xs) bytes t = (k.fits x t.front t.first, each_fits k xs t.back t.second)

vector_shortest : {X : Type 0} (k : Kind X) (xs : List X) (bytes : List ℕ) → IsVector k.IsItem xs bytes → length (vector k.item xs) ≤ length bytes
vector_shortest k xs bytes t = both (unsigned (length xs)) (flat_map k.item xs) bytes t (unsigned_shortest 32 t.front (length xs) t.first) (each_shortest k xs t.back t.second)

vector_fits : {X : Type 0} (k : Kind X) (xs : List X) (bytes : List ℕ) → IsVector k.IsItem xs bytes → FitsVector k.FitsItem xs
vector_fits k xs bytes t = record { count = below_32_bits t.front (length xs) t.first; each = All-from_recursion k.FitsItem xs (each_fits k xs t.back t.second) }

byte_vector_shortest : (content bytes : List ℕ) → IsByteVector content bytes → length (byte_vector content) ≤ length bytes
byte_vector_shortest content bytes t = both (unsigned (length content)) content bytes t (unsigned_shortest 32 t.front (length content) t.first) (omega (arith, ap length t.second))

byte_vector_fits : (content bytes : List ℕ) → IsByteVector content bytes → Countable content
byte_vector_fits content bytes t = below_32_bits t.front (length content) t.first

-- a longer content has a size that is no shorter
byte_vector_grows : (a b : List ℕ) → length a ≤ length b → length (byte_vector a) ≤ length (byte_vector b)
byte_vector_grows a b h = omega (arith, length-append (unsigned (length a)) a, length-append (unsigned (length b)) b, unsigned_grows (length a) (length b) h)

sized_shortest : {P : List ℕ → Type 0} (content bytes : List ℕ) (s : Sized P bytes) → length content ≤ length s.content → length (byte_vector content) ≤ length bytes
sized_shortest content bytes s h = omega (arith, byte_vector_grows content s.content h, byte_vector_shortest s.content bytes s.vector)

sized_fits : {P : List ℕ → Type 0} (content bytes : List ℕ) (s : Sized P bytes) → length content ≤ length s.content → Countable content
sized_fits content bytes s h = omega (arith, byte_vector_fits s.content bytes s.vector)

section_shortest : {P : List ℕ → Type 0} (id : ℕ) (content bytes : List ℕ) (t : IsSection id P bytes) → length content ≤ length t.second.content → length (section id content) ≤ length bytes
section_shortest id content bytes t h = both (id ∷ []) (byte_vector content) bytes t (byte_shortest id t.front t.first) (sized_shortest content t.back t.second h)

-- ---- sections that are lists, with custom sections before them

list_section_shortest : {X : Type 0} (id : ℕ) (k : Kind X) (xs : List X) (bytes : List ℕ) → IsListSection id k.IsItem xs bytes → length (list_section id k.item xs) ≤ length bytes
list_section_shortest id k [] bytes s = omega arith
list_section_shortest id k (x ∷ xs) bytes (inl e) = let no_item = e.0 in absurd cc
list_section_shortest id k (x ∷ xs) bytes (inr t) = section_shortest id (vector k.item (x ∷ xs)) bytes t (vector_shortest k (x ∷ xs) t.second.content t.second.inside)

list_section_well : {X : Type 0} (id : ℕ) (k : Kind X) (xs : List X) (bytes : List ℕ) → IsListSection id k.IsItem xs bytes → AllByRecursion k.IsWell xs
list_section_well id k [] bytes s = tt
list_section_well id k (x ∷ xs) bytes (inl e) = let no_item = e.0 in absurd cc
list_section_well id k (x ∷ xs) bytes (inr t) = let v = t.second.inside in each_well k (x ∷ xs) v.back v.second

list_section_fits : {X : Type 0} (id : ℕ) (k : Kind X) (xs : List X) (bytes : List ℕ) → IsListSection id k.IsItem xs bytes → FitsSection k.FitsItem k.item xs
list_section_fits id k [] bytes s = no_entries k.FitsItem k.item [] refl
list_section_fits id k (x ∷ xs) bytes (inl e) = let no_item = e.0 in absurd cc
list_section_fits id k (x ∷ xs) bytes (inr t) =
    let s = t.second in
    record {
      items = vector_fits k (x ∷ xs) s.content s.inside;
      size = sized_fits (vector k.item (x ∷ xs)) t.back s (vector_shortest k (x ∷ xs) s.content s.inside);
    }

behind_shortest : {P : List ℕ → Type 0} (shortest bytes : List ℕ) (t : Behind P bytes) → length shortest ≤ length t.back → length shortest ≤ length bytes
behind_shortest shortest bytes t h = omega (arith, length-append t.front t.back, ap length t.whole)

placed_shortest : {X : Type 0} (id : ℕ) (k : Kind X) (xs : List X) (bytes : List ℕ) → Behind (IsListSection id k.IsItem xs) bytes → length (list_section id k.item xs) ≤ length bytes
placed_shortest id k xs bytes t = behind_shortest (list_section id k.item xs) bytes t (list_section_shortest id k xs t.back t.second)

placed_well : {X : Type 0} (id : ℕ) (k : Kind X) (xs : List X) (bytes : List ℕ) → Behind (IsListSection id k.IsItem xs) bytes → AllByRecursion k.IsWell xs
placed_well id k xs bytes t = list_section_well id k xs t.back t.second

placed_fits : {X : Type 0} (id : ℕ) (k : Kind X) (xs : List X) (bytes : List ℕ) → Behind (IsListSection id k.IsItem xs) bytes → FitsSection k.FitsItem k.item xs
placed_fits id k xs bytes t = list_section_fits id k xs t.back t.second

-- ---- types

abbrev numbers : Kind ℕ
numbers = record {
  IsItem = IsU32;
  item = unsigned;
  IsWell = λ n. Unit {0};
  FitsItem = Fits32;
  shortest = λ n bytes p. unsigned_shortest 32 bytes n p;
  well = λ n bytes p. tt;
  fits = λ n bytes p. below_32_bits bytes n p;
}

value_type_shortest : (t : ValType) (bytes : List ℕ) → IsValueType t bytes → length (value_type t) ≤ length bytes
value_type_shortest I32 bytes p = byte_shortest 0x7F bytes p
value_type_shortest I64 bytes p = byte_shortest 0x7E bytes p

abbrev value_types : Kind ValType
value_types = record {
  IsItem = IsValueType;
  item = value_type;
  IsWell = λ t. Unit {0};
  FitsItem = FitsValueType;
  shortest = value_type_shortest;
  well = λ t bytes p. tt;
  fits = λ t bytes p. tt;
}

result_type_shortest : (o : Option ValType) (bytes : List ℕ) → IsResultType o bytes → length (result_type o) ≤ length bytes
result_type_shortest None bytes t = omega (arith, some_byte 32 t.front 0 t.first, length-append t.front t.back, ap length t.whole)
result_type_shortest (Some type) bytes t =
    let v = t.second in
    let inner : length (value_type type) ≤ length t.back = omega (arith, value_type_shortest type v.front v.first, length-append v.front v.back, ap length v.whole) in
    both (1 ∷ []) (value_type type) bytes t (omega (arith, some_byte 32 t.front 1 t.first)) inner

function_type_shortest : (f : FuncType) (bytes : List ℕ) → IsFunctionType f bytes → length (function_type f) ≤ length bytes
function_type_shortest f bytes t =
    let p = t.first in
    both (0x60 ∷ vector value_type f.params) (result_type f.result) bytes t
    (both (0x60 ∷ []) (vector value_type f.params) t.front p (byte_shortest 0x60 p.front p.first) (vector_shortest value_types f.params p.back p.second))
    (result_type_shortest f.result t.back t.second)

abbrev function_types : Kind FuncType
function_types = record {
  IsItem = IsFunctionType;
  item = function_type;
  IsWell = λ f. Unit {0};
  FitsItem = FitsFunctionType;
  shortest = function_type_shortest;
  well = λ f bytes t. tt;
  fits = λ f bytes t. vector_fits value_types f.params t.first.back t.first.second;
}

bounds_shortest : (least : ℕ) (greatest : Option ℕ) (bytes : List ℕ) → AreBounds least greatest bytes → length (bounds least greatest) ≤ length bytes
bounds_shortest least None bytes t = both (0 ∷ []) (unsigned least) bytes t (byte_shortest 0 t.front t.first) (unsigned_shortest 32 t.back least t.second)
bounds_shortest least (Some greatest) bytes t =
    let p = t.first in
    both (1 ∷ unsigned least) (unsigned greatest) bytes t
    (both (1 ∷ []) (unsigned least) t.front p (byte_shortest 1 p.front p.first) (unsigned_shortest 32 p.back least p.second))
    (unsigned_shortest 32 t.back greatest t.second)

least_fits : (least : ℕ) (greatest : Option ℕ) (bytes : List ℕ) → AreBounds least greatest bytes → Fits32 least
least_fits least None bytes t = below_32_bits t.back least t.second
least_fits least (Some greatest) bytes t = below_32_bits t.first.back least t.first.second

greatest_fits : (least : ℕ) (greatest : Option ℕ) (bytes : List ℕ) → AreBounds least greatest bytes → IfSome greatest Fits32
greatest_fits least None bytes t = tt
greatest_fits least (Some greatest) bytes t = below_32_bits t.back greatest t.second

limits_fits : (l : Limits) (bytes : List ℕ) → AreLimits l bytes → FitsLimits l
limits_fits l bytes t = record { least = least_fits l.least l.greatest bytes t; greatest = greatest_fits l.least l.greatest bytes t }

abbrev memories : Kind Limits
memories = record {
  IsItem = AreLimits;
  item = limits;
  IsWell = λ l. Unit {0};
  FitsItem = FitsLimits;
  shortest = λ l bytes t. bounds_shortest l.least l.greatest bytes t;
  well = λ l bytes t. tt;
  fits = limits_fits;
}

abbrev tables : Kind Limits
tables = record {
  IsItem = IsTableType;
  item = table_type;
  IsWell = λ l. Unit {0};
  FitsItem = FitsLimits;
  shortest = λ l bytes t. both (0x70 ∷ []) (limits l) bytes t (byte_shortest 0x70 t.front t.first) (bounds_shortest l.least l.greatest t.back t.second);
  well = λ l bytes t. tt;
  fits = λ l bytes t. limits_fits l t.back t.second;
}

mutability_shortest : (b : Bool) (bytes : List ℕ) → IsMutability b bytes → length (mutability b) ≤ length bytes
mutability_shortest false bytes p = byte_shortest 0 bytes p
mutability_shortest true bytes p = byte_shortest 1 bytes p

-- ---- instructions

block_type_shortest : (o : Option ValType) (bytes : List ℕ) → IsBlockType o bytes → length (block_type o) ≤ length bytes
block_type_shortest None bytes p = byte_shortest 0x40 bytes p
block_type_shortest (Some t) bytes p = value_type_shortest t bytes p

immediate_shortest : (a : Immediate) (bytes : List ℕ) → IsImmediate a bytes → length (immediate a) ≤ length bytes
immediate_shortest Nothing bytes p = omega arith
immediate_shortest (BlockType result) bytes p = block_type_shortest result bytes p
immediate_shortest (Index index) bytes p = unsigned_shortest 32 bytes index p
immediate_shortest (Labels labels default) bytes t = both (vector unsigned labels) (unsigned default) bytes t (vector_shortest numbers labels t.front t.first) (unsigned_shortest 32 t.back default t.second)
immediate_shortest (IndexAndZero index) bytes t = both (unsigned index) (0x00 ∷ []) bytes t (unsigned_shortest 32 t.front index t.first) (byte_shortest 0x00 t.back t.second)
immediate_shortest Zero bytes p = byte_shortest 0x00 bytes p
immediate_shortest (Memory at) bytes t = both (unsigned at.align) (unsigned at.offset) bytes t (unsigned_shortest 32 t.front at.align t.first) (unsigned_shortest 32 t.back at.offset t.second)
immediate_shortest (Signed32 z) bytes p = signed_shortest 32 bytes z p
immediate_shortest (Signed64 z) bytes p = signed_shortest 64 bytes z p

immediate_fits : (a : Immediate) (bytes : List ℕ) → IsImmediate a bytes → FitsImmediate a
immediate_fits Nothing bytes p = tt
immediate_fits (BlockType result) bytes p = tt
immediate_fits (Index index) bytes p = below_32_bits bytes index p
immediate_fits (Labels labels default) bytes t = (vector_fits numbers labels t.front t.first, below_32_bits t.back default t.second)
immediate_fits (IndexAndZero index) bytes t = below_32_bits t.front index t.first
immediate_fits Zero bytes p = tt
immediate_fits (Memory at) bytes t = (below_32_bits t.front at.align t.first, below_32_bits t.back at.offset t.second)
immediate_fits (Signed32 z) bytes p = within_32_bits bytes z p
immediate_fits (Signed64 z) bytes p = within_64_bits bytes z p

instruction_shortest : (i : Instr) (bytes : List ℕ) → IsInstruction i bytes → length (instruction i) ≤ length bytes
instruction_shortest i bytes t =
    both (opcode i ∷ []) (immediate (immediate_of i)) bytes t
    (byte_shortest (opcode i) t.front t.first)
    (immediate_shortest (immediate_of i) t.back t.second)

instruction_fits : (i : Instr) (bytes : List ℕ) → IsInstruction i bytes → FitsInstruction i
instruction_fits i bytes t = immediate_fits (immediate_of i) t.back t.second

abbrev instructions : Kind Instr
instructions = record {
  IsItem = IsInstruction;
  item = instruction;
  IsWell = λ i. Unit {0};
  FitsItem = FitsInstruction;
  shortest = instruction_shortest;
  well = λ i bytes p. tt;
  fits = instruction_fits;
}

expression_shortest : (instrs : List Instr) (bytes : List ℕ) → IsExpression instrs bytes → length (expression instrs) ≤ length bytes
expression_shortest instrs bytes e = each_shortest instructions instrs bytes e.each

expression_fits : (instrs : List Instr) (bytes : List ℕ) → IsExpression instrs bytes → FitsExpression instrs
expression_fits instrs bytes e = All-from_recursion FitsInstruction instrs (each_fits instructions instrs bytes e.each)

-- ---- entries

name_shortest : (name bytes : List ℕ) → IsName name bytes → length (byte_vector name) ≤ length bytes
name_shortest name bytes n = byte_vector_shortest name bytes n.vector

name_fits : (name bytes : List ℕ) → IsName name bytes → Countable name
name_fits name bytes n = byte_vector_fits name bytes n.vector

import_shortest : (i : FuncImport) (bytes : List ℕ) → IsFunctionImport i bytes → length (function_import i) ≤ length bytes
import_shortest i bytes t =
    let names = t.first in
    let rest = t.second in
    both (byte_vector i.module ++ byte_vector i.field) (0x00 ∷ unsigned i.ty) bytes t
    (both (byte_vector i.module) (byte_vector i.field) t.front names (name_shortest i.module names.front names.first) (name_shortest i.field names.back names.second))
    (both (0x00 ∷ []) (unsigned i.ty) t.back rest (byte_shortest 0x00 rest.front rest.first) (unsigned_shortest 32 rest.back i.ty rest.second))

import_fits : (i : FuncImport) (bytes : List ℕ) → IsFunctionImport i bytes → FitsImport i
import_fits i bytes t =
    let names = t.first in
    (name_fits i.module names.front names.first, name_fits i.field names.back names.second, below_32_bits t.second.back i.ty t.second.second)

abbrev imports : Kind FuncImport
imports = record {
  IsItem = IsFunctionImport;
  item = function_import;
  IsWell = HasNames;
  FitsItem = FitsImport;
  shortest = import_shortest;
  well = λ i bytes t. (t.first.first.text, t.first.second.text);
  fits = import_fits;
}

global_shortest : (g : GlobalDef) (bytes : List ℕ) → IsGlobal g bytes → length (global g) ≤ length bytes
global_shortest g bytes t =
    let p = t.first in
    both (value_type g.ty ++ mutability g.mutable) (expression g.init) bytes t
    (both (value_type g.ty) (mutability g.mutable) t.front p (value_type_shortest g.ty p.front p.first) (mutability_shortest g.mutable p.back p.second))
    (expression_shortest g.init t.back t.second)

abbrev globals : Kind GlobalDef
globals = record {
  IsItem = IsGlobal;
  item = global;
  IsWell = λ (g : GlobalDef). EndsOnce g.init;
  FitsItem = FitsGlobal;
  shortest = global_shortest;
  well = λ g bytes t. t.second.ended;
  fits = λ g bytes t. expression_fits g.init t.back t.second;
}

export_shortest : (e : ExportDef) (bytes : List ℕ) → IsExport e bytes → length (export e) ≤ length bytes
export_shortest e bytes t =
    let rest = t.second in
    both (byte_vector e.name) (e.kind ∷ unsigned e.index) bytes t
    (name_shortest e.name t.front t.first)
    (both (e.kind ∷ []) (unsigned e.index) t.back rest (byte_shortest e.kind rest.front rest.first.byte) (unsigned_shortest 32 rest.back e.index rest.second))

abbrev exports : Kind ExportDef
exports = record {
  IsItem = IsExport;
  item = export;
  IsWell = IsWellFormedExport;
  FitsItem = FitsExport;
  shortest = export_shortest;
  well = λ e bytes t. (t.first.text, t.second.first.known);
  fits = λ e bytes t. (name_fits e.name t.front t.first, below_32_bits t.second.back e.index t.second.second);
}

element_shortest : (e : Element) (bytes : List ℕ) → IsElement e bytes → length (element e) ≤ length bytes
element_shortest e bytes t =
    let p = t.first in
    both (unsigned e.table ++ expression e.at) (vector unsigned e.funcs) bytes t
    (both (unsigned e.table) (expression e.at) t.front p (unsigned_shortest 32 p.front e.table p.first) (expression_shortest e.at p.back p.second))
    (vector_shortest numbers e.funcs t.back t.second)

element_fits : (e : Element) (bytes : List ℕ) → IsElement e bytes → FitsElement e
element_fits e bytes t =
    let p = t.first in
    (below_32_bits p.front e.table p.first, expression_fits e.at p.back p.second, vector_fits numbers e.funcs t.back t.second)

abbrev elements : Kind Element
elements = record {
  IsItem = IsElement;
  item = element;
  IsWell = λ (e : Element). EndsOnce e.at;
  FitsItem = FitsElement;
  shortest = element_shortest;
  well = λ e bytes t. t.first.second.ended;
  fits = element_fits;
}

local_run_shortest : (run : ℕ × ValType) (bytes : List ℕ) → IsLocalRun run bytes → length (local_run run) ≤ length bytes
local_run_shortest run bytes t = both (unsigned run.0) (value_type run.1) bytes t (unsigned_shortest 32 t.front run.0 t.first) (value_type_shortest run.1 t.back t.second)

abbrev local_runs : Kind (ℕ × ValType)
local_runs = record {
  IsItem = IsLocalRun;
  item = local_run;
  IsWell = λ (run : ℕ × ValType). Unit {0};
  FitsItem = FitsRun;
  shortest = local_run_shortest;
  well = λ run bytes t. tt;
  fits = λ run bytes t. below_32_bits t.front run.0 t.first;
}

body_shortest : (c : CodeBody) (bytes : List ℕ) → InTurn (IsVector IsLocalRun c.locals) (IsExpression c.instrs) bytes → length (body c) ≤ length bytes
body_shortest c bytes t = both (vector local_run c.locals) (expression c.instrs) bytes t (vector_shortest local_runs c.locals t.front t.first) (expression_shortest c.instrs t.back t.second)

code_shortest : (c : CodeBody) (bytes : List ℕ) → IsCode c bytes → length (code c) ≤ length bytes
code_shortest c bytes t = sized_shortest (body c) bytes t.sized (body_shortest c t.sized.content t.sized.inside)

code_fits : (c : CodeBody) (bytes : List ℕ) → IsCode c bytes → FitsCode c
code_fits c bytes t =
    let s = t.sized in
    let parts = s.inside in
    (vector_fits local_runs c.locals parts.front parts.first, expression_fits c.instrs parts.back parts.second, sized_fits (body c) bytes s (body_shortest c s.content parts))

abbrev codes : Kind CodeBody
codes = record {
  IsItem = IsCode;
  item = code;
  IsWell = IsWellFormedCode;
  FitsItem = FitsCode;
  shortest = code_shortest;
  well = λ c bytes t. (t.few_locals, t.sized.inside.second.ended);
  fits = code_fits;
}

data_segment_shortest : (d : DataSegment) (bytes : List ℕ) → IsDataSegment d bytes → length (data_segment d) ≤ length bytes
data_segment_shortest d bytes t =
    let p = t.first in
    both (unsigned d.memory ++ expression d.at) (byte_vector d.bytes) bytes t
    (both (unsigned d.memory) (expression d.at) t.front p (unsigned_shortest 32 p.front d.memory p.first) (expression_shortest d.at p.back p.second))
    (byte_vector_shortest d.bytes t.back t.second)

data_segment_fits : (d : DataSegment) (bytes : List ℕ) → IsDataSegment d bytes → FitsData d
data_segment_fits d bytes t =
    let p = t.first in
    (below_32_bits p.front d.memory p.first, expression_fits d.at p.back p.second, byte_vector_fits d.bytes t.back t.second)

abbrev datas : Kind DataSegment
datas = record {
  IsItem = IsDataSegment;
  item = data_segment;
  IsWell = λ (d : DataSegment). EndsOnce d.at;
  FitsItem = FitsData;
  shortest = data_segment_shortest;
  well = λ d bytes t. t.first.second.ended;
  fits = data_segment_fits;
}

-- ---- sections

start_section_shortest : (start : Option ℕ) (bytes : List ℕ) → IsStartSection start bytes → length (start_section start) ≤ length bytes
start_section_shortest None bytes e = omega arith
start_section_shortest (Some index) bytes t = section_shortest 8 (unsigned index) bytes t (unsigned_shortest 32 t.second.content index t.second.inside)

start_fits : (start : Option ℕ) (bytes : List ℕ) → IsStartSection start bytes → IfSome start Fits32
start_fits None bytes e = tt
start_fits (Some index) bytes t = below_32_bits t.second.content index t.second.inside

front_sections_shortest : (m : Module) (bytes : List ℕ) → AreFrontSections m bytes → length (front_sections m) ≤ length bytes
unfolding front_sections
front_sections_shortest m bytes to_7 =
    let to_6 = to_7.first in
    let to_5 = to_6.first in
    let to_4 = to_5.first in
    let to_3 = to_4.first in
    let to_2 = to_3.first in
    both _ (list_section 7 export m.exports) bytes to_7
    (both _ (list_section 6 global m.globals) to_7.front to_6
    (both _ (list_section 5 limits m.memories) to_6.front to_5
    (both _ (list_section 4 table_type m.tables) to_5.front to_4
    (both _ (list_section 3 unsigned m.funcs) to_4.front to_3
    (both (list_section 1 function_type m.types) (list_section 2 function_import m.imports) to_3.front to_2
    (placed_shortest 1 function_types m.types to_2.front to_2.first)
    (placed_shortest 2 imports m.imports to_2.back to_2.second))
    (placed_shortest 3 numbers m.funcs to_3.back to_3.second))
    (placed_shortest 4 tables m.tables to_4.back to_4.second))
    (placed_shortest 5 memories m.memories to_5.back to_5.second))
    (placed_shortest 6 globals m.globals to_6.back to_6.second))
    (placed_shortest 7 exports m.exports to_7.back to_7.second)

back_sections_shortest : (m : Module) (bytes : List ℕ) → AreBackSections m bytes → length (back_sections m) ≤ length bytes
unfolding back_sections
back_sections_shortest m bytes to_11 =
    let to_10 = to_11.first in
    let to_9 = to_10.first in
    let start = to_9.first in
    both _ (list_section 11 data_segment m.datas) bytes to_11
    (both _ (list_section 10 code m.codes) to_11.front to_10
    (both (start_section m.start) (list_section 9 element m.elements) to_10.front to_9
    (behind_shortest (start_section m.start) to_9.front start (start_section_shortest m.start start.back start.second))
    (placed_shortest 9 elements m.elements to_9.back to_9.second))
    (placed_shortest 10 codes m.codes to_10.back to_10.second))
    (placed_shortest 11 datas m.datas to_11.back to_11.second)

front_fits : (m : Module) (bytes : List ℕ) → AreFrontSections m bytes → FitsFront m
front_fits m bytes to_7 =
    let to_6 = to_7.first in
    let to_5 = to_6.first in
    let to_4 = to_5.first in
    let to_3 = to_4.first in
    let to_2 = to_3.first in
    record {
      types = placed_fits 1 function_types m.types to_2.front to_2.first;
      imports = placed_fits 2 imports m.imports to_2.back to_2.second;
      funcs = placed_fits 3 numbers m.funcs to_3.back to_3.second;
      tables = placed_fits 4 tables m.tables to_4.back to_4.second;
      memories = placed_fits 5 memories m.memories to_5.back to_5.second;
      globals = placed_fits 6 globals m.globals to_6.back to_6.second;
      exports = placed_fits 7 exports m.exports to_7.back to_7.second;
    }

back_fits : (m : Module) (bytes : List ℕ) → AreBackSections m bytes → FitsBack m
back_fits m bytes to_11 =
    let to_10 = to_11.first in
    let to_9 = to_10.first in
    record {
      start = start_fits m.start to_9.first.back to_9.first.second;
      elements = placed_fits 9 elements m.elements to_9.back to_9.second;
      codes = placed_fits 10 codes m.codes to_10.back to_10.second;
      datas = placed_fits 11 datas m.datas to_11.back to_11.second;
    }

-- ---- modules

pub well_formed_from_bytes : (m : Module) (bytes : List ℕ) → ModuleBytes m bytes → IsWellFormed m
well_formed_from_bytes m bytes b =
    let back = b.sections.first.second in
    let front = b.sections.first.first.second in
    record {
      same_count = b.same_count;
      imports = placed_well 2 imports m.imports _ front.first.first.first.first.first.second;
      globals = placed_well 6 globals m.globals _ front.first.second;
      exports = placed_well 7 exports m.exports _ front.second;
      elements = placed_well 9 elements m.elements _ back.first.first.second;
      codes = placed_well 10 codes m.codes _ back.first.second;
      datas = placed_well 11 datas m.datas _ back.second;
    }

pub fits_from_bytes : (m : Module) (bytes : List ℕ) → ModuleBytes m bytes → Fits m
fits_from_bytes m bytes b =
    let parts = b.sections.first in
    (front_fits m parts.first.back parts.first.second, back_fits m parts.back parts.second)

-- no bytes of a module are fewer than its shortest spelling
pub spelling-shortest : (m : Module) (bytes : List ℕ) → ModuleBytes m bytes → length (spelling m) ≤ length bytes
unfolding spelling
spelling-shortest m bytes b =
    let all = b.sections in
    let parts = all.first in
    let start = parts.first in
    let in_header : length header ≤ length start.front = omega (arith, ap length start.first) in
    let in_front = both header (front_sections m) parts.front start in_header (front_sections_shortest m start.back start.second) in
    let in_sections = both (header ++ front_sections m) (back_sections m) all.front parts in_front (back_sections_shortest m parts.back parts.second) in
    omega (arith, length-append all.front all.back, ap length all.whole, in_sections)

-- a module that has bytes has its shortest spelling too
pub spelling_spells : (m : Module) (bytes : List ℕ) → ModuleBytes m bytes → ModuleBytes m (spelling m)
spelling_spells m bytes b = encodes m (well_formed_from_bytes m bytes b) (fits_from_bytes m bytes b)
