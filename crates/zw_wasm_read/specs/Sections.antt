-- What the readers of sections answer.
use Rattle.std.specs.Prelude.{◌≡◌, ◌⊎◌, ℕ, ◌<◌, ◌≤◌, List, [], ◌∷◌, length, Bool, true, false, Option, Some, None, Result, Ok, Err}
use Rattle.std.specs.Borrow.{Bor}
use Rattle.zw_wasm.specs.declared.module.Module.{Module}
use Rattle.zw_wasm.specs.ModuleBytes.{◌⌢◌, ModuleBytes, Behind, IsU32, IsVector, IsSection, IsListSection, IsStartSection, IsCustomSection, AreCustomSections, IsFunctionType, IsFunctionImport, IsTableType, AreLimits, IsGlobal, IsExport, IsElement, IsCode, IsDataSegment}
use Rattle.zw_wasm_read.specs.declared.module.Back.{Back}
use Rattle.zw_wasm_read.specs.declared.module.Front.{Front}
use Rattle.zw_wasm_read.specs.declared.sections.ContentErr.{ContentErr}
use Rattle.zw_wasm_read.specs.declared.sections.ContentErr.TheVariants as content_err
use Rattle.zw_wasm_read.specs.declared.stop.BadCode.{BadCode}
use Rattle.zw_wasm_read.specs.declared.stop.BadCode.TheVariants as bad
use Rattle.zw_wasm_read.specs.declared.stop.ReadErr.{ReadErr}
use Rattle.zw_wasm_read.specs.declared.stop.ReadErr.TheVariants as stop
use Rattle.zw_wasm_read.specs.Reads.{Leaves}
use Rattle.zw_wasm_read.specs.Stops.{Stops, SectionStop, StartStop, HasNoEnd, LacksEntry, IsBadCustom, IsStop, StandsAt}

-- the bytes begin with this one
abbrev pub BeginsWith : ℕ → List ℕ → Type 0
BeginsWith id bytes = (more : List ℕ) × (bytes ≡ id ∷ more)

-- whether they do
abbrev pub IsFirst : ℕ → List ℕ → Bool → Type 0
IsFirst id bytes true = BeginsWith id bytes
IsFirst id bytes false = (more : List ℕ) → bytes ≡ id ∷ more → ⊥

-- whether a section with a larger number stands there, or nothing
abbrev pub IsInOrder : ℕ → List ℕ → Bool → Type 0
IsInOrder last bytes true = (id : ℕ) (more : List ℕ) → bytes ≡ id ∷ more → (last < id) × (id ≤ 11)
IsInOrder last bytes false = (id : ℕ) × (more : List ℕ) × (bytes ≡ id ∷ more) × ((id ≤ last) ⊎ (11 < id))

-- all entries of a section's content
abbrev pub ReadsEntries : {X : Type 0} → (X → List ℕ → Type 0) → List ℕ → Result (List X) ContentErr → Type 0
ReadsEntries P content (Ok xs) = IsVector P xs content
ReadsEntries P content (Err content_err.NoEnd) = HasNoEnd P content
ReadsEntries {X} P content (Err (content_err.NoEntry left)) = (rest : List ℕ) × (length rest ≡ left) × LacksEntry P content rest
ReadsEntries P content (Err content_err.Oom) = Unit {0}

-- a section
abbrev pub ReadsSection : {X : Type 0} → ℕ → (X → List ℕ → Type 0) → ℕ → List ℕ → Result (List X × Bor (List ℕ)) ReadErr → Type 0
ReadsSection id P total bytes (Ok read) = Leaves (IsSection id (IsVector P read.0)) bytes read.1.now
ReadsSection id P total bytes (Err (stop.Bad at code)) = SectionStop id P total bytes at code
ReadsSection id P total bytes (Err stop.Oom) = Unit {0}

-- custom sections were passed over, and a section with a larger number stands next, or nothing
pub record Passed (total last : ℕ) (bytes rest : List ℕ) : Type 0 where
  pub customs : Leaves AreCustomSections bytes rest
  pub next : (id : ℕ) (more : List ℕ) → rest ≡ id ∷ more → (last < id) × (id ≤ 11)
  pub later : (at : ℕ) (code : BadCode) → Stops total last rest at code → Stops total last bytes at code

abbrev pub PassesCustoms : ℕ → ℕ → List ℕ → Result (Bor (List ℕ)) ReadErr → Type 0
PassesCustoms total last bytes (Ok rest) = Passed total last bytes rest.now
PassesCustoms total last bytes (Err (stop.Bad at code)) = Stops total last bytes at code
PassesCustoms total last bytes (Err stop.Oom) = Unit {0}

abbrev pub PassesCustom : ℕ → List ℕ → Result (Bor (List ℕ)) ReadErr → Type 0
PassesCustom total bytes (Ok rest) = Leaves IsCustomSection bytes rest.now
PassesCustom total bytes (Err (stop.Bad at code)) = IsBadCustom bytes × (code ≡ bad.Section) × StandsAt total at bytes
PassesCustom total bytes (Err stop.Oom) = Unit {0}

-- the section of the function that runs first
abbrev pub ReadsStart : ℕ → List ℕ → Result (ℕ × Bor (List ℕ)) ReadErr → Type 0
ReadsStart total bytes (Ok read) = Leaves (IsSection 8 (IsU32 read.0)) bytes read.1.now
ReadsStart total bytes (Err (stop.Bad at code)) = StartStop total bytes at code
ReadsStart total bytes (Err stop.Oom) = Unit {0}

-- A section was read with the custom ones behind it, or left out.
pub data Optional {X : Type 0} (id : ℕ) (P : X → List ℕ → Type 0) (total : ℕ) (xs : List X) (bytes rest : List ℕ) : Type 0 where
  left_out : xs ≡ [] → rest ≡ bytes → ((more : List ℕ) → bytes ≡ id ∷ more → ⊥) → Optional id P total xs bytes rest
  there : (mid : List ℕ) → BeginsWith id bytes → Leaves (IsSection id (IsVector P xs)) bytes mid → Passed total id mid rest → Optional id P total xs bytes rest

-- Reading stops in it, or behind it.
pub data OptionalStop {X : Type 0} (id : ℕ) (P : X → List ℕ → Type 0) (total : ℕ) (bytes : List ℕ) (at : ℕ) (code : BadCode) : Type 0 where
  within : BeginsWith id bytes → SectionStop id P total bytes at code → OptionalStop id P total bytes at code
  past : (xs : List X) (mid : List ℕ) → Leaves (IsSection id (IsVector P xs)) bytes mid → Stops total id mid at code → OptionalStop id P total bytes at code

abbrev pub ReadsOptional : {X : Type 0} → ℕ → (X → List ℕ → Type 0) → ℕ → List ℕ → Result (List X × Bor (List ℕ)) ReadErr → Type 0
ReadsOptional id P total bytes (Ok read) = Optional id P total read.0 bytes read.1.now
ReadsOptional id P total bytes (Err (stop.Bad at code)) = OptionalStop id P total bytes at code
ReadsOptional id P total bytes (Err stop.Oom) = Unit {0}

-- The same of the section of the function that runs first.
pub data OptionalStart (total : ℕ) (bytes rest : List ℕ) : Option ℕ → Type 0 where
  left_out : rest ≡ bytes → ((more : List ℕ) → bytes ≡ 8 ∷ more → ⊥) → OptionalStart total bytes rest None
  there : (index : ℕ) (mid : List ℕ) → BeginsWith 8 bytes → Leaves (IsSection 8 (IsU32 index)) bytes mid → Passed total 8 mid rest → OptionalStart total bytes rest (Some index)

pub data OptionalStartStop (total : ℕ) (bytes : List ℕ) (at : ℕ) (code : BadCode) : Type 0 where
  within : BeginsWith 8 bytes → StartStop total bytes at code → OptionalStartStop total bytes at code
  past : (index : ℕ) (mid : List ℕ) → Leaves (IsSection 8 (IsU32 index)) bytes mid → Stops total 8 mid at code → OptionalStartStop total bytes at code

abbrev pub ReadsOptionalStart : ℕ → List ℕ → Result (Option ℕ × Bor (List ℕ)) ReadErr → Type 0
ReadsOptionalStart total bytes (Ok read) = OptionalStart total bytes read.1.now read.0
ReadsOptionalStart total bytes (Err (stop.Bad at code)) = OptionalStartStop total bytes at code
ReadsOptionalStart total bytes (Err stop.Oom) = Unit {0}

-- ---- all sections

-- From the first bytes on to these ones the sections were read, those up to a number below k; next stands one from k on, or nothing.
pub record Continues (total : ℕ) (bytes : List ℕ) (k : ℕ) (rest : List ℕ) : Type 0 where
  pub last : ℕ
  pub below : last < k
  pub later : (at : ℕ) (code : BadCode) → Stops total last rest at code → Stops total 0 bytes at code
  pub next : (id : ℕ) (more : List ℕ) → rest ≡ id ∷ more → (k ≤ id) × (id ≤ 11)

-- the sections before that of the function that runs first
abbrev pub FrontSections : Front → List ℕ → Type 0
FrontSections f =
    Behind (IsListSection 1 IsFunctionType f.types)
    ⌢ Behind (IsListSection 2 IsFunctionImport f.imports)
    ⌢ Behind (IsListSection 3 IsU32 f.funcs)
    ⌢ Behind (IsListSection 4 IsTableType f.tables)
    ⌢ Behind (IsListSection 5 AreLimits f.memories)
    ⌢ Behind (IsListSection 6 IsGlobal f.globals)
    ⌢ Behind (IsListSection 7 IsExport f.exports)

-- that section and those behind it
abbrev pub BackSections : Back → List ℕ → Type 0
BackSections b =
    Behind (IsStartSection b.start)
    ⌢ Behind (IsListSection 9 IsElement b.elements)
    ⌢ Behind (IsListSection 10 IsCode b.codes)
    ⌢ Behind (IsListSection 11 IsDataSegment b.datas)

pub record FrontRead (total : ℕ) (f : Front) (bytes rest : List ℕ) : Type 0 where
  pub sections : Leaves (FrontSections f ⌢ AreCustomSections) bytes rest
  pub goes : Continues total bytes 8 rest

abbrev pub ReadsFront : ℕ → List ℕ → Result (Front × Bor (List ℕ)) ReadErr → Type 0
ReadsFront total bytes (Ok read) = FrontRead total read.0 bytes read.1.now
ReadsFront total bytes (Err (stop.Bad at code)) = Stops total 0 bytes at code
ReadsFront total bytes (Err stop.Oom) = Unit {0}

pub record BackRead (total : ℕ) (b : Back) (bytes rest : List ℕ) : Type 0 where
  pub sections : (start : List ℕ) → Leaves AreCustomSections start bytes → Leaves (BackSections b ⌢ AreCustomSections) start rest
  pub goes : (first : List ℕ) → Continues total first 8 bytes → Continues total first 12 rest

abbrev pub ReadsBack : ℕ → List ℕ → Result (Back × Bor (List ℕ)) ReadErr → Type 0
ReadsBack total bytes (Ok read) = BackRead total read.0 bytes read.1.now
ReadsBack total bytes (Err (stop.Bad at code)) = (first : List ℕ) → Continues total first 8 bytes → Stops total 0 first at code
ReadsBack total bytes (Err stop.Oom) = Unit {0}

-- ---- modules

-- both as one module
abbrev pub module_of : Front → Back → Module
module_of f b = record {
  types = f.types;
  imports = f.imports;
  funcs = f.funcs;
  tables = f.tables;
  memories = f.memories;
  globals = f.globals;
  exports = f.exports;
  start = b.start;
  elements = b.elements;
  codes = b.codes;
  datas = b.datas;
}

-- A module of the bytes was read, or reading stops and they are none, or memory ran out.
abbrev pub ReadsModule : List ℕ → Result Module ReadErr → Type 0
ReadsModule bytes (Ok m) = ModuleBytes m bytes
ReadsModule bytes (Err (stop.Bad at code)) = IsStop bytes at code × ((m : Module) → ModuleBytes m bytes → ⊥)
ReadsModule bytes (Err stop.Oom) = Unit {0}
