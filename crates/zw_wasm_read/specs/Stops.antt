-- Where reading a module stops, and why (this project's own). Sections are read from left to right. `total` is the number of
-- all bytes, and a place is told by the bytes from it on.
use Rattle.std.specs.Prelude.{◌≡◌, ◌⊎◌, ℕ, ◌+◌, ◌<◌, ◌≤◌, List, ◌∷◌, ◌++◌, length}
use Rattle.zw_wasm.specs.declared.module.CodeBody.{CodeBody}
use Rattle.zw_wasm.specs.declared.module.DataSegment.{DataSegment}
use Rattle.zw_wasm.specs.declared.module.Element.{Element}
use Rattle.zw_wasm.specs.declared.module.ExportDef.{ExportDef}
use Rattle.zw_wasm.specs.declared.module.FuncImport.{FuncImport}
use Rattle.zw_wasm.specs.declared.module.FuncType.{FuncType}
use Rattle.zw_wasm.specs.declared.module.GlobalDef.{GlobalDef}
use Rattle.zw_wasm.specs.declared.module.Limits.{Limits}
use Rattle.zw_wasm.specs.declared.module.Module.{Module}
use Rattle.zw_wasm.specs.ModuleBytes.{◌⌢◌, Byte, IsU32, EachInTurn, IsVector, IsByteVector, IsSection, IsSomeName, IsCustomSection, AreCustomSections, IsFunctionType, IsFunctionImport, AreLimits, IsGlobal, IsExport, IsElement, IsCode, IsDataSegment, IsHeader, AreFrontSections, AreBackSections}
use Rattle.zw_wasm_read.specs.declared.stop.BadCode.{BadCode}
use Rattle.zw_wasm_read.specs.declared.stop.BadCode.TheVariants as bad
use Rattle.zw_wasm_read.specs.declared.vectors.TableType.{TableType}
use Rattle.zw_wasm_read.specs.Reads.{Leaves, IsUnfit}
use Rattle.zw_wasm_read.specs.Tables.{IsTable}

-- the bytes from the place on are these
abbrev pub StandsAt : ℕ → ℕ → List ℕ → Type 0
StandsAt total at bytes = at + length bytes ≡ total

-- a section's number, size and content (5.5.2)
abbrev pub IsFrame : ℕ → List ℕ → List ℕ → Type 0
IsFrame id content = Byte id ⌢ IsByteVector content

-- there is no number of entries, or there are bytes behind the entries
pub data HasNoEnd {X : Type 0} (P : X → List ℕ → Type 0) (content : List ℕ) : Type 0 where
  no_count : IsUnfit IsU32 content → HasNoEnd P content
  more : (entries : List X) (b : ℕ) (rest : List ℕ) → Leaves (IsVector P entries) content (b ∷ rest) → HasNoEnd P content

-- an entry is promised, and none begins these last bytes of the content
pub record LacksEntry {X : Type 0} (P : X → List ℕ → Type 0) (content rest : List ℕ) : Type 0 where
  pub count : ℕ
  pub entries : List X
  pub behind_count : List ℕ
  pub counted : Leaves (IsU32 count) content behind_count
  pub before : Leaves (EachInTurn P entries) behind_count rest
  pub missing : length entries < count
  pub none : IsUnfit P rest

-- Reading stops in the section that begins with these bytes.
pub data SectionStop {X : Type 0} (id : ℕ) (P : X → List ℕ → Type 0) (total : ℕ) (bytes : List ℕ) : ℕ → BadCode → Type 0 where
  no_frame : (at : ℕ) → IsUnfit (IsFrame id) bytes → StandsAt total at bytes → SectionStop id P total bytes at bad.Section
  no_end : (at : ℕ) (content rest : List ℕ) → Leaves (IsFrame id content) bytes rest → HasNoEnd P content → StandsAt total at bytes → SectionStop id P total bytes at bad.Section
  no_entry : (at : ℕ) (content rest last : List ℕ) → Leaves (IsFrame id content) bytes rest → LacksEntry P content last → StandsAt total at (last ++ rest) → SectionStop id P total bytes at bad.Entry

-- the same of the section of the function that runs first, whose index is its one entry
pub data StartStop (total : ℕ) (bytes : List ℕ) : ℕ → BadCode → Type 0 where
  no_frame : (at : ℕ) → IsUnfit (IsFrame 8) bytes → StandsAt total at bytes → StartStop total bytes at bad.Section
  no_end : (at index b : ℕ) (content rest last : List ℕ) → Leaves (IsFrame 8 content) bytes rest → Leaves (IsU32 index) content (b ∷ last) → StandsAt total at bytes → StartStop total bytes at bad.Section
  no_index : (at : ℕ) (content rest : List ℕ) → Leaves (IsFrame 8 content) bytes rest → IsUnfit IsU32 content → StandsAt total at (content ++ rest) → StartStop total bytes at bad.Entry

-- a custom section without size or name
pub data IsBadCustom (bytes : List ℕ) : Type 0 where
  no_frame : IsUnfit (IsFrame 0) bytes → IsBadCustom bytes
  no_name : (content rest : List ℕ) → Leaves (IsFrame 0 content) bytes rest → ((behind : List ℕ) → Leaves IsSomeName content behind → ⊥) → IsBadCustom bytes

-- the sections that are vectors of entries (5.5.2)
pub data SectionKind : Type 0 where
  Types : SectionKind
  Imports : SectionKind
  Functions : SectionKind
  Tables : SectionKind
  Memories : SectionKind
  Globals : SectionKind
  Exports : SectionKind
  Elements : SectionKind
  Codes : SectionKind
  Datas : SectionKind

abbrev pub number_of : SectionKind → ℕ
number_of Types = 1
number_of Imports = 2
number_of Functions = 3
number_of Tables = 4
number_of Memories = 5
number_of Globals = 6
number_of Exports = 7
number_of Elements = 9
number_of Codes = 10
number_of Datas = 11

abbrev pub Entry : SectionKind → Type 0
Entry Types = FuncType
Entry Imports = FuncImport
Entry Functions = ℕ
Entry Tables = TableType
Entry Memories = Limits
Entry Globals = GlobalDef
Entry Exports = ExportDef
Entry Elements = Element
Entry Codes = CodeBody
Entry Datas = DataSegment

abbrev pub IsEntry : (s : SectionKind) → Entry s → List ℕ → Type 0
IsEntry Types = IsFunctionType
IsEntry Imports = IsFunctionImport
IsEntry Functions = IsU32
IsEntry Tables = IsTable
IsEntry Memories = AreLimits
IsEntry Globals = IsGlobal
IsEntry Exports = IsExport
IsEntry Elements = IsElement
IsEntry Codes = IsCode
IsEntry Datas = IsDataSegment

-- Reading stops in the sections that these bytes begin with, behind a section with the number `last`: at a number that is out
-- of order or past 11, within a section, or in a later one.
pub data Stops (total : ℕ) : ℕ → List ℕ → ℕ → BadCode → Type 0 where
  number : (last id : ℕ) (more : List ℕ) (at : ℕ) → (id ≡ 0 → ⊥) → (id ≤ last) ⊎ (11 < id) → StandsAt total at (id ∷ more) → Stops total last (id ∷ more) at bad.Section
  custom : (last : ℕ) (more : List ℕ) (at : ℕ) → IsBadCustom (0 ∷ more) → StandsAt total at (0 ∷ more) → Stops total last (0 ∷ more) at bad.Section
  section : (s : SectionKind) (last : ℕ) (more : List ℕ) (at : ℕ) (code : BadCode) → last < number_of s → SectionStop (number_of s) (IsEntry s) total (number_of s ∷ more) at code → Stops total last (number_of s ∷ more) at code
  start : (last : ℕ) (more : List ℕ) (at : ℕ) (code : BadCode) → last < 8 → StartStop total (8 ∷ more) at code → Stops total last (8 ∷ more) at code
  behind_custom : (last : ℕ) (bytes rest : List ℕ) (at : ℕ) (code : BadCode) → Leaves IsCustomSection bytes rest → Stops total last rest at code → Stops total last bytes at code
  behind_section : (s : SectionKind) (entries : List (Entry s)) (last : ℕ) (bytes rest : List ℕ) (at : ℕ) (code : BadCode) → last < number_of s → Leaves (IsSection (number_of s) (IsVector (IsEntry s) entries)) bytes rest → Stops total (number_of s) rest at code → Stops total last bytes at code
  behind_start : (index last : ℕ) (bytes rest : List ℕ) (at : ℕ) (code : BadCode) → last < 8 → Leaves (IsSection 8 (IsU32 index)) bytes rest → Stops total 8 rest at code → Stops total last bytes at code

-- Where reading all these bytes stops: at the start, in a section, or at the end.
pub data IsStop (bytes : List ℕ) : ℕ → BadCode → Type 0 where
  header : ((rest : List ℕ) → Leaves IsHeader bytes rest → ⊥) → IsStop bytes 0 bad.Header
  sections : (rest : List ℕ) (at : ℕ) (code : BadCode) → Leaves IsHeader bytes rest → Stops (length bytes) 0 rest at code → IsStop bytes at code
  counts : (m : Module) → (IsHeader ⌢ AreFrontSections m ⌢ AreBackSections m ⌢ AreCustomSections) bytes → (length m.funcs ≡ length m.codes → ⊥) → IsStop bytes (length bytes) bad.Counts
