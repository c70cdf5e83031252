-- Where reading stops, no module has the bytes.
use Rattle.std.proofs.Common.{◌≡◌, ◌⊎◌, ℕ, zero, suc, ◌+◌, ◌-◌, ◌<◌, ◌≤◌, List, [], ◌∷◌, length, map, Option, Some, None, refl, sym, ap, subst, ◌∙◌, inl, inr, arith}
use Rattle.std.proofs.lemmas.Bool.{cases_lt}
use Rattle.zw_wasm.specs.declared.module.Limits.{Limits}
use Rattle.zw_wasm.specs.declared.module.Module.{Module}
use Rattle.zw_wasm.specs.ModuleBytes.{◌⌢◌, IsU32, EachInTurn, IsVector, IsTableType, IsSection, IsListSection, IsStartSection, IsCustomSection, IsSomeName, Anything, ModuleBytes}
use Rattle.zw_wasm_read.specs.declared.stop.BadCode.{BadCode}
use Rattle.zw_wasm_read.specs.declared.vectors.TableType.{TableType}
use Rattle.zw_wasm_read.specs.Reads.{Leaves}
use Rattle.zw_wasm_read.specs.Stops.{Stops, SectionStop, StartStop, HasNoEnd, LacksEntry, IsBadCustom, IsStop, SectionKind, Types, Imports, Functions, Tables, Memories, Globals, Exports, Elements, Codes, Datas, number_of, Entry, IsEntry}
use Rattle.zw_wasm_read.specs.Tables.{IsTable}
use Rattle.zw_wasm_read.specs.Uniqueness.{Sure}
use Rattle.zw_wasm_read.proofs.EntryLemmas.{all_of, sure-import, sure-global, sure-export, sure-element, sure-code, sure-data, sure-table}
use Rattle.zw_wasm_read.proofs.Leaving.{turn, byte-whole}
use Rattle.zw_wasm_read.proofs.Tails.{Listed, Tailed, tailed, listed_at, here_at, past_at, Here, Stage, After, after_header, same_sections, section_parts, section_one, frame_one}
use Rattle.zw_wasm_read.proofs.Uniqueness.{sure-u32, sure-vector, sure-function_type, sure-limits, exactly-rest}
use Rattle.zw_wasm_read.proofs.VectorLemmas.{vector_unfit}

-- ---- the entries of a section

pub sure-entry : (s : SectionKind) → Sure (IsEntry s)
sure-entry Types = sure-function_type
sure-entry Imports = sure-import
sure-entry Functions = sure-u32
sure-entry Tables = sure-table
sure-entry Memories = sure-limits
sure-entry Globals = sure-global
sure-entry Exports = sure-export
sure-entry Elements = sure-element
sure-entry Codes = sure-code
sure-entry Datas = sure-data

pub number_range : (s : SectionKind) → (1 ≤ number_of s) × (number_of s ≤ 11)
number_range Types = (omega arith, omega arith)
number_range Imports = (omega arith, omega arith)
number_range Functions = (omega arith, omega arith)
number_range Tables = (omega arith, omega arith)
number_range Memories = (omega arith, omega arith)
number_range Globals = (omega arith, omega arith)
number_range Exports = (omega arith, omega arith)
number_range Elements = (omega arith, omega arith)
number_range Codes = (omega arith, omega arith)
number_range Datas = (omega arith, omega arith)

-- limits as types of tables
abbrev table_of : Limits → TableType
table_of l = record { limits = l }

each_limits : (ls : List Limits) (bytes : List ℕ) → EachInTurn IsTableType ls bytes → EachInTurn IsTable (map table_of ls) bytes
each_limits [] bytes e = e
each_limits (l ∷ ls) bytes e = record { front = e.front; back = e.back; first = e.first; second = each_limits ls e.back e.second; whole = e.whole }

length_tables : (ls : List Limits) → length ls ≡ length (map table_of ls)
length_tables [] = refl
length_tables (l ∷ ls) = ap (λ (n : ℕ). suc n) (length_tables ls)

vector_of_limits : (ls : List Limits) (bytes : List ℕ) → IsVector IsTableType ls bytes → IsVector IsTable (map table_of ls) bytes
vector_of_limits ls bytes v = record { front = v.front; back = v.back; first = subst (λ (n : ℕ). IsU32 n v.front) (length_tables ls) v.first; second = each_limits ls v.back v.second; whole = v.whole }

-- a section of a module that is there is a vector of its entries
abbrev IsThere : SectionKind → List ℕ → Type 0
IsThere s l = (xs : List (Entry s)) × IsSection (number_of s) (IsVector (IsEntry s) xs) l

nothing_there : (k : ℕ) (l more : List ℕ) → l ≡ [] → l ≡ k ∷ more → ⊥
nothing_there k l more e f = let wrong : [] ≡ k ∷ more = sym e ∙ f in absurd cc

of_tables : (m : Module) (l more : List ℕ) → IsListSection 4 IsTableType m.tables l → l ≡ 4 ∷ more → IsThere Tables l
of_tables m l more (inl e) f = absurd (nothing_there 4 l more e.1 f)
of_tables m l more (inr p) f = (map table_of m.tables, record { front = p.front; back = p.back; first = p.first; second = record { content = p.second.content; inside = vector_of_limits m.tables p.second.content p.second.inside; vector = p.second.vector }; whole = p.whole })

listed_there : {X : Type 0} (k : ℕ) (P : X → List ℕ → Type 0) (xs : List X) (l more : List ℕ) → IsListSection k P xs l → l ≡ k ∷ more → (ys : List X) × IsSection k (IsVector P ys) l
listed_there k P xs l more (inl e) f = absurd (nothing_there k l more e.1 f)
listed_there k P xs l more (inr p) f = (xs, p)

there : (s : SectionKind) (m : Module) (l more : List ℕ) → Stage (11 - number_of s) m l → l ≡ number_of s ∷ more → IsThere s l
there Types m l more p f = listed_there 1 (IsEntry Types) m.types l more p f
there Imports m l more p f = listed_there 2 (IsEntry Imports) m.imports l more p f
there Functions m l more p f = listed_there 3 (IsEntry Functions) m.funcs l more p f
there Tables m l more p f = of_tables m l more p f
there Memories m l more p f = listed_there 5 (IsEntry Memories) m.memories l more p f
there Globals m l more p f = listed_there 6 (IsEntry Globals) m.globals l more p f
there Exports m l more p f = listed_there 7 (IsEntry Exports) m.exports l more p f
there Elements m l more p f = listed_there 9 (IsEntry Elements) m.elements l more p f
there Codes m l more p f = listed_there 10 (IsEntry Codes) m.codes l more p f
there Datas m l more p f = listed_there 11 (IsEntry Datas) m.datas l more p f

start_there : (o : Option ℕ) (l more : List ℕ) → IsStartSection o l → l ≡ 8 ∷ more → (i : ℕ) × IsSection 8 (IsU32 i) l
start_there None l more p f = absurd (nothing_there 8 l more p f)
start_there (Some i) l more p f = (i, p)

-- ---- one section stops

no_such_content : {X : Type 0} (P : X → List ℕ → Type 0) → Sure P → (xs : List X) (content : List ℕ) → HasNoEnd P content → IsVector P xs content → ⊥
no_such_content P sure xs content (HasNoEnd.no_count u) v = let t = turn (all_of content v) in u (length xs) t.mid t.first
no_such_content P sure xs content (HasNoEnd.more ys b rest l) v =
    let vectors = sure-vector sure in
    let same = vectors.one ys xs content (b ∷ rest) [] l (all_of content v) in
    let wrong : b ∷ rest ≡ [] = same.1 in
    absurd cc

entry_lacks : {X : Type 0} (P : X → List ℕ → Type 0) → Sure P → (xs : List X) (content rest : List ℕ) → LacksEntry P content rest → IsVector P xs content → ⊥
entry_lacks P sure xs content rest k v = vector_unfit P sure k.count k.entries content k.behind_count rest k.counted k.before k.missing k.none xs [] (all_of content v)

pub section_stops : {X : Type 0} (id : ℕ) (P : X → List ℕ → Type 0) → Sure P → (total : ℕ) (bytes : List ℕ) (at : ℕ) (code : BadCode) → SectionStop id P total bytes at code → (xs : List X) (rest : List ℕ) → Leaves (IsSection id (IsVector P xs)) bytes rest → ⊥
section_stops id P sure total bytes _ _ (SectionStop.no_frame at u place) xs rest l =
    let p = section_parts id (IsVector P xs) bytes rest l in
    u p.0 rest p.2
section_stops id P sure total bytes _ _ (SectionStop.no_end at content left f h place) xs rest l =
    let p = section_parts id (IsVector P xs) bytes rest l in
    let same = frame_one id content p.0 bytes left rest f p.2 in
    no_such_content P sure xs p.0 (subst (λ (c : List ℕ). HasNoEnd P c) same.0 h) p.1
section_stops id P sure total bytes _ _ (SectionStop.no_entry at content left last f h place) xs rest l =
    let p = section_parts id (IsVector P xs) bytes rest l in
    let same = frame_one id content p.0 bytes left rest f p.2 in
    entry_lacks P sure xs p.0 last (subst (λ (c : List ℕ). LacksEntry P c last) same.0 h) p.1

pub start_stops : (total : ℕ) (bytes : List ℕ) (at : ℕ) (code : BadCode) → StartStop total bytes at code → (i : ℕ) (rest : List ℕ) → Leaves (IsSection 8 (IsU32 i)) bytes rest → ⊥
start_stops total bytes _ _ (StartStop.no_frame at u place) i rest l =
    let p = section_parts 8 (IsU32 i) bytes rest l in
    u p.0 rest p.2
start_stops total bytes _ _ (StartStop.no_end at index b content left last f h place) i rest l =
    let p = section_parts 8 (IsU32 i) bytes rest l in
    let same = frame_one 8 content p.0 bytes left rest f p.2 in
    let ends = sure-u32.one index i p.0 (b ∷ last) [] (subst (λ (c : List ℕ). Leaves (IsU32 index) c (b ∷ last)) same.0 h) (all_of p.0 p.1) in
    let wrong : b ∷ last ≡ [] = ends.1 in
    absurd cc
start_stops total bytes _ _ (StartStop.no_index at content left f u place) i rest l =
    let p = section_parts 8 (IsU32 i) bytes rest l in
    let same = frame_one 8 content p.0 bytes left rest f p.2 in
    u i [] (subst (λ (c : List ℕ). Leaves (IsU32 i) c []) (sym same.0) (all_of p.0 p.1))

pub custom_stops : (bytes rest : List ℕ) → IsBadCustom bytes → Leaves IsCustomSection bytes rest → ⊥
custom_stops bytes rest (IsBadCustom.no_frame u) l =
    let p = section_parts 0 (IsSomeName ⌢ Anything) bytes rest l in
    u p.0 rest p.2
custom_stops bytes rest (IsBadCustom.no_name content left f u) l =
    let p = section_parts 0 (IsSomeName ⌢ Anything) bytes rest l in
    let same = frame_one 0 content p.0 bytes left rest f p.2 in
    let names = turn (all_of p.0 p.1) in
    u names.mid (subst (λ (c : List ℕ). Leaves IsSomeName c names.mid) (sym same.0) names.first)

-- ---- up to the section with a number

descend : (k n id : ℕ) (more : List ℕ) (m : Module) → n ≤ k → k ≤ 11 → 1 ≤ n → id ≡ 12 - n → After k m (id ∷ more) → After n m (id ∷ more)
descend zero n id more m below small some e r = absurd (omega arith)
descend (suc k) n id more m below small some e r =
    elim (cases_lt n (suc k)) [
      | inl less ↦
          let not_zero : id ≡ 0 → ⊥ = λ z. omega arith in
          let other : id ≡ 11 - k → ⊥ = λ z. omega arith in
          descend k n id more m (omega arith) (omega arith) some e (past_at (11 - k) id more (listed_at k (omega arith) m) not_zero other r)
      | inr same ↦
          let equal : suc k ≡ n = omega arith in
          subst (λ (x : ℕ). After x m (id ∷ more)) equal r
    ]

at_number : (id last : ℕ) (more : List ℕ) (m : Module) → last < id → id ≤ 11 → After (11 - last) m (id ∷ more) → Here id (Stage (11 - id) m) (After (11 - id) m) (id ∷ more)
at_number id last more m low high r =
    let d = descend (11 - last) (suc (11 - id)) id more m (omega arith) (omega arith) (omega arith) (omega arith) r in
    let e : 11 - (11 - id) ≡ id = omega arith in
    let f : 12 - (11 - id) ≡ id + 1 = omega arith in
    let listed = subst (λ (k : ℕ). Listed k (Stage (11 - id) m)) e (listed_at (11 - id) (omega arith) m) in
    let tail = subst (λ (k : ℕ). Tailed k (After (11 - id) m)) f (tailed (11 - id) (omega arith) m) in
    here_at id more (omega arith) listed tail d

-- ---- all of them

wrong_order : (id last : ℕ) → (id ≡ 0 → ⊥) → (id ≤ last) ⊎ (11 < id) → last ≤ 11 → (id ≡ 0) ⊎ ((12 - (11 - last) ≤ id) × (id ≤ 11)) → ⊥
wrong_order id last some wrong small (inl e) = some e
wrong_order id last some (inl low) small (inr h) = omega arith
wrong_order id last some (inr high) small (inr h) = omega arith

pub excluded : (total last : ℕ) (bytes : List ℕ) (at : ℕ) (code : BadCode) → Stops total last bytes at code → (m : Module) → last ≤ 11 → After (11 - last) m bytes → ⊥
excluded total _ _ _ _ (Stops.number last id more at some wrong place) m small r =
    let tail = tailed (11 - last) (omega arith) m in
    wrong_order id last some wrong small (tail.heads id more r)
excluded total _ _ _ _ (Stops.custom last more at bad place) m small r =
    let tail = tailed (11 - last) (omega arith) m in
    let f = tail.first more r in
    custom_stops (0 ∷ more) f.0 bad f.1
excluded total _ _ _ _ (Stops.section s last more at code low st) m small r =
    let h = at_number (number_of s) last more m low (number_range s).1 r in
    let x = there s m h.l h.others h.section h.first in
    section_stops (number_of s) (IsEntry s) (sure-entry s) total (number_of s ∷ more) at code st x.0 h.t (record { front = h.l; spelled = x.1; whole = h.whole })
excluded total _ _ _ _ (Stops.start last more at code low st) m small r =
    let h = at_number 8 last more m low (omega arith) r in
    let x = start_there m.start h.l h.others h.section h.first in
    start_stops total (8 ∷ more) at code st x.0 h.t (record { front = h.l; spelled = x.1; whole = h.whole })
excluded total _ _ _ _ (Stops.behind_custom last bytes rest at code l st) m small r =
    let tail = tailed (11 - last) (omega arith) m in
    excluded total last rest at code st m small (tail.skip bytes rest l r)
excluded total _ _ _ _ (Stops.behind_section s entries last bytes rest at code low l st) m small r =
    let t = turn l in
    let e = byte-whole t.first in
    let h = at_number (number_of s) last t.mid m low (number_range s).1 (subst (After (11 - last) m) e r) in
    let x = there s m h.l h.others h.section h.first in
    let same = section_one (number_of s) (IsVector (IsEntry s) entries) (IsVector (IsEntry s) x.0) bytes rest h.t l (record { front = h.l; spelled = x.1; whole = e ∙ h.whole }) in
    excluded total (number_of s) rest at code st m (number_range s).1 (subst (After (11 - number_of s) m) (sym same.3) h.rest)
excluded total _ _ _ _ (Stops.behind_start index last bytes rest at code low l st) m small r =
    let t = turn l in
    let e = byte-whole t.first in
    let h = at_number 8 last t.mid m low (omega arith) (subst (After (11 - last) m) e r) in
    let x = start_there m.start h.l h.others h.section h.first in
    let same = section_one 8 (IsU32 index) (IsU32 x.0) bytes rest h.t l (record { front = h.l; spelled = x.1; whole = e ∙ h.whole }) in
    excluded total 8 rest at code st m (omega arith) (subst (After 3 m) (sym same.3) h.rest)

pub no_module : (bytes : List ℕ) (at : ℕ) (code : BadCode) → IsStop bytes at code → (m : Module) → ModuleBytes m bytes → ⊥
no_module bytes _ _ (IsStop.header none) m b = let a = after_header m bytes b.sections in none a.0 a.1
no_module bytes _ _ (IsStop.sections rest at code l st) m b =
    let a = after_header m bytes b.sections in
    excluded (length bytes) 0 rest at code st m (omega arith) (subst (After 11 m) (exactly-rest _ a.1 l) a.2)
no_module bytes _ _ (IsStop.counts v p other) m b =
    let same = same_sections m v bytes b.sections p in
    other (subst (λ (x : Module). length x.funcs ≡ length x.codes) same b.same_count)
