-- Sections one after another.
use Rattle.std.proofs.Common.{◌≡◌, ℕ, suc, ◌+◌, ◌≤◌, List, [], ◌∷◌, ◌++◌, length, map, Option, Result, Ok, Err, refl, sym, ap, subst, ◌∙◌, inl, inr, append-nil, length-append, arith}
use Rattle.std.specs.Borrow.{Bor}
use Rattle.std.specs.Result.{IsErrAnd}
use Rattle.zw_wasm.specs.declared.module.Limits.{Limits}
use Rattle.zw_wasm.specs.declared.module.Module.{Module}
use Rattle.zw_wasm.specs.ModuleBytes.{◌⌢◌, EachInTurn, IsU32, IsVector, IsTableType, IsListSection, IsStartSection, IsHeader, AreCustomSections, Behind, AreFrontSections, AreBackSections, ModuleBytes}
use Rattle.zw_wasm_read.specs.declared.module.Back.{Back}
use Rattle.zw_wasm_read.specs.declared.module.Front.{Front}
use Rattle.zw_wasm_read.specs.declared.stop.BadCode.{BadCode}
use Rattle.zw_wasm_read.specs.declared.stop.BadCode.TheVariants as bad
use Rattle.zw_wasm_read.specs.declared.stop.ReadErr.{ReadErr}
use Rattle.zw_wasm_read.specs.declared.stop.ReadErr.TheVariants as stop
use Rattle.zw_wasm_read.specs.declared.vectors.TableType.{TableType}
use Rattle.zw_wasm_read.specs.Reads.{Leaves}
use Rattle.zw_wasm_read.specs.Sections.{Passed, PassesCustoms, Optional, OptionalStop, ReadsOptional, OptionalStart, OptionalStartStop, ReadsOptionalStart, Continues, FrontRead, ReadsFront, BackRead, ReadsBack, ReadsModule, module_of}
use Rattle.zw_wasm_read.specs.Stops.{Stops, SectionStop, StartStop, SectionKind, number_of, Entry, IsEntry, IsStop}
use Rattle.zw_wasm_read.specs.Tables.{IsTable}
use Rattle.zw_wasm_read.proofs.Excluded.{no_module}
use Rattle.zw_wasm_read.proofs.Leaving.{turn, then, as_kind, no_byte}
use Rattle.zw_wasm_read.proofs.SectionLemmas.{Placed}

-- ---- one section after another

no_customs : (bytes : List ℕ) → Leaves AreCustomSections bytes bytes
no_customs bytes = record { front = []; spelled = record { sections = []; each = tt; whole = refl }; whole = refl }

-- a section that may be left out, and the custom ones behind it
pub listed : {X : Type 0} (id : ℕ) (P : X → List ℕ → Type 0) (total : ℕ) (xs : List X) (bytes rest : List ℕ) → Optional id P total xs bytes rest → Leaves (IsListSection id P xs ⌢ AreCustomSections) bytes rest
listed id P total xs bytes rest (Optional.left_out none same absent) =
    then (record { front = []; spelled = inl (none, refl); whole = refl }) (subst (λ (r : List ℕ). Leaves AreCustomSections bytes r) (sym same) (no_customs bytes))
listed id P total xs bytes rest (Optional.there mid first section passed) = then (as_kind (λ front p. inr p) section) passed.customs

pub started : (total : ℕ) (start : Option ℕ) (bytes rest : List ℕ) → OptionalStart total bytes rest start → Leaves (IsStartSection start ⌢ AreCustomSections) bytes rest
started total _ bytes rest (OptionalStart.left_out same absent) =
    then (no_byte bytes) (subst (λ (r : List ℕ). Leaves AreCustomSections bytes r) (sym same) (no_customs bytes))
started total _ bytes rest (OptionalStart.there index mid first section passed) = then section passed.customs

-- the first of them, with the custom ones before it
pub begin : {L : List ℕ → Type 0} {bytes mid rest : List ℕ} → Leaves AreCustomSections bytes mid → Leaves (L ⌢ AreCustomSections) mid rest → Leaves (Behind L ⌢ AreCustomSections) bytes rest
begin c l = let t = turn l in then (then c t.first) t.second

-- one more of them
pub go_on : {Q L : List ℕ → Type 0} {bytes mid rest : List ℕ} → Leaves (Q ⌢ AreCustomSections) bytes mid → Leaves (L ⌢ AreCustomSections) mid rest → Leaves (Q ⌢ Behind L ⌢ AreCustomSections) bytes rest
go_on q l =
    let s = turn q in
    let t = turn l in
    then (then s.first (then s.second t.first)) t.second

-- what is left is no longer than what there was
pub shorter : {P : List ℕ → Type 0} {bytes rest : List ℕ} → Leaves P bytes rest → length rest ≤ length bytes
shorter {P} {bytes} {rest} l = omega (arith, ap length l.whole, length-append l.front rest)

pub optional-shorter : {X : Type 0} (id : ℕ) (P : X → List ℕ → Type 0) (total : ℕ) (xs : List X) (bytes rest : List ℕ) → Optional id P total xs bytes rest → length rest ≤ length bytes
optional-shorter id P total xs bytes rest o = shorter (listed id P total xs bytes rest o)

pub start-shorter : (total : ℕ) (start : Option ℕ) (bytes rest : List ℕ) → OptionalStart total bytes rest start → length rest ≤ length bytes
start-shorter total start bytes rest o = shorter (started total start bytes rest o)

-- ---- tables

each_table : (ts : List TableType) (bytes : List ℕ) → EachInTurn IsTable ts bytes → EachInTurn IsTableType (map (λ (t : TableType). t.limits) ts) bytes
each_table [] bytes e = e
each_table (t ∷ ts) bytes e = record { front = e.front; back = e.back; first = e.first; second = each_table ts e.back e.second; whole = e.whole }

length_same : (ts : List TableType) → length ts ≡ length (map (λ (t : TableType). t.limits) ts)
length_same [] = refl
length_same (t ∷ ts) = ap (λ (n : ℕ). suc n) (length_same ts)

vector_of_tables : (ts : List TableType) (bytes : List ℕ) → IsVector IsTable ts bytes → IsVector IsTableType (map (λ (t : TableType). t.limits) ts) bytes
vector_of_tables ts bytes v = record {
  front = v.front;
  back = v.back;
  first = subst (λ (n : ℕ). IsU32 n v.front) (length_same ts) v.first;
  second = each_table ts v.back v.second;
  whole = v.whole;
}

none_of_tables : (ts : List TableType) → ts ≡ [] → map (λ (t : TableType). t.limits) ts ≡ []
none_of_tables [] e = refl
none_of_tables (t ∷ ts) e = absurd cc

section_of_tables : (ts : List TableType) (bytes : List ℕ) → IsListSection 4 IsTable ts bytes → IsListSection 4 IsTableType (map (λ (t : TableType). t.limits) ts) bytes
section_of_tables ts bytes (inl e) = inl (none_of_tables ts e.0, e.1)
section_of_tables ts bytes (inr s) = inr (record {
  front = s.front;
  back = s.back;
  first = s.first;
  second = record { content = s.second.content; inside = vector_of_tables ts s.second.content s.second.inside; vector = s.second.vector };
  whole = s.whole;
})

pub listed_tables : (total : ℕ) (ts : List TableType) (limits : List Limits) (bytes rest : List ℕ) → limits ≡ map (λ (t : TableType). t.limits) ts → Optional 4 IsTable total ts bytes rest → Leaves (IsListSection 4 IsTableType limits ⌢ AreCustomSections) bytes rest
listed_tables total ts limits bytes rest e o =
    let t = turn (listed 4 IsTable total ts bytes rest o) in
    subst (λ (ls : List Limits). Leaves (IsListSection 4 IsTableType ls ⌢ AreCustomSections) bytes rest) (sym e)
    (then (as_kind (λ front p. section_of_tables ts front p) t.first) t.second)

-- ---- how far reading has come

pub at_first : (total : ℕ) (bytes rest : List ℕ) → Passed total 0 bytes rest → Continues total bytes 1 rest
at_first total bytes rest p = record {
  last = 0;
  below = omega arith;
  later = p.later;
  next = λ id more e. let n = p.next id more e in (omega (arith, n.0), n.1);
}

pub next_section : (s : SectionKind) (total : ℕ) (first bytes rest : List ℕ) (xs : List (Entry s)) → Continues total first (number_of s) bytes → Optional (number_of s) (IsEntry s) total xs bytes rest → Continues total first (number_of s + 1) rest
next_section s total first bytes rest xs c (Optional.left_out none same absent) = record {
  last = c.last;
  below = omega (arith, c.below);
  later = subst (λ (r : List ℕ). (at : ℕ) (code : BadCode) → Stops total c.last r at code → Stops total 0 first at code) (sym same) c.later;
  next = λ id more e.
      let n = c.next id more (sym same ∙ e) in
      let other : id ≡ number_of s → ⊥ = λ f. absent more (sym same ∙ e ∙ ap (λ (b : ℕ). b ∷ more) f) in
      (omega (arith, n.0, other), n.1);
}
next_section s total first bytes rest xs c (Optional.there mid f section passed) = record {
  last = number_of s;
  below = omega arith;
  later = λ at code st. c.later at code (Stops.behind_section s xs c.last bytes mid at code c.below section (passed.later at code st));
  next = λ id more e. let n = passed.next id more e in (omega (arith, n.0), n.1);
}

pub next_start : (total : ℕ) (first bytes rest : List ℕ) (start : Option ℕ) → Continues total first 8 bytes → OptionalStart total bytes rest start → Continues total first 9 rest
next_start total first bytes rest _ c (OptionalStart.left_out same absent) = record {
  last = c.last;
  below = omega (arith, c.below);
  later = subst (λ (r : List ℕ). (at : ℕ) (code : BadCode) → Stops total c.last r at code → Stops total 0 first at code) (sym same) c.later;
  next = λ id more e.
      let n = c.next id more (sym same ∙ e) in
      let other : id ≡ 8 → ⊥ = λ f. absent more (sym same ∙ e ∙ ap (λ (b : ℕ). b ∷ more) f) in
      (omega (arith, n.0, other), n.1);
}
next_start total first bytes rest _ c (OptionalStart.there index mid f section passed) = record {
  last = 8;
  below = omega arith;
  later = λ at code st. c.later at code (Stops.behind_start index c.last bytes mid at code c.below section (passed.later at code st));
  next = λ id more e. let n = passed.next id more e in (omega (arith, n.0), n.1);
}

stops_here : (s : SectionKind) (total : ℕ) (first bytes : List ℕ) (at : ℕ) (code : BadCode) → Continues total first (number_of s) bytes → OptionalStop (number_of s) (IsEntry s) total bytes at code → Stops total 0 first at code
stops_here s total first bytes at code c (OptionalStop.within f st) =
    c.later at code (subst (λ (b : List ℕ). Stops total c.last b at code) (sym f.1) (Stops.section s c.last f.0 at code c.below (subst (λ (b : List ℕ). SectionStop (number_of s) (IsEntry s) total b at code) f.1 st)))
stops_here s total first bytes at code c (OptionalStop.past xs mid l st) =
    c.later at code (Stops.behind_section s xs c.last bytes mid at code c.below l st)

start_stops : (total : ℕ) (first bytes : List ℕ) (at : ℕ) (code : BadCode) → Continues total first 8 bytes → OptionalStartStop total bytes at code → Stops total 0 first at code
start_stops total first bytes at code c (OptionalStartStop.within f st) =
    c.later at code (subst (λ (b : List ℕ). Stops total c.last b at code) (sym f.1) (Stops.start c.last f.0 at code c.below (subst (λ (b : List ℕ). StartStop total b at code) f.1 st)))
start_stops total first bytes at code c (OptionalStartStop.past index mid l st) =
    c.later at code (Stops.behind_start index c.last bytes mid at code c.below l st)

-- ---- the exits of the two readers

pub customs_exit : (total : ℕ) (bytes : List ℕ) (r : Result (Front × Bor (List ℕ)) ReadErr) (e : ReadErr) → IsErrAnd r (λ f. f ≡ e) → PassesCustoms total 0 bytes (Err e) → ReadsFront total bytes r
customs_exit total bytes (Ok p) e h q = absurd h
customs_exit total bytes (Err f) (stop.Bad at code) h q = rw h q
customs_exit total bytes (Err f) stop.Oom h q = rw h tt

pub front_exit : (s : SectionKind) (total : ℕ) (bytes mid : List ℕ) (r : Result (Front × Bor (List ℕ)) ReadErr) (e : ReadErr) → IsErrAnd r (λ f. f ≡ e) → Continues total bytes (number_of s) mid → ReadsOptional (number_of s) (IsEntry s) total mid (Err e) → ReadsFront total bytes r
front_exit s total bytes mid (Ok p) e h c q = absurd h
front_exit s total bytes mid (Err f) (stop.Bad at code) h c q = rw h (stops_here s total bytes mid at code c q)
front_exit s total bytes mid (Err f) stop.Oom h c q = rw h tt

pub start_exit : (total : ℕ) (bytes : List ℕ) (r : Result (Back × Bor (List ℕ)) ReadErr) (e : ReadErr) → IsErrAnd r (λ f. f ≡ e) → ReadsOptionalStart total bytes (Err e) → ReadsBack total bytes r
start_exit total bytes (Ok p) e h q = absurd h
start_exit total bytes (Err f) (stop.Bad at code) h q = rw h (λ first c. start_stops total first bytes at code c q)
start_exit total bytes (Err f) stop.Oom h q = rw h tt

pub back_exit : (s : SectionKind) (total : ℕ) (bytes mid : List ℕ) (r : Result (Back × Bor (List ℕ)) ReadErr) (e : ReadErr) → IsErrAnd r (λ f. f ≡ e) → ((first : List ℕ) → Continues total first 8 bytes → Continues total first (number_of s) mid) → ReadsOptional (number_of s) (IsEntry s) total mid (Err e) → ReadsBack total bytes r
back_exit s total bytes mid (Ok p) e h c q = absurd h
back_exit s total bytes mid (Err f) (stop.Bad at code) h c q = rw h (λ first d. stops_here s total first mid at code (c first d) q)
back_exit s total bytes mid (Err f) stop.Oom h c q = rw h tt

-- ---- all together

pub nothing_left : (total : ℕ) (bytes rest : List ℕ) → Continues total bytes 12 rest → rest ≡ []
nothing_left total bytes [] c = refl
nothing_left total bytes (id ∷ more) c = let n = c.next id more refl in absurd (omega (arith, n.0, n.1))

pub whole : (total : ℕ) (f : Front) (b : Back) (bytes start mid rest : List ℕ) → Leaves IsHeader bytes start → FrontRead total f start mid → BackRead total b mid rest → (IsHeader ⌢ AreFrontSections (module_of f b) ⌢ AreBackSections (module_of f b) ⌢ AreCustomSections) bytes
whole total f b bytes start mid rest header front back =
    let t = turn front.sections in
    let u = turn (back.sections t.mid t.second) in
    let all = then (then (then header t.first) u.first) u.second in
    let none = nothing_left total start rest (back.goes start front.goes) in
    let e : bytes ≡ all.front = all.whole ∙ ap (λ (r : List ℕ). all.front ++ r) none ∙ append-nil all.front in
    subst (λ (bs : List ℕ). (IsHeader ⌢ AreFrontSections (module_of f b) ⌢ AreBackSections (module_of f b) ⌢ AreCustomSections) bs) (sym e) all.spelled

pub module_read : (total : ℕ) (f : Front) (b : Back) (bytes start mid rest : List ℕ) → Leaves IsHeader bytes start → FrontRead total f start mid → BackRead total b mid rest → length f.funcs ≡ length b.codes → ModuleBytes (module_of f b) bytes
module_read total f b bytes start mid rest header front back same = record { same_count = same; sections = whole total f b bytes start mid rest header front back }

-- a stop, and that there is no module
stopped : (bytes : List ℕ) (at : ℕ) (code : BadCode) → IsStop bytes at code → IsStop bytes at code × ((m : Module) → ModuleBytes m bytes → ⊥)
stopped bytes at code s = (s, no_module bytes at code s)

pub wrong_header : (bytes : List ℕ) (r : ReadErr) → Placed (length bytes) (length bytes) r bad.Header → ((rest : List ℕ) → Leaves IsHeader bytes rest → ⊥) → ReadsModule bytes (Err r)
wrong_header bytes r s none = let zero : s.0 ≡ 0 = omega (arith, s.1) in rw (s.2, zero) (stopped bytes 0 bad.Header (IsStop.header none))

pub front_stop : (bytes start : List ℕ) (r : Result Module ReadErr) (e : ReadErr) → IsErrAnd r (λ f. f ≡ e) → Leaves IsHeader bytes start → ReadsFront (length bytes) start (Err e) → ReadsModule bytes r
front_stop bytes start (Ok m) e h l q = absurd h
front_stop bytes start (Err f) (stop.Bad at code) h l q = rw h (stopped bytes at code (IsStop.sections start at code l q))
front_stop bytes start (Err f) stop.Oom h l q = rw h tt

pub back_stop : (bytes start mid : List ℕ) (front : Front) (r : Result Module ReadErr) (e : ReadErr) → IsErrAnd r (λ f. f ≡ e) → Leaves IsHeader bytes start → FrontRead (length bytes) front start mid → ReadsBack (length bytes) mid (Err e) → ReadsModule bytes r
back_stop bytes start mid front (Ok m) e h l f q = absurd h
back_stop bytes start mid front (Err d) (stop.Bad at code) h l f q = rw h (stopped bytes at code (IsStop.sections start at code l (q start f.goes)))
back_stop bytes start mid front (Err d) stop.Oom h l f q = rw h tt

pub counts_differ : (f : Front) (b : Back) (bytes start mid rest : List ℕ) (r : ReadErr) → Placed (length bytes) 0 r bad.Counts → Leaves IsHeader bytes start → FrontRead (length bytes) f start mid → BackRead (length bytes) b mid rest → (length f.funcs ≡ length b.codes → ⊥) → ReadsModule bytes (Err r)
counts_differ f b bytes start mid rest r s header front back other =
    let end : s.0 ≡ length bytes = omega (arith, s.1) in
    rw (s.2, end) (stopped bytes (length bytes) bad.Counts (IsStop.counts (module_of f b) (whole (length bytes) f b bytes start mid rest header front back) other))
