-- Sections and what stops them.
use Rattle.std.proofs.Common.{◌≡◌, ℕ, ◌+◌, ◌-◌, ◌<◌, ◌≤◌, Bool, true, false, eqb, List, [], ◌∷◌, ◌++◌, length, take, drop, Option, Result, Ok, Err, refl, sym, ap, subst, ◌∙◌, append_assoc, append-nil, length-append, arith}
use Rattle.std.proofs.lemmas.List.{take_rest}
use Rattle.std.proofs.lemmas.Bool.{eqb-false, eqb-true}
use Rattle.std.specs.Borrow.{Bor}
use Rattle.std.specs.List.{concat, AllByRecursion}
use Rattle.std.specs.Result.{IsErrAnd}
use Rattle.zw_wasm.specs.ModuleBytes.{◌⌢◌, IsU32, EachInTurn, IsVector, IsByteVector, IsName, IsSomeName, IsSection, IsCustomSection, AreCustomSections, Anything}
use Rattle.zw_wasm_read.specs.declared.sections.ContentErr.{ContentErr}
use Rattle.zw_wasm_read.specs.declared.sections.ContentErr.TheVariants as content_err
use Rattle.zw_wasm_read.specs.declared.stop.BadCode.{BadCode}
use Rattle.zw_wasm_read.specs.declared.stop.BadCode.TheVariants as bad
use Rattle.zw_wasm_read.specs.declared.stop.ReadErr.{ReadErr}
use Rattle.zw_wasm_read.specs.declared.stop.ReadErr.TheVariants as stop
use Rattle.zw_wasm_read.specs.Reads.{Leaves, IsUnfit}
use Rattle.zw_wasm_read.specs.Sections.{BeginsWith, IsFirst, IsInOrder, Passed, PassesCustom, PassesCustoms, ReadsSection, ReadsStart, OptionalStop, ReadsOptional, ReadsEntries, OptionalStartStop, ReadsOptionalStart}
use Rattle.zw_wasm_read.specs.Stops.{IsFrame, StandsAt, HasNoEnd, LacksEntry, SectionStop, StartStop, IsBadCustom, Stops}
use Rattle.zw_wasm_read.proofs.Leaving.{turn, then, as_kind, byte, byte-whole}
use Rattle.zw_wasm_read.proofs.Uniqueness.{behind_byte}
use Rattle.zw_wasm_read.proofs.EntryLemmas.{all_is}
use Rattle.zw_wasm_read.proofs.VectorLemmas.{whole_vector}

-- what stands behind the first byte
pub behind_first : (bytes more : List ℕ) (id : ℕ) → bytes ≡ id ∷ more → take (length bytes - 1) (drop 1 bytes) ≡ more
behind_first bytes more id e = rw (e, take_rest) refl

pub frame : (id : ℕ) (bytes content rest : List ℕ) → BeginsWith id bytes → Leaves (IsByteVector content) (take (length bytes - 1) (drop 1 bytes)) rest → Leaves (IsFrame id content) bytes rest
frame id bytes content rest first l =
    then (byte id bytes first.0 first.1) (subst (λ (at : List ℕ). Leaves (IsByteVector content) at rest) (behind_first bytes first.0 id first.1) l)

pub unframed : (id : ℕ) (bytes : List ℕ) → BeginsWith id bytes → IsUnfit IsByteVector (take (length bytes - 1) (drop 1 bytes)) → IsUnfit (IsFrame id) bytes
unframed id bytes first u content rest l =
    let m = behind_byte (byte id bytes first.0 first.1) l in
    u content rest (subst (λ (at : List ℕ). Leaves (IsByteVector content) at rest) (sym (behind_first bytes first.0 id first.1)) m)

-- a section from its frame
pub of_frame : (id : ℕ) (P : List ℕ → Type 0) (bytes content rest : List ℕ) → Leaves (IsFrame id content) bytes rest → P content → Leaves (IsSection id P) bytes rest
of_frame id P bytes content rest l p =
    let t = turn l in
    then t.first (as_kind (λ front v. record { content = content; inside = p; vector = v }) t.second)

-- ---- custom sections

pub custom : (bytes content name rest after : List ℕ) → Leaves (IsFrame 0 content) bytes rest → Leaves (IsName name) content after → Leaves IsCustomSection bytes rest
custom bytes content name rest after l n =
    of_frame 0 (IsSomeName ⌢ Anything) bytes content rest l (record { front = n.front; back = after; first = (name, n.spelled); second = tt; whole = n.whole })

pub nameless : (content : List ℕ) → IsUnfit IsName content → (behind : List ℕ) → Leaves IsSomeName content behind → ⊥
nameless content u behind l = u l.spelled.0 behind (record { front = l.front; spelled = l.spelled.1; whole = l.whole })

abbrev pub Placed : ℕ → ℕ → ReadErr → BadCode → Type 0
Placed total left r code = (at : ℕ) × (at + left ≡ total) × (r ≡ stop.Bad at code)

pub custom_stop : (total : ℕ) (bytes : List ℕ) (r : ReadErr) → Placed total (length bytes) r bad.Section → IsBadCustom bytes → PassesCustom total bytes (Err r)
custom_stop total bytes r s b = rw s.2 (b, refl, s.1)

-- Custom sections so far.
pub record Over (total last : ℕ) (bytes rest : List ℕ) : Type 0 where
  pub customs : Leaves AreCustomSections bytes rest
  pub later : (at : ℕ) (code : BadCode) → Stops total last rest at code → Stops total last bytes at code
  pub within : length rest ≤ length bytes

pub none_over : (total last : ℕ) (bytes : List ℕ) → Over total last bytes bytes
none_over total last bytes = record {
  customs = record { front = []; spelled = record { sections = []; each = tt; whole = refl }; whole = refl };
  later = λ at code s. s;
  within = omega arith;
}

all_push : (P : List ℕ → Type 0) (xs : List (List ℕ)) (x : List ℕ) → AllByRecursion P xs → P x → AllByRecursion P (xs ++ x ∷ [])
all_push P [] x p q = (q, tt)
all_push P (y ∷ xs) x p q = (p.0, all_push P xs x p.1 q)

concat_push : (xs : List (List ℕ)) (x : List ℕ) → concat (xs ++ x ∷ []) ≡ concat xs ++ x
concat_push [] x = append-nil x
concat_push (y ∷ xs) x = ap (λ (l : List ℕ). y ++ l) (concat_push xs x) ∙ sym (append_assoc y (concat xs) x)

customs_push : (bytes mid rest : List ℕ) → Leaves AreCustomSections bytes mid → Leaves IsCustomSection mid rest → Leaves AreCustomSections bytes rest
customs_push bytes mid rest l m = record {
  front = l.front ++ m.front;
  spelled = record {
    sections = l.spelled.sections ++ m.front ∷ [];
    each = all_push IsCustomSection l.spelled.sections m.front l.spelled.each m.spelled;
    whole = ap (λ (f : List ℕ). f ++ m.front) l.spelled.whole ∙ sym (concat_push l.spelled.sections m.front);
  };
  whole = l.whole ∙ ap (λ (f : List ℕ). l.front ++ f) m.whole ∙ sym (append_assoc l.front m.front rest);
}

pub section_shorter : (id : ℕ) (P : List ℕ → Type 0) (bytes rest : List ℕ) → Leaves (IsSection id P) bytes rest → length rest < length bytes
section_shorter id P bytes rest l =
    let t = turn l in
    omega (arith, ap length (byte-whole t.first), ap length t.second.whole, length-append t.second.front rest)

pub one_over : (total last : ℕ) (bytes mid rest : List ℕ) → Over total last bytes mid → Leaves IsCustomSection mid rest → Over total last bytes rest
one_over total last bytes mid rest o l = record {
  customs = customs_push bytes mid rest o.customs l;
  later = λ at code s. o.later at code (Stops.behind_custom last mid rest at code l s);
  within = omega (arith, section_shorter 0 (IsSomeName ⌢ Anything) mid rest l, o.within);
}

pub exit_custom : (total last : ℕ) (bytes mid : List ℕ) (e : ReadErr) → Over total last bytes mid → BeginsWith 0 mid → PassesCustom total mid (Err e) → PassesCustoms total last bytes (Err e)
exit_custom total last bytes mid (stop.Bad at code) o first p =
    let s = subst (λ (b : List ℕ). Stops total last b at bad.Section) (sym first.1) (Stops.custom last first.0 at (subst IsBadCustom first.1 p.0) (subst (λ (b : List ℕ). StandsAt total at b) first.1 p.2)) in
    o.later at code (subst (λ (c : BadCode). Stops total last mid at c) (sym p.1) s)
exit_custom total last bytes mid stop.Oom o first p = tt

pub not_first : (id : ℕ) (bytes : List ℕ) (b : Bool) → IsFirst id bytes b → b ≡ false → (more : List ℕ) → bytes ≡ id ∷ more → ⊥
not_first id bytes true f e = absurd cc
not_first id bytes false f e = f

pub is_first : (id : ℕ) (bytes : List ℕ) (b : Bool) → IsFirst id bytes b → b ≡ true → BeginsWith id bytes
is_first id bytes true f e = f
is_first id bytes false f e = absurd cc

pub wrong_number : (total last : ℕ) (bytes mid : List ℕ) (b : Bool) (r : ReadErr) → Over total last bytes mid → ((more : List ℕ) → mid ≡ 0 ∷ more → ⊥) → IsInOrder last mid b → b ≡ false → Placed total (length mid) r bad.Section → PassesCustoms total last bytes (Err r)
wrong_number total last bytes mid true r o not_custom w e s = absurd cc
wrong_number total last bytes mid false r o not_custom w e s =
    let some : w.0 ≡ 0 → ⊥ = λ zero. not_custom w.1 (w.2 ∙ ap (λ (id : ℕ). id ∷ w.1) zero) in
    rw s.2 (o.later s.0 bad.Section (subst (λ (b : List ℕ). Stops total last b s.0 bad.Section) (sym w.2) (Stops.number last w.0 w.1 s.0 some w.3 (subst (λ (b : List ℕ). StandsAt total s.0 b) w.2 s.1))))

pub passed : (total last : ℕ) (bytes rest : List ℕ) → Over total last bytes rest → ((id : ℕ) (more : List ℕ) → rest ≡ id ∷ more → (last < id) × (id ≤ 11)) → Passed total last bytes rest
passed total last bytes rest o next = record { customs = o.customs; next = next; later = o.later }

pub in_order : (total last : ℕ) (bytes rest : List ℕ) (b : Bool) → Over total last bytes rest → IsInOrder last rest b → b ≡ true → Passed total last bytes rest
in_order total last bytes rest true o n e = passed total last bytes rest o n
in_order total last bytes rest false o n e = absurd cc

pub exit_customs : (total last : ℕ) (bytes mid : List ℕ) (r : Result (Bor (List ℕ)) ReadErr) (e : ReadErr) → IsErrAnd r (λ f. f ≡ e) → Over total last bytes mid → BeginsWith 0 mid → PassesCustom total mid (Err e) → PassesCustoms total last bytes r
exit_customs total last bytes mid (Ok p) e h o first q = absurd h
exit_customs total last bytes mid (Err f) e h o first q = rw h (exit_custom total last bytes mid e o first q)

-- ---- contents

empty : (xs : List ℕ) → length xs ≡ 0 → xs ≡ []
empty [] e = refl
empty (x ∷ xs) e = absurd (omega arith)

pub no_count : {X : Type 0} (P : X → List ℕ → Type 0) (content : List ℕ) → IsUnfit IsU32 content → HasNoEnd P content
no_count P content u = HasNoEnd.no_count u

left_over : {X : Type 0} (P : X → List ℕ → Type 0) (entries : List X) (content : List ℕ) (rest : List ℕ) → Leaves (IsVector P entries) content rest → (length rest ≡ 0 → ⊥) → HasNoEnd P content
left_over P entries content [] l some = absurd (some refl)
left_over P entries content (b ∷ rest) l some = HasNoEnd.more entries b rest l

pub bytes_left : {X : Type 0} (P : X → List ℕ → Type 0) (n : ℕ) (xs : List X) (content start rest : List ℕ) (b : Bool) → Leaves (IsU32 n) content start → Leaves (EachInTurn P xs) start rest → length xs ≤ n → n ≤ length xs → b ≡ eqb (length rest) 0 → b ≡ false → HasNoEnd P content
bytes_left P n xs content start rest b count all few many e f =
    let h : eqb (length rest) 0 ≡ false = sym e ∙ f in
    left_over P xs content rest (whole_vector P n xs content start rest count all few many) (λ none. omega (arith, eqb-false (length rest) 0 h))

pub all_entries : {X : Type 0} (P : X → List ℕ → Type 0) (n : ℕ) (xs : List X) (content start rest : List ℕ) (b : Bool) → Leaves (IsU32 n) content start → Leaves (EachInTurn P xs) start rest → length xs ≤ n → n ≤ length xs → b ≡ eqb (length rest) 0 → b ≡ true → IsVector P xs content
all_entries P n xs content start rest b count all few many e f =
    let h : eqb (length rest) 0 ≡ true = sym e ∙ f in
    all_is (whole_vector P n xs content start rest count all few many) (empty rest (eqb-true (length rest) 0 h))

pub missing_entry : {X : Type 0} (P : X → List ℕ → Type 0) (n : ℕ) (xs : List X) (content start rest : List ℕ) → Leaves (IsU32 n) content start → Leaves (EachInTurn P xs) start rest → length xs < n → IsUnfit P rest → LacksEntry P content rest
missing_entry P n xs content start rest count all few u = record { count = n; entries = xs; behind_count = start; counted = count; before = all; missing = few; none = u }

-- ---- sections

pub stop_no_frame : {X : Type 0} (id : ℕ) (P : X → List ℕ → Type 0) (total : ℕ) (bytes : List ℕ) (r : ReadErr) → Placed total (length bytes) r bad.Section → IsUnfit (IsFrame id) bytes → ReadsSection id P total bytes (Err r)
stop_no_frame id P total bytes r s u = rw s.2 (SectionStop.no_frame s.0 u s.1)

pub stop_no_end : {X : Type 0} (id : ℕ) (P : X → List ℕ → Type 0) (total : ℕ) (bytes content rest : List ℕ) (r : ReadErr) → Placed total (length bytes) r bad.Section → Leaves (IsFrame id content) bytes rest → HasNoEnd P content → ReadsSection id P total bytes (Err r)
stop_no_end id P total bytes content rest r s l h = rw s.2 (SectionStop.no_end s.0 content rest l h s.1)

pub stop_no_entry : {X : Type 0} (id : ℕ) (P : X → List ℕ → Type 0) (total left : ℕ) (bytes content rest last : List ℕ) (r : ReadErr) → Placed total (left + length rest) r bad.Entry → Leaves (IsFrame id content) bytes rest → length last ≡ left → LacksEntry P content last → ReadsSection id P total bytes (Err r)
stop_no_entry id P total left bytes content rest last r s l e h =
    let at : StandsAt total s.0 (last ++ rest) = omega (arith, s.1, length-append last rest) in
    rw s.2 (SectionStop.no_entry s.0 content rest last l h at)

pub start_no_frame : (total : ℕ) (bytes : List ℕ) (r : ReadErr) → Placed total (length bytes) r bad.Section → IsUnfit (IsFrame 8) bytes → ReadsStart total bytes (Err r)
start_no_frame total bytes r s u = rw s.2 (StartStop.no_frame s.0 u s.1)

start_left : (total index : ℕ) (bytes content rest left : List ℕ) (at : ℕ) → StandsAt total at bytes → Leaves (IsFrame 8 content) bytes rest → Leaves (IsU32 index) content left → (length left ≡ 0 → ⊥) → StartStop total bytes at bad.Section
start_left total index bytes content rest [] at s l m some = absurd (some refl)
start_left total index bytes content rest (b ∷ left) at s l m some = StartStop.no_end at index b content rest left l m s

pub start_no_end : (total index : ℕ) (bytes content rest left : List ℕ) (b : Bool) (r : ReadErr) → Placed total (length bytes) r bad.Section → Leaves (IsFrame 8 content) bytes rest → Leaves (IsU32 index) content left → b ≡ eqb (length left) 0 → b ≡ false → ReadsStart total bytes (Err r)
start_no_end total index bytes content rest left b r s l m e f =
    let h : eqb (length left) 0 ≡ false = sym e ∙ f in
    rw s.2 (start_left total index bytes content rest left s.0 s.1 l m (λ none. omega (arith, eqb-false (length left) 0 h)))

pub start_no_index : (total : ℕ) (bytes content rest : List ℕ) (r : ReadErr) → Placed total (length content + length rest) r bad.Entry → Leaves (IsFrame 8 content) bytes rest → IsUnfit IsU32 content → ReadsStart total bytes (Err r)
start_no_index total bytes content rest r s l u =
    let at : StandsAt total s.0 (content ++ rest) = omega (arith, s.1, length-append content rest) in
    rw s.2 (StartStop.no_index s.0 content rest l u at)

pub start_section : (index : ℕ) (bytes content rest left : List ℕ) (b : Bool) → Leaves (IsFrame 8 content) bytes rest → Leaves (IsU32 index) content left → b ≡ eqb (length left) 0 → b ≡ true → Leaves (IsSection 8 (IsU32 index)) bytes rest
start_section index bytes content rest left b l m e f =
    let h : eqb (length left) 0 ≡ true = sym e ∙ f in
    of_frame 8 (IsU32 index) bytes content rest l (all_is m (empty left (eqb-true (length left) 0 h)))

-- ---- optional sections

pub optional_exit : {X : Type 0} (id : ℕ) (P : X → List ℕ → Type 0) (total : ℕ) (bytes : List ℕ) (r : Result (List X × Bor (List ℕ)) ReadErr) (e : ReadErr) → IsErrAnd r (λ f. f ≡ e) → BeginsWith id bytes → ReadsSection id P total bytes (Err e) → ReadsOptional id P total bytes r
optional_exit id P total bytes (Ok p) e h first q = absurd h
optional_exit id P total bytes (Err f) (stop.Bad at code) h first q = rw h (OptionalStop.within first q)
optional_exit id P total bytes (Err f) stop.Oom h first q = rw h tt

pub optional_past : {X : Type 0} (id : ℕ) (P : X → List ℕ → Type 0) (total : ℕ) (xs : List X) (bytes mid : List ℕ) (r : Result (List X × Bor (List ℕ)) ReadErr) (e : ReadErr) → IsErrAnd r (λ f. f ≡ e) → Leaves (IsSection id (IsVector P xs)) bytes mid → PassesCustoms total id mid (Err e) → ReadsOptional id P total bytes r
optional_past id P total xs bytes mid (Ok p) e h l q = absurd h
optional_past id P total xs bytes mid (Err f) (stop.Bad at code) h l q = rw h (OptionalStop.past xs mid l q)
optional_past id P total xs bytes mid (Err f) stop.Oom h l q = rw h tt

-- ---- answers by their cause

pub no_end_of : {X : Type 0} (P : X → List ℕ → Type 0) (content : List ℕ) (e : ContentErr) → ReadsEntries P content (Err e) → e ≡ content_err.NoEnd → HasNoEnd P content
no_end_of P content content_err.NoEnd r e = r
no_end_of P content (content_err.NoEntry left) r e = absurd cc
no_end_of P content content_err.Oom r e = absurd cc

pub no_entry_of : {X : Type 0} (P : X → List ℕ → Type 0) (content : List ℕ) (e : ContentErr) (left : ℕ) → ReadsEntries P content (Err e) → e ≡ content_err.NoEntry left → (rest : List ℕ) × (length rest ≡ left) × LacksEntry P content rest
no_entry_of P content content_err.NoEnd left r e = absurd cc
no_entry_of P content (content_err.NoEntry n) left r e = let same : n ≡ left = cc in (r.0, r.1 ∙ same, r.2)
no_entry_of P content content_err.Oom left r e = absurd cc

pub start_past : (total index : ℕ) (bytes mid : List ℕ) (r : Result (Option ℕ × Bor (List ℕ)) ReadErr) (e : ReadErr) → IsErrAnd r (λ f. f ≡ e) → Leaves (IsSection 8 (IsU32 index)) bytes mid → PassesCustoms total 8 mid (Err e) → ReadsOptionalStart total bytes r
start_past total index bytes mid (Ok p) e h l q = absurd h
start_past total index bytes mid (Err f) (stop.Bad at code) h l q = rw h (OptionalStartStop.past index mid l q)
start_past total index bytes mid (Err f) stop.Oom h l q = rw h tt
