-- Two stops of one list of bytes are the same.
use Rattle.std.proofs.Common.{◌≡◌, ◌⊎◌, ℕ, ◌<◌, ◌≤◌, List, ◌∷◌, ◌++◌, length, cond, nat_eq, refl, sym, ap, subst, ◌∙◌, inl, inr, arith}
use Rattle.std.proofs.lemmas.Bool.{cases_order}
use Rattle.zw_wasm.specs.declared.module.Module.{Module}
use Rattle.zw_wasm.specs.ModuleBytes.{IsU32, EachInTurn, IsVector, IsSection, IsCustomSection, IsSomeName, Anything, ◌⌢◌, IsHeader}
use Rattle.zw_wasm_read.specs.declared.stop.BadCode.{BadCode}
use Rattle.zw_wasm_read.specs.declared.stop.BadCode.TheVariants as bad
use Rattle.zw_wasm_read.specs.Reads.{Leaves, IsUnfit}
use Rattle.zw_wasm_read.specs.Stops.{StandsAt, Stops, SectionStop, StartStop, HasNoEnd, LacksEntry, IsBadCustom, IsStop, IsFrame, SectionKind, Types, Imports, Functions, Tables, Memories, Globals, Exports, Elements, Codes, Datas, number_of, Entry, IsEntry}
use Rattle.zw_wasm_read.specs.Uniqueness.{Sure}
use Rattle.zw_wasm_read.proofs.Excluded.{sure-entry, number_range, section_stops, start_stops, custom_stops, excluded}
use Rattle.zw_wasm_read.proofs.Leaving.{turn, byte-whole}
use Rattle.zw_wasm_read.proofs.Tails.{After, after_header, frame_one, section_one}
use Rattle.zw_wasm_read.proofs.Uniqueness.{sure-u32, each_one, exactly-rest}
use Rattle.zw_wasm_read.proofs.VectorLemmas.{each_unfit, vector_unfit}

abbrev Same : ℕ → BadCode → ℕ → BadCode → Type 0
Same at code other another = (at ≡ other) × (code ≡ another)

-- bytes stand at one place
one_place : (total at other : ℕ) (bytes : List ℕ) → StandsAt total at bytes → StandsAt total other bytes → at ≡ other
one_place total at other bytes p q = omega arith

-- ---- one section

-- the first entry that is missing stands at one place
one_missing : {X : Type 0} (P : X → List ℕ → Type 0) → Sure P → (content last more : List ℕ) → LacksEntry P content last → LacksEntry P content more → last ≡ more
one_missing P sure content last more k l =
    let counts = sure-u32.one k.count l.count content k.behind_count l.behind_count k.counted l.counted in
    let before = subst (λ (b : List ℕ). Leaves (EachInTurn P l.entries) b more) (sym counts.1) l.before in
    elim (cases_order (length k.entries) (length l.entries)) [
      | inl same ↦ (each_one sure k.entries l.entries k.behind_count last more same k.before before).1
      | inr apart ↦ elim apart [
        | inl less ↦ absurd (each_unfit P sure k.entries l.entries k.behind_count last more less k.before k.none before)
        | inr greater ↦ absurd (each_unfit P sure l.entries k.entries k.behind_count more last greater before l.none k.before)
      ]
    ]

no_end_or_entry : {X : Type 0} (P : X → List ℕ → Type 0) → Sure P → (content last : List ℕ) → HasNoEnd P content → LacksEntry P content last → ⊥
no_end_or_entry P sure content last (HasNoEnd.no_count u) k = u k.count k.behind_count k.counted
no_end_or_entry P sure content last (HasNoEnd.more ys b rest l) k = vector_unfit P sure k.count k.entries content k.behind_count last k.counted k.before k.missing k.none ys (b ∷ rest) l

-- at a section's end something is missing, or not
end_and_entry : {X : Type 0} (id : ℕ) (P : X → List ℕ → Type 0) → Sure P → (bytes content left other right last : List ℕ) → Leaves (IsFrame id content) bytes left → HasNoEnd P content → Leaves (IsFrame id other) bytes right → LacksEntry P other last → ⊥
end_and_entry id P sure bytes content left other right last f h g k =
    let same = frame_one id content other bytes left right f g in
    no_end_or_entry P sure content last h (subst (λ (c : List ℕ). LacksEntry P c last) (sym same.0) k)

one_section : {X : Type 0} (id : ℕ) (P : X → List ℕ → Type 0) → Sure P → (total : ℕ) (bytes : List ℕ) (at : ℕ) (code : BadCode) (other : ℕ) (another : BadCode) → SectionStop id P total bytes at code → SectionStop id P total bytes other another → Same at code other another
one_section id P sure total bytes _ _ _ _ (SectionStop.no_frame at u p) (SectionStop.no_frame other v q) = (one_place total at other bytes p q, refl)
one_section id P sure total bytes _ _ _ _ (SectionStop.no_frame at u p) (SectionStop.no_end other content left f h q) = (one_place total at other bytes p q, refl)
one_section id P sure total bytes _ _ _ _ (SectionStop.no_frame at u p) (SectionStop.no_entry other content left last f k q) = absurd (u content left f)
one_section id P sure total bytes _ _ _ _ (SectionStop.no_end at content left f h p) (SectionStop.no_frame other v q) = (one_place total at other bytes p q, refl)
one_section id P sure total bytes _ _ _ _ (SectionStop.no_end at content left f h p) (SectionStop.no_end other content' left' g h' q) = (one_place total at other bytes p q, refl)
one_section id P sure total bytes _ _ _ _ (SectionStop.no_end at content left f h p) (SectionStop.no_entry other content' right last g k q) = absurd (end_and_entry id P sure bytes content left content' right last f h g k)
one_section id P sure total bytes _ _ _ _ (SectionStop.no_entry at content left last f k p) (SectionStop.no_frame other v q) = absurd (v content left f)
one_section id P sure total bytes _ _ _ _ (SectionStop.no_entry at content left last f k p) (SectionStop.no_end other content' right g h q) = absurd (end_and_entry id P sure bytes content' right content left last g h f k)
one_section id P sure total bytes _ _ _ _ (SectionStop.no_entry at content left last f k p) (SectionStop.no_entry other content' right more g l q) =
    let same = frame_one id content content' bytes left right f g in
    let ends = one_missing P sure content last more k (subst (λ (c : List ℕ). LacksEntry P c more) (sym same.0) l) in
    (one_place total at other (last ++ left) p (subst (λ (r : List ℕ). StandsAt total other (last ++ r)) (sym same.1) (subst (λ (m : List ℕ). StandsAt total other (m ++ right)) (sym ends) q)), refl)

no_index_or_end : (bytes content left other right last : List ℕ) (index b : ℕ) → Leaves (IsFrame 8 content) bytes left → Leaves (IsU32 index) content (b ∷ last) → Leaves (IsFrame 8 other) bytes right → IsUnfit IsU32 other → ⊥
no_index_or_end bytes content left other right last index b f h g u =
    let same = frame_one 8 content other bytes left right f g in
    u index (b ∷ last) (subst (λ (c : List ℕ). Leaves (IsU32 index) c (b ∷ last)) same.0 h)

one_start : (total : ℕ) (bytes : List ℕ) (at : ℕ) (code : BadCode) (other : ℕ) (another : BadCode) → StartStop total bytes at code → StartStop total bytes other another → Same at code other another
one_start total bytes _ _ _ _ (StartStop.no_frame at u p) (StartStop.no_frame other v q) = (one_place total at other bytes p q, refl)
one_start total bytes _ _ _ _ (StartStop.no_frame at u p) (StartStop.no_end other index b content left last f h q) = (one_place total at other bytes p q, refl)
one_start total bytes _ _ _ _ (StartStop.no_frame at u p) (StartStop.no_index other content left f v q) = absurd (u content left f)
one_start total bytes _ _ _ _ (StartStop.no_end at index b content left last f h p) (StartStop.no_frame other v q) = (one_place total at other bytes p q, refl)
one_start total bytes _ _ _ _ (StartStop.no_end at index b content left last f h p) (StartStop.no_end other index' b' content' left' last' f' h' q) = (one_place total at other bytes p q, refl)
one_start total bytes _ _ _ _ (StartStop.no_end at index b content left last f h p) (StartStop.no_index other content' right g v q) = absurd (no_index_or_end bytes content left content' right last index b f h g v)
one_start total bytes _ _ _ _ (StartStop.no_index at content left f u p) (StartStop.no_frame other v q) = absurd (v content left f)
one_start total bytes _ _ _ _ (StartStop.no_index at content left f u p) (StartStop.no_end other index b content' right last g h q) = absurd (no_index_or_end bytes content' right content left last index b g h f u)
one_start total bytes _ _ _ _ (StartStop.no_index at content left f u p) (StartStop.no_index other content' right g v q) =
    let same = frame_one 8 content content' bytes left right f g in
    (one_place total at other (content ++ left) p (subst (λ (r : List ℕ). StandsAt total other (content ++ r)) (sym same.1) (subst (λ (c : List ℕ). StandsAt total other (c ++ right)) (sym same.0) q)), refl)

-- ---- any section but a custom one

data Kind : Type 0 where
  Of : (s : SectionKind) → Kind
  First : Kind

abbrev id_of : Kind → ℕ
id_of (Of s) = number_of s
id_of First = 8

abbrev kind_at : ℕ → Kind
kind_at id =
    cond (nat_eq id 1) (Of Types) (cond (nat_eq id 2) (Of Imports) (cond (nat_eq id 3) (Of Functions) (cond (nat_eq id 4) (Of Tables) (cond (nat_eq id 5) (Of Memories)
    (cond (nat_eq id 6) (Of Globals) (cond (nat_eq id 7) (Of Exports) (cond (nat_eq id 9) (Of Elements) (cond (nat_eq id 10) (Of Codes) (cond (nat_eq id 11) (Of Datas) First)))))))))

kind_back : (k : Kind) → kind_at (id_of k) ≡ k
kind_back (Of Types) = refl
kind_back (Of Imports) = refl
kind_back (Of Functions) = refl
kind_back (Of Tables) = refl
kind_back (Of Memories) = refl
kind_back (Of Globals) = refl
kind_back (Of Exports) = refl
kind_back (Of Elements) = refl
kind_back (Of Codes) = refl
kind_back (Of Datas) = refl
kind_back First = refl

one_kind : (k l : Kind) → id_of k ≡ id_of l → k ≡ l
one_kind k l same = sym (kind_back k) ∙ ap kind_at same ∙ kind_back l

id_range : (k : Kind) → (1 ≤ id_of k) × (id_of k ≤ 11)
id_range (Of s) = number_range s
id_range First = (omega arith, omega arith)

abbrev StopIn : Kind → ℕ → List ℕ → ℕ → BadCode → Type 0
StopIn (Of s) total bytes at code = SectionStop (number_of s) (IsEntry s) total bytes at code
StopIn First total bytes at code = StartStop total bytes at code

-- what stands behind such a section
abbrev Passed : Kind → List ℕ → List ℕ → Type 0
Passed (Of s) bytes rest = (entries : List (Entry s)) × Leaves (IsSection (number_of s) (IsVector (IsEntry s) entries)) bytes rest
Passed First bytes rest = (index : ℕ) × Leaves (IsSection 8 (IsU32 index)) bytes rest

one_in : (k : Kind) (total : ℕ) (bytes : List ℕ) (at : ℕ) (code : BadCode) (other : ℕ) (another : BadCode) → StopIn k total bytes at code → StopIn k total bytes other another → Same at code other another
one_in (Of s) total bytes at code other another p q = one_section (number_of s) (IsEntry s) (sure-entry s) total bytes at code other another p q
one_in First total bytes at code other another p q = one_start total bytes at code other another p q

not_passed : (k : Kind) (total : ℕ) (bytes : List ℕ) (at : ℕ) (code : BadCode) (rest : List ℕ) → StopIn k total bytes at code → Passed k bytes rest → ⊥
not_passed (Of s) total bytes at code rest p l = section_stops (number_of s) (IsEntry s) (sure-entry s) total bytes at code p l.0 rest l.1
not_passed First total bytes at code rest p l = start_stops total bytes at code p l.0 rest l.1

one_behind : (k : Kind) (bytes r s : List ℕ) → Passed k bytes r → Passed k bytes s → r ≡ s
one_behind (Of s) bytes r t l m = (section_one (number_of s) (IsVector (IsEntry s) l.0) (IsVector (IsEntry s) m.0) bytes r t l.1 m.1).3
one_behind First bytes r t l m = (section_one 8 (IsU32 l.0) (IsU32 m.0) bytes r t l.1 m.1).3

section_head : (id : ℕ) (P : List ℕ → Type 0) (bytes rest : List ℕ) → Leaves (IsSection id P) bytes rest → (more : List ℕ) × (bytes ≡ id ∷ more)
section_head id P bytes rest l = let t = turn l in (t.mid, byte-whole t.first)

passed_head : (k : Kind) (bytes rest : List ℕ) → Passed k bytes rest → (more : List ℕ) × (bytes ≡ id_of k ∷ more)
passed_head (Of s) bytes rest l = section_head (number_of s) (IsVector (IsEntry s) l.0) bytes rest l.1
passed_head First bytes rest l = section_head 8 (IsU32 l.0) bytes rest l.1

-- ---- how reading goes on

-- what stands first, and whether reading stops there
data View (total last : ℕ) (bytes : List ℕ) (at : ℕ) (code : BadCode) : Type 0 where
  number : (id : ℕ) (more : List ℕ) → bytes ≡ id ∷ more → (id ≡ 0 → ⊥) → (id ≤ last) ⊎ (11 < id) → StandsAt total at bytes → code ≡ bad.Section → View total last bytes at code
  custom : (more : List ℕ) → bytes ≡ 0 ∷ more → IsBadCustom bytes → StandsAt total at bytes → code ≡ bad.Section → View total last bytes at code
  within : (k : Kind) (more : List ℕ) → bytes ≡ id_of k ∷ more → last < id_of k → StopIn k total bytes at code → View total last bytes at code
  past_custom : (rest : List ℕ) → Leaves IsCustomSection bytes rest → Stops total last rest at code → View total last bytes at code
  past : (k : Kind) (rest : List ℕ) → last < id_of k → Passed k bytes rest → Stops total (id_of k) rest at code → View total last bytes at code

view : (total last : ℕ) (bytes : List ℕ) (at : ℕ) (code : BadCode) → Stops total last bytes at code → View total last bytes at code
view total _ _ _ _ (Stops.number last id more at some wrong place) = View.number id more refl some wrong place refl
view total _ _ _ _ (Stops.custom last more at broken place) = View.custom more refl broken place refl
view total _ _ _ _ (Stops.section s last more at code low stop) = View.within (Of s) more refl low stop
view total _ _ _ _ (Stops.start last more at code low stop) = View.within First more refl low stop
view total _ _ _ _ (Stops.behind_custom last bytes rest at code l stop) = View.past_custom rest l stop
view total _ _ _ _ (Stops.behind_section s entries last bytes rest at code low l stop) = View.past (Of s) rest low (entries, l) stop
view total _ _ _ _ (Stops.behind_start index last bytes rest at code low l stop) = View.past First rest low (index, l) stop

-- the first byte is one
one_head : (bytes m n : List ℕ) (a b : ℕ) → bytes ≡ a ∷ m → bytes ≡ b ∷ n → a ≡ b
one_head bytes m n a b p q = let same : a ∷ m ≡ b ∷ n = sym p ∙ q in cc

custom_head : (bytes rest : List ℕ) → Leaves IsCustomSection bytes rest → (more : List ℕ) × (bytes ≡ 0 ∷ more)
custom_head bytes rest l = section_head 0 (IsSomeName ⌢ Anything) bytes rest l

number_or_kind : (id last : ℕ) (k : Kind) → (id ≤ last) ⊎ (11 < id) → id ≡ id_of k → last < id_of k → ⊥
number_or_kind id last k (inl low) same below = omega arith
number_or_kind id last k (inr high) same below = let range = id_range k in omega (arith, range.1)

module _ (total last : ℕ) (bytes : List ℕ) (at other : ℕ) (another : BadCode) where
  at_number : (id : ℕ) (more : List ℕ) → bytes ≡ id ∷ more → (id ≡ 0 → ⊥) → (id ≤ last) ⊎ (11 < id) → StandsAt total at bytes → View total last bytes other another → Same at bad.Section other another
  at_number id more is some wrong place (View.number id' more' is' some' wrong' place' code) = (one_place total at other bytes place place', sym code)
  at_number id more is some wrong place (View.custom more' is' broken place' code) = absurd (some (one_head bytes more more' id 0 is is'))
  at_number id more is some wrong place (View.within k more' is' low stop) = absurd (number_or_kind id last k wrong (one_head bytes more more' id (id_of k) is is') low)
  at_number id more is some wrong place (View.past_custom rest l stop) = let h = custom_head bytes rest l in absurd (some (one_head bytes more h.0 id 0 is h.1))
  at_number id more is some wrong place (View.past k rest low l stop) = let h = passed_head k bytes rest l in absurd (number_or_kind id last k wrong (one_head bytes more h.0 id (id_of k) is h.1) low)

  no_zero : (k : Kind) (m n : List ℕ) → bytes ≡ 0 ∷ m → bytes ≡ id_of k ∷ n → ⊥
  no_zero k m n is is' = let same = one_head bytes m n 0 (id_of k) is is' in let range = id_range k in omega (arith, same, range.0)

  at_custom : (more : List ℕ) → bytes ≡ 0 ∷ more → IsBadCustom bytes → StandsAt total at bytes → View total last bytes other another → Same at bad.Section other another
  at_custom more is broken place (View.number id more' is' some wrong place' code) = absurd (some (one_head bytes more' more id 0 is' is))
  at_custom more is broken place (View.custom more' is' broken' place' code) = (one_place total at other bytes place place', sym code)
  at_custom more is broken place (View.within k more' is' low stop) = absurd (no_zero k more more' is is')
  at_custom more is broken place (View.past_custom rest l stop) = absurd (custom_stops bytes rest broken l)
  at_custom more is broken place (View.past k rest low l stop) = let h = passed_head k bytes rest l in absurd (no_zero k more h.0 is h.1)

  module _ (code : BadCode) where
    at_section : (k : Kind) (more : List ℕ) → bytes ≡ id_of k ∷ more → last < id_of k → StopIn k total bytes at code → View total last bytes other another → Same at code other another
    at_section k more is low stop (View.number id more' is' some wrong place' code') = absurd (number_or_kind id last k wrong (one_head bytes more' more id (id_of k) is' is) low)
    at_section k more is low stop (View.custom more' is' broken place' code') = absurd (no_zero k more' more is' is)
    at_section k more is low stop (View.within l more' is' low' stop') =
        let same = one_kind l k (one_head bytes more' more (id_of l) (id_of k) is' is) in
        one_in k total bytes at code other another stop (subst (λ (j : Kind). StopIn j total bytes other another) same stop')
    at_section k more is low stop (View.past_custom rest l stop') = let h = custom_head bytes rest l in absurd (no_zero k h.0 more h.1 is)
    at_section k more is low stop (View.past l rest low' p stop') =
        let h = passed_head l bytes rest p in
        let same = one_kind l k (one_head bytes h.0 more (id_of l) (id_of k) h.1 is) in
        absurd (not_passed k total bytes at code rest stop (subst (λ (j : Kind). Passed j bytes rest) same p))

    past_one : (rest : List ℕ) → Leaves IsCustomSection bytes rest → (Stops total last rest other another → Same at code other another) → View total last bytes other another → Same at code other another
    past_one rest l go (View.number id more is some wrong place code') = let h = custom_head bytes rest l in absurd (some (one_head bytes more h.0 id 0 is h.1))
    past_one rest l go (View.custom more is broken place code') = absurd (custom_stops bytes rest broken l)
    past_one rest l go (View.within k more is low stop) = let h = custom_head bytes rest l in absurd (no_zero k h.0 more h.1 is)
    past_one rest l go (View.past_custom rest' m stop) =
        let same = section_one 0 (IsSomeName ⌢ Anything) (IsSomeName ⌢ Anything) bytes rest' rest m l in
        go (subst (λ (r : List ℕ). Stops total last r other another) same.3 stop)
    past_one rest l go (View.past k rest' low p stop) =
        let h = custom_head bytes rest l in
        let g = passed_head k bytes rest' p in
        absurd (no_zero k h.0 g.0 h.1 g.1)

    past_section : (k : Kind) (rest : List ℕ) → last < id_of k → Passed k bytes rest → (Stops total (id_of k) rest other another → Same at code other another) → View total last bytes other another → Same at code other another
    past_section k rest low p go (View.number id more is some wrong place code') = let h = passed_head k bytes rest p in absurd (number_or_kind id last k wrong (one_head bytes more h.0 id (id_of k) is h.1) low)
    past_section k rest low p go (View.custom more is broken place code') = let h = passed_head k bytes rest p in absurd (no_zero k more h.0 is h.1)
    past_section k rest low p go (View.within l more is low' stop) =
        let h = passed_head k bytes rest p in
        let same = one_kind k l (one_head bytes h.0 more (id_of k) (id_of l) h.1 is) in
        absurd (not_passed l total bytes other another rest stop (subst (λ (j : Kind). Passed j bytes rest) same p))
    past_section k rest low p go (View.past_custom rest' m stop) =
        let h = custom_head bytes rest' m in
        let g = passed_head k bytes rest p in
        absurd (no_zero k h.0 g.0 h.1 g.1)
    past_section k rest low p go (View.past l rest' low' q stop) =
        let h = passed_head k bytes rest p in
        let g = passed_head l bytes rest' q in
        let same = one_kind l k (one_head bytes g.0 h.0 (id_of l) (id_of k) g.1 h.1) in
        let behind = one_behind k bytes rest' rest (subst (λ (j : Kind). Passed j bytes rest') same q) p in
        go (subst (λ (r : List ℕ). Stops total (id_of k) r other another) behind (subst (λ (j : Kind). Stops total (id_of j) rest' other another) same stop))

one_of : (total last : ℕ) (bytes : List ℕ) (at : ℕ) (code : BadCode) → Stops total last bytes at code → (other : ℕ) (another : BadCode) → View total last bytes other another → Same at code other another
one_of total _ _ _ _ (Stops.number last id more at some wrong place) other another v = at_number total last (id ∷ more) at other another id more refl some wrong place v
one_of total _ _ _ _ (Stops.custom last more at broken place) other another v = at_custom total last (0 ∷ more) at other another more refl broken place v
one_of total _ _ _ _ (Stops.section s last more at code low stop) other another v = at_section total last (number_of s ∷ more) at other another code (Of s) more refl low stop v
one_of total _ _ _ _ (Stops.start last more at code low stop) other another v = at_section total last (8 ∷ more) at other another code First more refl low stop v
one_of total _ _ _ _ (Stops.behind_custom last bytes rest at code l stop) other another v =
    past_one total last bytes at other another code rest l (λ s. one_of total last rest at code stop other another (view total last rest other another s)) v
one_of total _ _ _ _ (Stops.behind_section k entries last bytes rest at code low l stop) other another v =
    past_section total last bytes at other another code (Of k) rest low (entries, l) (λ s. one_of total (number_of k) rest at code stop other another (view total (number_of k) rest other another s)) v
one_of total _ _ _ _ (Stops.behind_start index last bytes rest at code low l stop) other another v =
    past_section total last bytes at other another code First rest low (index, l) (λ s. one_of total 8 rest at code stop other another (view total 8 rest other another s)) v

-- ---- all bytes

sections_or_counts : (bytes rest : List ℕ) (at : ℕ) (code : BadCode) (m : Module) → Leaves IsHeader bytes rest → Stops (length bytes) 0 rest at code → After 11 m rest → ⊥
sections_or_counts bytes rest at code m l stop after = excluded (length bytes) 0 rest at code stop m (omega arith) after

pub one_stop : (bytes : List ℕ) (at : ℕ) (code : BadCode) (other : ℕ) (another : BadCode) → IsStop bytes at code → IsStop bytes other another → (at ≡ other) × (code ≡ another)
one_stop bytes _ _ _ _ (IsStop.header none) (IsStop.header none') = (refl, refl)
one_stop bytes _ _ _ _ (IsStop.header none) (IsStop.sections rest at code l stop) = absurd (none rest l)
one_stop bytes _ _ _ _ (IsStop.header none) (IsStop.counts m p apart) = let a = after_header m bytes p in absurd (none a.0 a.1)
one_stop bytes _ _ _ _ (IsStop.sections rest at code l stop) (IsStop.header none) = absurd (none rest l)
one_stop bytes _ _ _ _ (IsStop.sections rest at code l stop) (IsStop.sections rest' other another l' stop') =
    let same = exactly-rest _ l' l in
    one_of (length bytes) 0 rest at code stop other another (view (length bytes) 0 rest other another (subst (λ (r : List ℕ). Stops (length bytes) 0 r other another) same stop'))
one_stop bytes _ _ _ _ (IsStop.sections rest at code l stop) (IsStop.counts m p apart) =
    let a = after_header m bytes p in
    absurd (sections_or_counts bytes rest at code m l stop (subst (After 11 m) (exactly-rest _ a.1 l) a.2))
one_stop bytes _ _ _ _ (IsStop.counts m p apart) (IsStop.header none) = let a = after_header m bytes p in absurd (none a.0 a.1)
one_stop bytes _ _ _ _ (IsStop.counts m p apart) (IsStop.sections rest at code l stop) =
    let a = after_header m bytes p in
    absurd (sections_or_counts bytes rest at code m l stop (subst (After 11 m) (exactly-rest _ a.1 l) a.2))
one_stop bytes _ _ _ _ (IsStop.counts m p apart) (IsStop.counts n q apart') = (refl, refl)
