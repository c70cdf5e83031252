-- Laws of reading.
use Rattle.std.proofs.Common.{◌≡◌, ℕ, zero, suc, ◌<◌, ◌≤◌, List, [], ◌∷◌, ◌++◌, take, drop, Option, Some, None, refl, sym, ap, ◌∙◌, subst, append_assoc, arith, ◌⊎◌, inl, inr}
use Rattle.std.proofs.lemmas.Bool.{cases_lt}
use Rattle.zw_grammar.specs.declared.grammar.Symbol.{Symbol}
use Rattle.zw_grammar.specs.Plain.{PlainRule}
use Rattle.zw_grammar.specs.Building.{Building}
use Rattle.zw_grammar.specs.Reading.{Reading, Leads, after, step}
use Rattle.zw_grammar.specs.Reading.Leads.{here}
use Rattle.zw_grammar.specs.Texts.{begins, Reads, GoesOn, IsWrong, IsNested}
use Rattle.zw_grammar.proofs.LeadLemmas.{one_way, no_way, leads_next}
use Rattle.zw_grammar.proofs.PassedLemmas.{leads_keeps}

pub one_final : (rules : List PlainRule) (start : List Symbol) (text : List ℕ) (from to other : ℕ) (b c : Building) →
    Reads rules start text from to b → Reads rules start text from other c → (to ≡ other) × (b ≡ c)
one_final rules start text from to other b c r s =
    let f : Reading = record { stack = []; next = to; building = b } in
    let g : Reading = record { stack = []; next = other; building = c } in
    let P : Type 0 = (to ≡ other) × (b ≡ c) in
    let same : f ≡ g → P = λ e. (ap (λ (q : Reading). q.next) e, ap (λ (q : Reading). q.building) e) in
    elim (one_way rules text (begins start from) f g r.leads s.leads) [
      | inl p ↦ same (no_way rules text f g refl p)
      | inr p ↦ same (sym (no_way rules text g f refl p))
    ]

pub take_and_drop : (n : ℕ) (text : List ℕ) → take n text ++ drop n text ≡ text
take_and_drop zero text = refl
take_and_drop (suc n) [] = refl
take_and_drop (suc n) (x ∷ xs) = ap (λ (l : List ℕ). x ∷ l) (take_and_drop n xs)

pub not_wrong : (rules : List PlainRule) (start : List Symbol) (text : List ℕ) (from to place : ℕ) (b : Building) →
    Reads rules start text from to b → IsWrong rules start text from place → ⊥
not_wrong rules start text from to place b r w =
    w.ends (drop (suc place) text, to, b, subst (λ (t : List ℕ). Reads rules start t from to b) (sym (take_and_drop (suc place) text)) r)

pub not_nested : (rules : List PlainRule) (start : List Symbol) (text : List ℕ) (from to place : ℕ) (b : Building) →
    Reads rules start text from to b → b.passed ≡ None → IsNested rules start text from place → ⊥
not_nested rules start text from to place b r flat n =
    let f : Reading = record { stack = []; next = to; building = b } in
    let apart : b.passed ≡ Some place → ⊥ = λ e. let no : None ≡ Some place = sym flat ∙ e in cc in
    elim (one_way rules text (begins start from) f n.reading r.leads n.leads) [
      | inl p ↦ apart (ap (λ (q : Reading). q.building.passed) (no_way rules text f n.reading refl p) ∙ n.passed)
      | inr p ↦ apart ((leads_keeps rules text n.reading f p).stays place n.passed)
    ]

-- a longer front of a text is a shorter one with more behind it
longer_front : (m n : ℕ) (text : List ℕ) → m ≤ n → take n text ≡ take m text ++ drop m (take n text)
longer_front zero n text le = refl
longer_front (suc m) zero text le = absurd (omega arith)
longer_front (suc m) (suc n) [] le = refl
longer_front (suc m) (suc n) (x ∷ xs) le = ap (λ (l : List ℕ). x ∷ l) (longer_front m n xs (omega arith))

pub goes_shorter : (rules : List PlainRule) (start : List Symbol) (text : List ℕ) (from m n : ℕ) → m ≤ n →
    GoesOn rules start (take n text) from → GoesOn rules start (take m text) from
goes_shorter rules start text from m n le g =
    let more = drop m (take n text) ++ g.0 in
    let same : take n text ++ g.0 ≡ take m text ++ more =
    ap (λ (l : List ℕ). l ++ g.0) (longer_front m n text le) ∙ append_assoc (take m text) (drop m (take n text)) g.0 in
    (more, g.1, g.2, subst (λ (t : List ℕ). Reads rules start t from g.1 g.2) same g.3)

not_later : (rules : List PlainRule) (start : List Symbol) (text : List ℕ) (from place other : ℕ) →
    IsWrong rules start text from place → IsWrong rules start text from other → place < other → ⊥
not_later rules start text from place other w v less = w.ends (goes_shorter rules start text from (suc place) other (omega arith) v.goes)

pub wrong_once : (rules : List PlainRule) (start : List Symbol) (text : List ℕ) (from place other : ℕ) →
    IsWrong rules start text from place → IsWrong rules start text from other → place ≡ other
wrong_once rules start text from place other w v =
    let first = not_later rules start text from place other w v in
    let second = not_later rules start text from other place v w in
    omega (arith, first, second)

some_same : (x y : ℕ) (o : Option ℕ) → o ≡ Some x → o ≡ Some y → x ≡ y
some_same x y o e f = let eq : Some x ≡ Some y = sym e ∙ f in cc

pub nested_once : (rules : List PlainRule) (start : List Symbol) (text : List ℕ) (from place other : ℕ) →
    IsNested rules start text from place → IsNested rules start text from other → place ≡ other
nested_once rules start text from place other n m =
    let same = some_same place other in
    elim (one_way rules text (begins start from) n.reading m.reading n.leads m.leads) [
      | inl p ↦ same m.reading.building.passed ((leads_keeps rules text n.reading m.reading p).stays place n.passed) m.passed
      | inr p ↦ same n.reading.building.passed n.passed ((leads_keeps rules text m.reading n.reading p).stays other m.passed)
    ]

-- where a reading can't go on, each place that begins the first rule nested too deep is known by then
nested_leads : (rules : List PlainRule) (start : List Symbol) (text : List ℕ) (from place : ℕ) (r : Reading) → Leads rules text (begins start from) r → after rules text r ≡ None →
    (n : IsNested rules start text from place) → Leads rules text n.reading r
nested_leads rules start text from place r leads stuck n = elim (one_way rules text (begins start from) r n.reading leads n.leads) [
  | inl p ↦ subst (λ (q : Reading). Leads rules text q r) (no_way rules text r n.reading stuck p) (here r)
  | inr p ↦ p
]

-- so a rule is nested too deep, or none is
pub nested_or_flat : (rules : List PlainRule) (start : List Symbol) (text : List ℕ) (from : ℕ) (r : Reading) → Leads rules text (begins start from) r → after rules text r ≡ None →
    ((place : ℕ) × IsNested rules start text from place) ⊎ ((other : ℕ) → IsNested rules start text from other → ⊥)
nested_or_flat rules start text from r leads stuck = go r.building.passed refl
  where
    Answer : Type 0
    Answer = ((place : ℕ) × IsNested rules start text from place) ⊎ ((other : ℕ) → IsNested rules start text from other → ⊥)

    stays : (other : ℕ) → IsNested rules start text from other → r.building.passed ≡ Some other
    stays other n = (leads_keeps rules text n.reading r (nested_leads rules start text from other r leads stuck n)).stays other n.passed

    late : (place : ℕ) → r.building.passed ≡ Some place → r.next ≤ place → (r.stack ≡ [] → ⊥) → (other : ℕ) → IsNested rules start text from other → ⊥
    late place e far unread other n =
        let p = nested_leads rules start text from other r leads stuck n in
        let same = some_same other place r.building.passed (stays other n) e in
        let order = leads_next rules text n.reading r p in
        elim n.taken [
          | inl before ↦ omega arith
          | inr empty ↦
              let ends : after rules text n.reading ≡ None = ap (λ (l : List Symbol). step rules text l n.reading.next n.reading.building) empty in
              unread (sym (ap (λ (q : Reading). q.stack) (no_way rules text n.reading r ends p)) ∙ empty)
        ]

    left : (place : ℕ) → r.building.passed ≡ Some place → (s : List Symbol) → r.stack ≡ s → Answer
    left place e [] empty = inl (place, record { reading = r; leads = leads; passed = e; taken = inr empty })
    left place e (x ∷ xs) some = elim (cases_lt place r.next) [
      | inl before ↦ inl (place, record { reading = r; leads = leads; passed = e; taken = inl before })
      | inr far ↦ inr (late place e far (λ empty. let clash : x ∷ xs ≡ [] = sym some ∙ empty in cc))
    ]

    go : (o : Option ℕ) → r.building.passed ≡ o → Answer
    go None e = inr (λ other n. let no : None ≡ Some other = sym e ∙ stays other n in cc)
    go (Some place) e = left place e r.stack refl
