-- How a reading ends.
use Rattle.std.proofs.Common.{◌≡◌, ℕ, zero, suc, ◌+◌, ◌<◌, ◌≤◌, Bool, true, false, cond, not, ◌==◌, nat_le, List, [], ◌∷◌, ◌++◌, reverse, length, take, Option, Some, None, slice_get, refl, sym, ap, ◌∙◌, subst, arith, inl, inr}
use Rattle.std.specs.Option.{option_map}
use Rattle.std.specs.Prelude.{option_and_then}
use Rattle.std.proofs.lemmas.Bool.{eqb-true, eq-eqb}
use Rattle.std.proofs.lemmas.Grind.{common_steps}
use Rattle.std.proofs.lemmas.List.{reverse-reverse}
use Rattle.std.proofs.lemmas.Option.{slice_get_within}
use Rattle.zw_grammar.specs.Plain.{PlainRule}
use Rattle.zw_grammar.specs.declared.builder.Builder.{Builder}
use Rattle.zw_grammar.specs.declared.builder.Built.{Built}
use Rattle.zw_grammar.specs.declared.grammar.Symbol.{Symbol}
use Rattle.zw_grammar.specs.declared.grammar.Symbol.TheVariants.{Take, Read, Build}
use Rattle.zw_grammar.specs.declared.machine.End.{End}
use Rattle.zw_grammar.specs.declared.machine.End.TheVariants as ends
use Rattle.zw_grammar.specs.declared.machine.Turn.{Turn}
use Rattle.zw_grammar.specs.declared.machine.Turn.TheVariants.{Taken, Refused, Behind}
use Rattle.zw_grammar.specs.Building.{Building, marked, nothing}
use Rattle.zw_grammar.specs.Completions.{Completion, text_of, bound_of, fits, all_complete}
use Rattle.zw_grammar.specs.Ends.{IsText, StopsAt, Ends}
use Rattle.zw_grammar.specs.Nodes.{HoldsBehind}
use Rattle.zw_grammar.specs.Reading.{Reading, Leads, after, step, choice}
use Rattle.zw_grammar.specs.Reading.Leads.{here}
use Rattle.zw_grammar.specs.Texts.{begins}
use Rattle.zw_grammar.specs.Turns.{Takes, Sticks, Turns, end_of, reading}
use Rattle.zw_grammar.proofs.CompletionLemmas.{completed, leads_fits, step_fits, IsFrom}
use Rattle.zw_grammar.proofs.LeadLemmas.{Agree, leads_on, one_way, no_way, leads_next, leads_same, after_same, agree_less, front_agrees}
use Rattle.zw_grammar.proofs.PassedLemmas.{leads_keeps}
use Rattle.zw_grammar.proofs.ReadingLemmas.{further}
use Rattle.zw_grammar.proofs.StepLemmas.{and-both}

-- what is kept up to a terminal: each text that agrees up to it leads there
pub record Kept (rules : List PlainRule) (start : List Symbol) (text : List ℕ) (cs : List Completion) (end from at : ℕ) (stack : List Symbol) (older : List Built) (into : Builder) : Type 0 where
  pub building : Building
  pub leads : (other : List ℕ) → Agree at text other → Leads rules other (begins start from) (reading stack at building)
  pub holds : HoldsBehind older into building
  pub flat : building.passed ≡ None
  pub fitting : fits cs end (reverse stack) end ≡ true
  pub not_end : (k : ℕ) → suc k ≡ at → from ≤ k → slice_get text k ≡ Some end → ⊥

pub kept_first : (rules : List PlainRule) (start : List Symbol) (text : List ℕ) (t : IsText rules start text) (from : ℕ) (stack : List Symbol) (older : List Built) (into : Builder) →
    stack ≡ reverse start → HoldsBehind older into nothing → Kept rules start text t.complete.completions t.end from from stack older into
kept_first rules start text t from stack older into e holds =
    let back : reverse stack ≡ start = ap reverse e ∙ reverse-reverse start in
    let same : begins start from ≡ reading stack from nothing = ap (λ (s : List Symbol). record { stack = s; next = from; building = nothing }) (sym back) in
    record {
      building = nothing;
      leads = λ other agree. subst (λ (r : Reading). Leads rules other (begins start from) r) same (here (begins start from));
      holds = holds;
      flat = refl;
      fitting = subst (λ (s : List Symbol). fits t.complete.completions t.end s t.end ≡ true) (sym back) t.complete.begins;
      not_end = λ k before le there. absurd (omega arith);
    }

-- what takes a terminal takes no end
take_no_end : (rules : List PlainRule) (text : List ℕ) (cs : List Completion) (end : ℕ) (stack : List Symbol) (next : ℕ) (b : Building) (s : Reading) →
    fits cs end stack end ≡ true → step rules text stack next b ≡ Some s → suc next ≤ s.next → slice_get text next ≡ Some end → ⊥
take_no_end rules text cs end [] next b s fitting e more there = absurd (cc)
take_no_end rules text cs end (Take terminal ∷ rest) next b s fitting e more there = chosen (end == terminal) refl taken
  where
    pick : Bool → Option Reading
    pick t = cond t (Some (record { stack = rest; next = suc next; building = b })) None

    taken : pick (end == terminal) ≡ Some s
    taken = sym (ap (λ (o : Option ℕ). option_and_then (λ u. pick (u == terminal)) o) there) ∙ e

    chosen : (t : Bool) → (end == terminal) ≡ t → pick t ≡ Some s → ⊥
    chosen true same e =
        let back : (terminal == end) ≡ true = eq-eqb terminal end (sym (eqb-true end terminal same)) in
        let both = and-both (not (terminal == end)) (fits cs end rest end) fitting in
        let no : not true ≡ true = sym (ap not back) ∙ both.0 in absurd (cc)
    chosen false same e = absurd (cc)
take_no_end rules text cs end (Read number ∷ rest) next b s fitting e more there = go (option_and_then (choice rules number) (slice_get text next)) e
  where
    put : List Symbol → Reading
    put symbols = record { stack = symbols ++ rest; next = next; building = b }

    go : (o : Option (List Symbol)) → option_map put o ≡ Some s → ⊥
    go None e = absurd (cc)
    go (Some symbols) e =
        let same : put symbols ≡ s = cc in
        let at : next ≡ s.next = ap (λ (r : Reading). r.next) same in omega arith
take_no_end rules text cs end (Build mark ∷ rest) next b s fitting e more there =
    let same : record { stack = rest; next = next; building = marked text next mark b } ≡ s = cc in
    let at : next ≡ s.next = ap (λ (r : Reading). r.next) same in omega arith

pub kept_more : (rules : List PlainRule) (start : List Symbol) (text : List ℕ) (cs : List Completion) (end from at : ℕ) (stack taken : List Symbol) (older : List Built) (old new : Builder) →
    all_complete cs end rules cs ≡ true → (kept : Kept rules start text cs end from at stack older old) →
    Takes rules text (reading stack at kept.building) taken at older new → new.passed ≡ None → Kept rules start text cs end from (suc at) taken older new
kept_more rules start text cs end from at stack taken older old new all kept takes none =
    let m = takes.before in
    let b = kept.building in
    let s = reading taken (suc at) m.building in
    let near : (other : List ℕ) → Agree (suc at) text other → Agree (suc m.next) text other =
    λ other agree. subst (λ (n : ℕ). Agree (suc n) text other) (sym takes.next_is) agree in
    let fitting = leads_fits cs end rules text (reading stack at b) m all takes.leads kept.fitting in
    let P : ℕ → Type 0 = λ n. slice_get text n ≡ Some end → ⊥ in
    record {
      building = m.building;
      leads = λ other agree.
          further rules other (begins start from) m s
          (leads_on rules other (begins start from) (reading stack at b) m (kept.leads other (agree_less at (suc at) text other (omega arith) agree))
          (leads_same rules text other (reading stack at b) m takes.leads (near other agree)))
          (sym (after_same rules text other m (near other agree)) ∙ takes.taken);
      holds = takes.holds;
      flat = sym takes.holds.passed ∙ none;
      fitting = step_fits cs end rules text m.stack m.next m.building s all fitting takes.taken;
      not_end = λ k before le there.
          let same : k ≡ at = omega arith in
          let at_m : slice_get text m.next ≡ Some end = ap (λ (n : ℕ). slice_get text n) (takes.next_is ∙ sym same) ∙ there in
          let next_is = takes.next_is in
          take_no_end rules text cs end m.stack m.next m.building s fitting takes.taken (omega arith) at_m;
    }

pub goes_on : (turn : Turn) (passed : Option ℕ) (at : ℕ) → end_of turn passed at ≡ None → (turn ≡ Taken) × (passed ≡ None)
goes_on Taken None at e = (refl, refl)
goes_on Behind None at e = absurd (cc)
goes_on Refused None at e = absurd (cc)
goes_on Taken (Some place) at e = absurd (cc)
goes_on Behind (Some place) at e = absurd (cc)
goes_on Refused (Some place) at e = go (nat_le at place) e
  where
    go : (t : Bool) → cond t (Some (ends.Wrong at)) (Some (ends.Nested place)) ≡ None → (Refused ≡ Taken) × (Some place ≡ None)
    go true e = absurd (cc)
    go false e = absurd (cc)

pub front_there : (n : ℕ) (text more : List ℕ) → n ≤ length text → IsFrom (take n text ++ more) n more
front_there zero text more le = λ k. let same : 0 + k ≡ k = omega arith in ap (λ (j : ℕ). slice_get more j) same
front_there (suc n) [] more le = absurd (omega arith)
front_there (suc n) (x ∷ xs) more le = λ k.
    let same : suc n + k ≡ suc (n + k) = omega arith in
    ap (λ (j : ℕ). slice_get (x ∷ (take n xs ++ more)) j) same ∙ front_there n xs more (omega arith) k

-- where a reading can't go on, its terminal is wrong
wrong_at : (rules : List PlainRule) (start : List Symbol) (text : List ℕ) (cs : List Completion) (end from at : ℕ) (stack : List Symbol) (older : List Built) (old new : Builder) →
    all_complete cs end rules cs ≡ true → (kept : Kept rules start text cs end from at stack older old) →
    (sticks : Sticks rules text (reading stack at kept.building) at older new) → at < length text →
    ((place : ℕ) → sticks.at.building.passed ≡ Some place → at ≤ place) → StopsAt rules start text from at
wrong_at rules start text cs end from at stack older old new all kept sticks less late =
    let b = kept.building in
    let s = sticks.at in
    let more = text_of cs (reverse stack) ++ (end ∷ []) in
    let other = take at text ++ more in
    let done = completed (bound_of cs (reverse stack)) cs end rules other (reverse stack) at b all (omega arith) kept.fitting
    (front_there at text more (omega arith)) in
    let next_is = sticks.next_is in
    record {
      wrong = record {
        within = less;
        goes = (
          more,
          done.to,
          done.building,
          record {
            leads = leads_on rules other (begins start from) (reading stack at b) (record { stack = []; next = done.to; building = done.building })
                (kept.leads other (front_agrees at text more (omega arith))) done.leads;
            before = slice_get_within other done.to end done.there;
          },
        );
        ends = λ goes.
            let longer = take (suc at) text ++ goes.0 in
            let final : Reading = record { stack = []; next = goes.1; building = goes.2 } in
            let agree : Agree (suc at) text longer = front_agrees (suc at) text goes.0 (omega arith) in
            let near : Agree (suc s.next) text longer = subst (λ (n : ℕ). Agree (suc n) text longer) (sym next_is) agree in
            let to_stuck = leads_on rules longer (begins start from) (reading stack at b) s
            (kept.leads longer (agree_less at (suc at) text longer (omega arith) agree))
            (leads_same rules text longer (reading stack at b) s sticks.leads near) in
            let stuck : after rules longer s ≡ None = sym (after_same rules text longer s near) ∙ sticks.stuck in
            elim (one_way rules longer (begins start from) s final to_stuck goes.3.leads) [
              | inl p ↦ sticks.unread (ap (λ (r : Reading). r.stack) (no_way rules longer s final stuck p))
              | inr p ↦ sticks.unread (ap (λ (r : Reading). r.stack) (sym (no_way rules longer final s refl p)))
            ];
      };
      flat = λ place nested.
          let r = nested.reading in
          let to_stuck = leads_on rules text (begins start from) (reading stack at b) s (kept.leads text (λ k le. refl)) sticks.leads in
          let apart : Leads rules text r s → ⊥ = λ p.
          let keeps = (leads_keeps rules text r s p).stays place nested.passed in
          let far = late place keeps in
          let order = leads_next rules text r s p in
          elim nested.taken [
            | inl before ↦ omega arith
            | inr empty ↦
                let stuck : after rules text r ≡ None = ap (λ (l : List Symbol). step rules text l r.next r.building) empty in
                sticks.unread (sym (ap (λ (q : Reading). q.stack) (no_way rules text r s stuck p)) ∙ empty)
          ] in
          elim (one_way rules text (begins start from) s r to_stuck nested.leads) [
            | inl p ↦ apart (subst (λ (q : Reading). Leads rules text q s) (no_way rules text s r sticks.stuck p) (here s))
            | inr p ↦ apart p
          ];
    }

at_most : (m n : ℕ) → nat_le m n ≡ true → m ≤ n
at_most m n e = grind (arith, common_steps)

above : (m n : ℕ) → nat_le m n ≡ false → n < m
above m n e = grind (arith, common_steps)

-- with the end that is told
pub ended : (rules : List PlainRule) (start : List Symbol) (text : List ℕ) (cs : List Completion) (end from at : ℕ) (stack left : List Symbol) (older : List Built) (old new : Builder) (turn : Turn) (how : End) →
    all_complete cs end rules cs ≡ true → (kept : Kept rules start text cs end from at stack older old) →
    Turns rules text (reading stack at kept.building) at turn left older new → at < length text → end_of turn new.passed at ≡ Some how → Ends rules start text from older new how
ended rules start text cs end from at stack left older old new turn how all kept turned less e = go turn new.passed refl turned e
  where
    b : Building
    b = kept.building

    before : Leads rules text (begins start from) (reading stack at kept.building)
    before = kept.leads text (λ k le. refl)

    first_flat : (place : ℕ) → (reading stack at kept.building).building.passed ≡ Some place → place ≤ at
    first_flat place p = let no : None ≡ Some place = sym kept.flat ∙ p in absurd (cc)

    go : (turn : Turn) (o : Option ℕ) → new.passed ≡ o → Turns rules text (reading stack at kept.building) at turn left older new → end_of turn o at ≡ Some how → Ends rules start text from older new how
    go Taken None p t e = absurd (cc)
    go Behind None p t e =
        let same : ends.Read at ≡ how = cc in
        subst (Ends rules start text from older new) same (record {
          building = t.building;
          reads = record { leads = leads_on rules text (begins start from) (reading stack at kept.building) (reading [] at t.building) (kept.leads text (λ k le. refl)) t.leads; before = less };
          flat = sym t.holds.passed ∙ p;
          holds = t.holds;
        })
    go Refused None p t e =
        let same : ends.Wrong at ≡ how = cc in
        subst (Ends rules start text from older new) same
        (wrong_at rules start text cs end from at stack older old new all kept t less (λ place q. let no : None ≡ Some place = sym p ∙ (t.holds.passed ∙ q) in absurd (cc)))
    go Taken (Some place) p t e =
        let same : ends.Nested place ≡ how = cc in
        let m = t.before in
        let passed : m.building.passed ≡ Some place = sym t.holds.passed ∙ p in
        let near = (leads_keeps rules text (reading stack at kept.building) m t.leads).within (λ q r. let no : None ≡ Some q = sym kept.flat ∙ r in absurd (cc)) place passed in
        let next_is = t.next_is in
        subst (Ends rules start text from older new) same (record {
          reading = reading left (suc at) m.building;
          leads = further rules text (begins start from) m (reading left (suc at) m.building)
              (leads_on rules text (begins start from) (reading stack at kept.building) m (kept.leads text (λ k le. refl)) t.leads) t.taken;
          passed = passed;
          taken = inl (omega arith);
        })
    go Behind (Some place) p t e =
        let same : ends.Nested place ≡ how = cc in
        subst (Ends rules start text from older new) same (record {
          reading = reading [] at t.building;
          leads = leads_on rules text (begins start from) (reading stack at kept.building) (reading [] at t.building) (kept.leads text (λ k le. refl)) t.leads;
          passed = sym t.holds.passed ∙ p;
          taken = inr refl;
        })
    go Refused (Some place) p t e = choose (nat_le at place) refl e
      where
        choose : (u : Bool) → nat_le at place ≡ u → cond u (Some (ends.Wrong at)) (Some (ends.Nested place)) ≡ Some how → Ends rules start text from older new how
        choose true v e =
            let same : ends.Wrong at ≡ how = cc in
            let far = at_most at place v in
            subst (Ends rules start text from older new) same
            (wrong_at rules start text cs end from at stack older old new all kept t less (λ q r.
            let one : Some place ≡ Some q = sym p ∙ (t.holds.passed ∙ r) in let eq : place ≡ q = cc in omega arith))
        choose false v e =
            let same : ends.Nested place ≡ how = cc in
            let near = above at place v in
            let next_is = t.next_is in
            subst (Ends rules start text from older new) same (record {
              reading = t.at;
              leads = leads_on rules text (begins start from) (reading stack at kept.building) t.at (kept.leads text (λ k le. refl)) t.leads;
              passed = sym t.holds.passed ∙ p;
              taken = inl (omega arith);
            })
