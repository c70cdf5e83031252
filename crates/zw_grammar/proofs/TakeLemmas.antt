-- What a stack does with one terminal, and with several, whatever is built.
use Rattle.std.proofs.Common.{◌≡◌, ℕ, zero, suc, ◌+◌, ◌-◌, ◌<◌, ◌≤◌, Bool, true, false, cond, not, ◌==◌, IsTrue, List, [], ◌∷◌, ◌++◌, length, Option, Some, None, slice_get, refl, sym, ap, ◌∙◌, subst, arith, ◌⊎◌, inl, inr}
use Rattle.std.specs.Option.{option_map}
use Rattle.std.specs.Prelude.{option_and_then}
use Rattle.std.proofs.lemmas.Bool.{eqb-true, eq-eqb}
use Rattle.std.proofs.lemmas.Option.{slice_get_within}
use Rattle.zw_grammar.specs.Plain.{PlainRule}
use Rattle.zw_grammar.specs.declared.grammar.Mark.{Mark}
use Rattle.zw_grammar.specs.declared.grammar.Symbol.{Symbol}
use Rattle.zw_grammar.specs.declared.grammar.Symbol.TheVariants.{Take, Read, Build}
use Rattle.zw_grammar.specs.Building.{Building, marked, nothing}
use Rattle.zw_grammar.specs.Completions.{Completion, fits, all_complete}
use Rattle.zw_grammar.specs.Grammars.{steps_of, all_end}
use Rattle.zw_grammar.specs.Reading.{Reading, Leads, after, step, choice}
use Rattle.zw_grammar.specs.Reading.Leads.{here, on}
use Rattle.zw_grammar.specs.Texts.{begins}
use Rattle.zw_grammar.proofs.CompletionLemmas.{choice_fits}
use Rattle.zw_grammar.proofs.LeadLemmas.{Agree, leads_on, leads_next, agree_less}
use Rattle.zw_grammar.proofs.StepLemmas.{and-both, steps_fall}

-- with this terminal next the stack takes it, and leaves another
pub data Takes (rules : List PlainRule) (terminal : ℕ) : List Symbol → List Symbol → Type 0 where
  taken : (rest : List Symbol) → Takes rules terminal (Take terminal ∷ rest) rest
  built : (mark : Mark) (rest left : List Symbol) → Takes rules terminal rest left → Takes rules terminal (Build mark ∷ rest) left
  chosen : (number : ℕ) (symbols rest left : List Symbol) → choice rules number terminal ≡ Some symbols → Takes rules terminal (symbols ++ rest) left → Takes rules terminal (Read number ∷ rest) left

-- from a reading to this stack before this terminal
pub record Goes (rules : List PlainRule) (text : List ℕ) (from : Reading) (stack : List Symbol) (next : ℕ) : Type 0 where
  pub building : Building
  pub leads : Leads rules text from (record { stack = stack; next = next; building = building })

pub takes_leads : (rules : List PlainRule) (text : List ℕ) (terminal : ℕ) (stack left : List Symbol) → Takes rules terminal stack left → (next : ℕ) (b : Building) →
    slice_get text next ≡ Some terminal → Goes rules text (record { stack = stack; next = next; building = b }) left (suc next)
takes_leads rules text t stack left (taken rest) next b there =
    let m : Reading = record { stack = rest; next = suc next; building = b } in
    let one : step rules text (Take t ∷ rest) next b ≡ Some m =
    ap (λ (o : Option ℕ). option_and_then (λ u. cond (u == t) (Some m) None) o) there
    ∙ ap (λ (x : Bool). cond x (Some m) None) (eq-eqb t t refl) in
    record { building = b; leads = on (record { stack = Take t ∷ rest; next = next; building = b }) m m one (here m) }
takes_leads rules text t stack left (built mark rest last p) next b there =
    let m : Reading = record { stack = rest; next = next; building = marked text next mark b } in
    let more = takes_leads rules text t rest last p next (marked text next mark b) there in
    record { building = more.building; leads = on (record { stack = Build mark ∷ rest; next = next; building = b }) m _ refl more.leads }
takes_leads rules text t stack left (chosen number symbols rest last e p) next b there =
    let put : List Symbol → Reading = λ some. record { stack = some ++ rest; next = next; building = b } in
    let first : step rules text (Read number ∷ rest) next b ≡ Some (put symbols) =
    ap (λ (o : Option ℕ). option_map put (option_and_then (choice rules number) o)) there ∙ ap (λ (o : Option (List Symbol)). option_map put o) e in
    let more = takes_leads rules text t (symbols ++ rest) last p next b there in
    record { building = more.building; leads = on (record { stack = Read number ∷ rest; next = next; building = b }) (put symbols) _ first more.leads }

-- what goes on beyond the next terminal takes it
pub record TakesNext (rules : List PlainRule) (text : List ℕ) (r s : Reading) : Type 0 where
  pub terminal : ℕ
  pub there : slice_get text r.next ≡ Some terminal
  pub left : List Symbol
  pub building : Building
  pub takes : Takes rules terminal r.stack left
  pub leads : Leads rules text (record { stack = left; next = suc r.next; building = building }) s

pub some_one : (x y : ℕ) (o : Option ℕ) → o ≡ Some x → o ≡ Some y → x ≡ y
some_one x y o e f = let both : Some x ≡ Some y = sym e ∙ f in cc

step_takes : (rules : List PlainRule) (text : List ℕ) (stack : List Symbol) (next : ℕ) (b : Building) (m s : Reading) → step rules text stack next b ≡ Some m →
    Leads rules text m s → (m.next ≡ next → TakesNext rules text m s) → TakesNext rules text (record { stack = stack; next = next; building = b }) s
step_takes rules text [] next b m s e more later = absurd (cc)
step_takes rules text (Take terminal ∷ rest) next b m s e more later = go (slice_get text next) refl e
  where
    pick : Bool → Option Reading
    pick t = cond t (Some (record { stack = rest; next = suc next; building = b })) None

    one : (u : ℕ) → slice_get text next ≡ Some u → (t : Bool) → (u == terminal) ≡ t → pick t ≡ Some m → TakesNext rules text (record { stack = Take terminal ∷ rest; next = next; building = b }) s
    one u there true f e =
        let same : record { stack = rest; next = suc next; building = b } ≡ m = cc in
        record {
          terminal = terminal;
          there = there ∙ ap (λ (x : ℕ). Some x) (eqb-true u terminal f);
          left = rest;
          building = b;
          takes = taken rest;
          leads = subst (λ (r : Reading). Leads rules text r s) (sym same) more;
        }
    one u there false f e = absurd (cc)

    go : (o : Option ℕ) → slice_get text next ≡ o → option_and_then (λ u. pick (u == terminal)) o ≡ Some m → TakesNext rules text (record { stack = Take terminal ∷ rest; next = next; building = b }) s
    go None there e = absurd (cc)
    go (Some u) there e = one u there (u == terminal) refl e
step_takes rules text (Read number ∷ rest) next b m s e more later = go (slice_get text next) refl e
  where
    put : List Symbol → Reading
    put symbols = record { stack = symbols ++ rest; next = next; building = b }

    one : (u : ℕ) → slice_get text next ≡ Some u → (o : Option (List Symbol)) → choice rules number u ≡ o → option_map put o ≡ Some m → TakesNext rules text (record { stack = Read number ∷ rest; next = next; building = b }) s
    one u there None f e = absurd (cc)
    one u there (Some symbols) f e =
        let same : put symbols ≡ m = cc in
        let next_is : m.next ≡ next = sym (ap (λ (r : Reading). r.next) same) in
        let n = subst (λ (r : Reading). TakesNext rules text r s) (sym same) (later next_is) in
        let equal : u ≡ n.terminal = some_one u n.terminal (slice_get text next) there n.there in
        record {
          terminal = n.terminal;
          there = n.there;
          left = n.left;
          building = n.building;
          takes = chosen number symbols rest n.left (sym (ap (λ (x : ℕ). choice rules number x) equal) ∙ f) n.takes;
          leads = n.leads;
        }

    go : (o : Option ℕ) → slice_get text next ≡ o → option_map put (option_and_then (choice rules number) o) ≡ Some m → TakesNext rules text (record { stack = Read number ∷ rest; next = next; building = b }) s
    go None there e = absurd (cc)
    go (Some u) there e = one u there (choice rules number u) refl e
step_takes rules text (Build mark ∷ rest) next b m s e more later =
    let put : Reading = record { stack = rest; next = next; building = marked text next mark b } in
    let same : put ≡ m = cc in
    let next_is : m.next ≡ next = sym (ap (λ (r : Reading). r.next) same) in
    let n = subst (λ (r : Reading). TakesNext rules text r s) (sym same) (later next_is) in
    record { terminal = n.terminal; there = n.there; left = n.left; building = n.building; takes = built mark rest n.left n.takes; leads = n.leads }

pub leads_takes : (rules : List PlainRule) (text : List ℕ) (r s : Reading) → Leads rules text r s → r.next < s.next → TakesNext rules text r s
leads_takes rules text r s (here q) less = absurd (omega arith)
leads_takes rules text r s (on q m p first rest) less =
    step_takes rules text q.stack q.next q.building m p first rest (λ same. leads_takes rules text m p rest (omega arith))

-- from a stack before one terminal to a stack before another, each terminal between them taken
pub data Reaches (rules : List PlainRule) (text : List ℕ) (from : ℕ) (start : List Symbol) : ℕ → List Symbol → Type 0 where
  at_first : Reaches rules text from start from start
  further : (next terminal : ℕ) (stack left : List Symbol) → Reaches rules text from start next stack → slice_get text next ≡ Some terminal → Takes rules terminal stack left →
      Reaches rules text from start (suc next) left

pub reaches_same : (rules : List PlainRule) (text other : List ℕ) (from : ℕ) (start : List Symbol) (next : ℕ) (stack : List Symbol) →
    Reaches rules text from start next stack → Agree next text other → Reaches rules other from start next stack
reaches_same rules text other from start next stack at_first agree = at_first
reaches_same rules text other from start next stack (further before terminal m left p there takes) agree =
    further before terminal m left (reaches_same rules text other from start before m p (agree_less before (suc before) text other (omega arith) agree))
    (sym (agree before (omega arith)) ∙ there) takes

pub reaches_leads : (rules : List PlainRule) (text : List ℕ) (from : ℕ) (start : List Symbol) (next : ℕ) (stack : List Symbol) →
    Reaches rules text from start next stack → Goes rules text (begins start from) stack next
reaches_leads rules text from start next stack at_first = record { building = nothing; leads = here (begins start from) }
reaches_leads rules text from start next stack (further before terminal m left p there takes) =
    let g = reaches_leads rules text from start before m p in
    let one = takes_leads rules text terminal m left takes before g.building there in
    record { building = one.building; leads = leads_on rules text (begins start from) (record { stack = m; next = before; building = g.building }) (record { stack = left; next = suc before; building = one.building }) g.leads one.leads }

-- what holds of a stack holds of each that it comes to
pub reaches_keeps : (P : List Symbol → Type 0) (rules : List PlainRule) (text : List ℕ) (from : ℕ) (start : List Symbol) (next : ℕ) (stack : List Symbol) →
    ((terminal : ℕ) (s left : List Symbol) → Takes rules terminal s left → P s → P left) → Reaches rules text from start next stack → P start → P stack
reaches_keeps P rules text from start next stack keeps at_first p = p
reaches_keeps P rules text from start next stack keeps (further before terminal m left r there takes) p =
    keeps terminal m left takes (reaches_keeps P rules text from start before m keeps r p)

-- a reading comes by each terminal before the next one
pub record ReachesAt (rules : List PlainRule) (text : List ℕ) (from : ℕ) (start : List Symbol) (at : ℕ) (final : Reading) : Type 0 where
  pub stack : List Symbol
  pub building : Building
  pub reaches : Reaches rules text from start at stack
  pub leads : Leads rules text (record { stack = stack; next = at; building = building }) final

pub leads_reaches : (n : ℕ) (rules : List PlainRule) (text : List ℕ) (from : ℕ) (start : List Symbol) (at : ℕ) (final : Reading) →
    Leads rules text (begins start from) final → at ≡ from + n → at ≤ final.next → ReachesAt rules text from start at final
leads_reaches zero rules text from start at final leads e le =
    let same : from ≡ at = omega arith in
    subst (λ (k : ℕ). ReachesAt rules text from start k final) same (record { stack = start; building = nothing; reaches = at_first; leads = leads })
leads_reaches (suc n) rules text from start at final leads e le =
    let before = from + n in
    let r = leads_reaches n rules text from start before final leads refl (omega arith) in
    let t = leads_takes rules text (record { stack = r.stack; next = before; building = r.building }) final r.leads (omega arith) in
    let same : suc before ≡ at = omega arith in
    subst (λ (k : ℕ). ReachesAt rules text from start k final) same
    (record { stack = t.left; building = t.building; reaches = further before t.terminal r.stack t.left r.reaches t.there t.takes; leads = t.leads })

-- what takes a terminal fits as before
pub takes_fits : (cs : List Completion) (end : ℕ) (rules : List PlainRule) (terminal : ℕ) (stack left : List Symbol) → all_complete cs end rules cs ≡ true →
    Takes rules terminal stack left → fits cs end stack end ≡ true → fits cs end left end ≡ true
takes_fits cs end rules t stack left all (taken rest) f = (and-both (not (t == end)) (fits cs end rest end) f).1
takes_fits cs end rules t stack left all (built mark rest last p) f = takes_fits cs end rules t rest last all p f
takes_fits cs end rules t stack left all (chosen number symbols rest last e p) f =
    takes_fits cs end rules t (symbols ++ rest) last all p (choice_fits cs end rules number t symbols rest all e f)

-- and it is no end
pub takes_no_end : (cs : List Completion) (end : ℕ) (rules : List PlainRule) (terminal : ℕ) (stack left : List Symbol) → all_complete cs end rules cs ≡ true →
    Takes rules terminal stack left → fits cs end stack end ≡ true → terminal ≡ end → ⊥
takes_no_end cs end rules t stack left all (taken rest) f e =
    let both = and-both (not (t == end)) (fits cs end rest end) f in
    let no : not true ≡ true = sym (ap not (eq-eqb t end e)) ∙ both.0 in
    absurd (cc)
takes_no_end cs end rules t stack left all (built mark rest last p) f e = takes_no_end cs end rules t rest last all p f e
takes_no_end cs end rules t stack left all (chosen number symbols rest last c p) f e =
    takes_no_end cs end rules t (symbols ++ rest) last all p (choice_fits cs end rules number t symbols rest all c f) e

-- a reading stays before the last terminal, where that is the end
pub stays_within : (cs : List Completion) (end : ℕ) (rules : List PlainRule) (text : List ℕ) (from : ℕ) (start : List Symbol) (r : Reading) →
    all_complete cs end rules cs ≡ true → fits cs end start end ≡ true → slice_get text (length text - 1) ≡ Some end → from < length text →
    Leads rules text (begins start from) r → r.next < length text
stays_within cs end rules text from start r all f last less leads =
    let at = length text - 1 in
    let no : length text ≤ r.next → ⊥ = λ le.
    let reach = leads_reaches (at - from) rules text from start at r leads (omega arith) (omega arith) in
    let m : Reading = record { stack = reach.stack; next = at; building = reach.building } in
    let t = leads_takes rules text m r reach.leads (omega arith) in
    let fitting = reaches_keeps (λ (s : List Symbol). fits cs end s end ≡ true) rules text from start at reach.stack (λ u s left takes g. takes_fits cs end rules u s left all takes g) reach.reaches f in
    takes_no_end cs end rules t.terminal reach.stack t.left all t.takes fitting (some_one t.terminal end (slice_get text at) t.there last) in
    omega (arith, no)

-- a reading goes on until it can't
pub record IsStuck (rules : List PlainRule) (text : List ℕ) (r : Reading) : Type 0 where
  pub at : Reading
  pub leads : Leads rules text r at
  pub stuck : after rules text at ≡ None

abbrev Falls : List PlainRule → List ℕ → List Symbol → ℕ → Reading → Type 0
Falls rules text stack next m = ((m.next ≡ next) × (steps_of rules m.stack < steps_of rules stack)) ⊎ ((m.next ≡ suc next) × (next < length text))

step_falls : (rules : List PlainRule) (text : List ℕ) (stack : List Symbol) (next : ℕ) (b : Building) (m : Reading) → IsTrue (all_end rules rules) →
    step rules text stack next b ≡ Some m → Falls rules text stack next m
step_falls rules text [] next b m ends e = absurd (cc)
step_falls rules text (Take terminal ∷ rest) next b m ends e = go (slice_get text next) refl e
  where
    pick : Bool → Option Reading
    pick t = cond t (Some (record { stack = rest; next = suc next; building = b })) None

    one : (u : ℕ) → slice_get text next ≡ Some u → (t : Bool) → pick t ≡ Some m → Falls rules text (Take terminal ∷ rest) next m
    one u there true e =
        let same : record { stack = rest; next = suc next; building = b } ≡ m = cc in
        inr (sym (ap (λ (r : Reading). r.next) same), slice_get_within text next u there)
    one u there false e = absurd (cc)

    go : (o : Option ℕ) → slice_get text next ≡ o → option_and_then (λ u. pick (u == terminal)) o ≡ Some m → Falls rules text (Take terminal ∷ rest) next m
    go None there e = absurd (cc)
    go (Some u) there e = one u there (u == terminal) e
step_falls rules text (Read number ∷ rest) next b m ends e = go (slice_get text next) e
  where
    put : List Symbol → Reading
    put symbols = record { stack = symbols ++ rest; next = next; building = b }

    one : (u : ℕ) (o : Option (List Symbol)) → choice rules number u ≡ o → option_map put o ≡ Some m → Falls rules text (Read number ∷ rest) next m
    one u None f e = absurd (cc)
    one u (Some symbols) f e =
        let same : put symbols ≡ m = cc in
        subst (λ (r : Reading). Falls rules text (Read number ∷ rest) next r) same (inl (refl, steps_fall rules number u symbols rest ends f))

    go : (o : Option ℕ) → option_map put (option_and_then (choice rules number) o) ≡ Some m → Falls rules text (Read number ∷ rest) next m
    go None e = absurd (cc)
    go (Some u) e = one u (choice rules number u) refl e
step_falls rules text (Build mark ∷ rest) next b m ends e =
    let put : Reading = record { stack = rest; next = next; building = marked text next mark b } in
    let same : put ≡ m = cc in
    let fewer : steps_of rules rest < suc (steps_of rules rest) = omega arith in
    subst (λ (r : Reading). Falls rules text (Build mark ∷ rest) next r) same (inl (refl, fewer))

stuck_here : (rules : List PlainRule) (text : List ℕ) (more : ℕ) (r : Reading) → IsTrue (all_end rules rules) →
    ((m : Reading) (less : ℕ) → more ≡ suc less → length text ≤ m.next + less → IsStuck rules text m) →
    ((m : Reading) → length text ≤ m.next + more → steps_of rules m.stack < steps_of rules r.stack → IsStuck rules text m) →
    length text ≤ r.next + more → (o : Option Reading) → after rules text r ≡ o → IsStuck rules text r
stuck_here rules text more r ends later smaller long None e = record { at = r; leads = here r; stuck = e }
stuck_here rules text more r ends later smaller long (Some m) e = elim (step_falls rules text r.stack r.next r.building m ends e) [
  | inl p ↦
      let next_is = p.0 in
      let n = smaller m (omega arith) p.1 in
      record { at = n.at; leads = on r m n.at e n.leads; stuck = n.stuck }
  | inr p ↦
      let next_is = p.0 in
      let less = p.1 in
      let n = later m (more - 1) (omega arith) (omega arith) in
      record { at = n.at; leads = on r m n.at e n.leads; stuck = n.stuck }
]

stuck_before : (fuel : ℕ) (rules : List PlainRule) (text : List ℕ) (more : ℕ) (r : Reading) → IsTrue (all_end rules rules) →
    ((m : Reading) (less : ℕ) → more ≡ suc less → length text ≤ m.next + less → IsStuck rules text m) →
    length text ≤ r.next + more → steps_of rules r.stack ≤ fuel → IsStuck rules text r
stuck_before zero rules text more r ends later long bound =
    stuck_here rules text more r ends later (λ m far fewer. absurd (omega arith)) long (after rules text r) refl
stuck_before (suc fuel) rules text more r ends later long bound =
    stuck_here rules text more r ends later (λ m far fewer. stuck_before fuel rules text more m ends later far (omega arith)) long (after rules text r) refl

pub stuck_somewhere : (more : ℕ) (rules : List PlainRule) (text : List ℕ) (r : Reading) → IsTrue (all_end rules rules) → length text ≤ r.next + more → IsStuck rules text r
stuck_somewhere zero rules text r ends long =
    stuck_before (steps_of rules r.stack) rules text zero r ends (λ m less e le. absurd (omega arith)) long (omega arith)
stuck_somewhere (suc more) rules text r ends long =
    stuck_before (steps_of rules r.stack) rules text (suc more) r ends
    (λ m less e le. let same : less ≡ more = omega arith in stuck_somewhere more rules text m ends (omega arith)) long (omega arith)

-- with this terminal next the stack is read to its end, and the terminal isn't taken
pub data Finishes (rules : List PlainRule) (terminal : ℕ) : List Symbol → Type 0 where
  finished : Finishes rules terminal []
  passed : (mark : Mark) (rest : List Symbol) → Finishes rules terminal rest → Finishes rules terminal (Build mark ∷ rest)
  by_choice : (number : ℕ) (symbols rest : List Symbol) → choice rules number terminal ≡ Some symbols → Finishes rules terminal (symbols ++ rest) → Finishes rules terminal (Read number ∷ rest)

pub finishes_leads : (rules : List PlainRule) (text : List ℕ) (terminal : ℕ) (stack : List Symbol) → Finishes rules terminal stack → (next : ℕ) (b : Building) →
    slice_get text next ≡ Some terminal → Goes rules text (record { stack = stack; next = next; building = b }) [] next
finishes_leads rules text t stack finished next b there = record { building = b; leads = here (record { stack = []; next = next; building = b }) }
finishes_leads rules text t stack (passed mark rest p) next b there =
    let m : Reading = record { stack = rest; next = next; building = marked text next mark b } in
    let more = finishes_leads rules text t rest p next (marked text next mark b) there in
    record { building = more.building; leads = on (record { stack = Build mark ∷ rest; next = next; building = b }) m _ refl more.leads }
finishes_leads rules text t stack (by_choice number symbols rest e p) next b there =
    let put : List Symbol → Reading = λ some. record { stack = some ++ rest; next = next; building = b } in
    let first : step rules text (Read number ∷ rest) next b ≡ Some (put symbols) =
    ap (λ (o : Option ℕ). option_map put (option_and_then (choice rules number) o)) there ∙ ap (λ (o : Option (List Symbol)). option_map put o) e in
    let more = finishes_leads rules text t (symbols ++ rest) p next b there in
    record { building = more.building; leads = on (record { stack = Read number ∷ rest; next = next; building = b }) (put symbols) _ first more.leads }

step_finishes : (rules : List PlainRule) (text : List ℕ) (terminal : ℕ) (stack : List Symbol) (next : ℕ) (b : Building) (m : Reading) → step rules text stack next b ≡ Some m →
    slice_get text next ≡ Some terminal → m.next ≤ next → (m.next ≡ next → Finishes rules terminal m.stack) → Finishes rules terminal stack
step_finishes rules text t [] next b m e there le later = finished
step_finishes rules text t (Take terminal ∷ rest) next b m e there le later = go (slice_get text next) e
  where
    pick : Bool → Option Reading
    pick x = cond x (Some (record { stack = rest; next = suc next; building = b })) None

    one : (x : Bool) → pick x ≡ Some m → Finishes rules t (Take terminal ∷ rest)
    one true e =
        let same : record { stack = rest; next = suc next; building = b } ≡ m = cc in
        let at : suc next ≡ m.next = ap (λ (r : Reading). r.next) same in
        absurd (omega arith)
    one false e = absurd (cc)

    go : (o : Option ℕ) → option_and_then (λ u. pick (u == terminal)) o ≡ Some m → Finishes rules t (Take terminal ∷ rest)
    go None e = absurd (cc)
    go (Some u) e = one (u == terminal) e
step_finishes rules text t (Read number ∷ rest) next b m e there le later = go (choice rules number t) refl chosen_it
  where
    put : List Symbol → Reading
    put symbols = record { stack = symbols ++ rest; next = next; building = b }

    chosen_it : option_map put (choice rules number t) ≡ Some m
    chosen_it = sym (ap (λ (o : Option ℕ). option_map put (option_and_then (choice rules number) o)) there) ∙ e

    go : (o : Option (List Symbol)) → choice rules number t ≡ o → option_map put o ≡ Some m → Finishes rules t (Read number ∷ rest)
    go None f e = absurd (cc)
    go (Some symbols) f e =
        let same : put symbols ≡ m = cc in
        let next_is : m.next ≡ next = sym (ap (λ (r : Reading). r.next) same) in
        by_choice number symbols rest f (subst (λ (r : Reading). Finishes rules t r.stack) (sym same) (later next_is))
step_finishes rules text t (Build mark ∷ rest) next b m e there le later =
    let same : record { stack = rest; next = next; building = marked text next mark b } ≡ m = cc in
    let next_is : m.next ≡ next = sym (ap (λ (r : Reading). r.next) same) in
    passed mark rest (subst (λ (r : Reading). Finishes rules t r.stack) (sym same) (later next_is))

pub leads_finishes : (rules : List PlainRule) (text : List ℕ) (terminal : ℕ) (r s : Reading) → Leads rules text r s → s.stack ≡ [] → s.next ≡ r.next → slice_get text r.next ≡ Some terminal →
    Finishes rules terminal r.stack
leads_finishes rules text t r s (here q) empty same there = subst (Finishes rules t) (sym empty) finished
leads_finishes rules text t r s (on q m p first rest) empty same there =
    let further_on = leads_next rules text m p rest in
    step_finishes rules text t q.stack q.next q.building m first there (omega arith)
    (λ next_is. leads_finishes rules text t m p rest empty (same ∙ sym next_is) (ap (λ (n : ℕ). slice_get text n) next_is ∙ there))

pub some_list : (x y : List Symbol) (o : Option (List Symbol)) → o ≡ Some x → o ≡ Some y → x ≡ y
some_list x y o e f = let both : Some x ≡ Some y = sym e ∙ f in cc

-- what finishes takes nothing
pub finishes_or_takes : (rules : List PlainRule) (terminal : ℕ) (stack other left : List Symbol) → Takes rules terminal stack left → Finishes rules terminal other → other ≡ stack → ⊥
finishes_or_takes rules t stack other left (taken rest) finished e = absurd (cc)
finishes_or_takes rules t stack other left (taken rest) (passed mark more p) e = absurd (cc)
finishes_or_takes rules t stack other left (taken rest) (by_choice number symbols more c p) e = absurd (cc)
finishes_or_takes rules t stack other left (built mark rest last q) finished e = absurd (cc)
finishes_or_takes rules t stack other left (built mark rest last q) (passed name more p) e =
    let same : more ≡ rest = cc in finishes_or_takes rules t rest more last q p same
finishes_or_takes rules t stack other left (built mark rest last q) (by_choice number symbols more c p) e = absurd (cc)
finishes_or_takes rules t stack other left (chosen number symbols rest last d q) finished e = absurd (cc)
finishes_or_takes rules t stack other left (chosen number symbols rest last d q) (passed mark more p) e = absurd (cc)
finishes_or_takes rules t stack other left (chosen number symbols rest last d q) (by_choice rule some more c p) e =
    let rests : more ≡ rest = cc in
    let rule_is : rule ≡ number = cc in
    let symbols_are : some ≡ symbols = some_list some symbols (choice rules number t) (sym (ap (λ (n : ℕ). choice rules n t) rule_is) ∙ c) d in
    let same : some ++ more ≡ symbols ++ rest = ap (λ (l : List Symbol). l ++ more) symbols_are ∙ ap (λ (l : List Symbol). symbols ++ l) rests in
    finishes_or_takes rules t (symbols ++ rest) (some ++ more) last q p same
