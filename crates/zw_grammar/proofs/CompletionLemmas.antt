-- What was read of a text can be completed.
use Rattle.std.proofs.Common.{◌≡◌, ℕ, zero, suc, ◌+◌, ◌<◌, ◌≤◌, Bool, true, false, cond, ◌&&◌, ◌||◌, not, ◌==◌, nat_lt, List, [], ◌∷◌, ◌++◌, Option, Some, None, slice_get, refl, sym, ap, ◌∙◌, subst, append_assoc, arith}
use Rattle.std.specs.List.{list_all, list_any}
use Rattle.std.specs.Option.{option_map}
use Rattle.std.specs.Prelude.{option_and_then}
use Rattle.std.proofs.lemmas.Bool.{eqb-true, eq-eqb}
use Rattle.zw_grammar.specs.Plain.{PlainRule}
use Rattle.zw_grammar.specs.declared.grammar.Symbol.{Symbol}
use Rattle.zw_grammar.specs.declared.grammar.Symbol.TheVariants.{Take, Read, Build}
use Rattle.zw_grammar.specs.Building.{Building, marked}
use Rattle.zw_grammar.specs.Completions.{Completion, text_at, text_of, steps_at, bound_of, first_of, behind_at, fits, is_same, completes_by, rule_completes, all_complete}
use Rattle.zw_grammar.specs.Reading.{Reading, Leads, after, step, choice, first_choice}
use Rattle.zw_grammar.specs.Reading.Leads.{here, on}
use Rattle.zw_grammar.proofs.StepLemmas.{and-both, below, first_choice_passes}

pub text_of-append : (cs : List Completion) (a s : List Symbol) → text_of cs (a ++ s) ≡ text_of cs a ++ text_of cs s
text_of-append cs [] s = refl
text_of-append cs (Take terminal ∷ a) s = ap (λ (more : List ℕ). terminal ∷ more) (text_of-append cs a s)
text_of-append cs (Build mark ∷ a) s = text_of-append cs a s
text_of-append cs (Read number ∷ a) s =
    ap (λ (more : List ℕ). text_at (slice_get cs number) ++ more) (text_of-append cs a s)
    ∙ sym (append_assoc (text_at (slice_get cs number)) (text_of cs a) (text_of cs s))

bound_of-append : (cs : List Completion) (a s : List Symbol) → bound_of cs (a ++ s) ≡ bound_of cs a + bound_of cs s
bound_of-append cs [] s = omega arith
bound_of-append cs (Take terminal ∷ a) s = let more = bound_of-append cs a s in omega arith
bound_of-append cs (Build mark ∷ a) s = let more = bound_of-append cs a s in omega arith
bound_of-append cs (Read number ∷ a) s = let more = bound_of-append cs a s in omega arith

pub first_of-append : (a b : List ℕ) (behind : ℕ) → first_of (a ++ b) behind ≡ first_of a (first_of b behind)
first_of-append [] b behind = refl
first_of-append (x ∷ a) b behind = refl

both-and : (a b : Bool) → a ≡ true → b ≡ true → (a && b) ≡ true
both-and true true e f = refl
both-and true false e f = f
both-and false b e f = e

fits-append : (cs : List Completion) (end behind : ℕ) (a s : List Symbol) →
    fits cs end a (first_of (text_of cs s) behind) ≡ true → fits cs end s behind ≡ true → fits cs end (a ++ s) behind ≡ true
fits-append cs end behind [] s e f = f
fits-append cs end behind (Take terminal ∷ a) s e f =
    let both = and-both (not (terminal == end)) (fits cs end a (first_of (text_of cs s) behind)) e in
    both-and _ _ both.0 (fits-append cs end behind a s both.1 f)
fits-append cs end behind (Build mark ∷ a) s e f = fits-append cs end behind a s e f
fits-append cs end behind (Read number ∷ a) s e f =
    let both = and-both (behind_at (slice_get cs number) (first_of (text_of cs a) (first_of (text_of cs s) behind))) (fits cs end a (first_of (text_of cs s) behind)) e in
    let same : first_of (text_of cs a) (first_of (text_of cs s) behind) ≡ first_of (text_of cs (a ++ s)) behind =
    sym (ap (λ (t : List ℕ). first_of t behind) (text_of-append cs a s) ∙ first_of-append (text_of cs a) (text_of cs s) behind) in
    both-and _ _ (sym (ap (λ (h : ℕ). behind_at (slice_get cs number) h) same) ∙ both.0) (fits-append cs end behind a s both.1 f)

same_list : (xs ys : List ℕ) → is_same xs ys ≡ true → xs ≡ ys
same_list [] [] e = refl
same_list [] (y ∷ ys) e = absurd (cc)
same_list (x ∷ xs) [] e = absurd (cc)
same_list (x ∷ xs) (y ∷ ys) e =
    let both = and-both (x == y) (is_same xs ys) e in
    let heads : x ≡ y = eqb-true x y both.0 in
    let tails = same_list xs ys both.1 in cc

-- a test that all pass is passed by one of them
pub holds_of : (test : ℕ → Bool) (xs : List ℕ) (x : ℕ) → list_all test xs ≡ true → list_any (λ other. other == x) xs ≡ true → test x ≡ true
holds_of test [] x all there = absurd (cc)
holds_of test (y ∷ ys) x all there =
    let both = and-both (test y) (list_all test ys) all in
    let later = holds_of test ys x both.1 in
    let P : Bool → Type 0 = λ t. (y == x) ≡ t → (t || list_any (λ other. other == x) ys) ≡ true → test x ≡ true in
    let go : (t : Bool) → P t = λ t. elim t as P [
      | true ↦ λ e more. let same : x ≡ y = sym (eqb-true y x e) in ap test same ∙ both.0
      | false ↦ λ e more. later more
    ] in
    go (y == x) refl there

-- the completion of a rule, and the rule
pub record IsPair (cs : List Completion) (end : ℕ) (rules : List PlainRule) (number : ℕ) (c : Completion) : Type 0 where
  pub rule : PlainRule
  pub there : slice_get rules number ≡ Some rule
  pub completes : rule_completes cs end rule c ≡ true

pair_at : (cs : List Completion) (end : ℕ) (rules : List PlainRule) (some : List Completion) (number : ℕ) (c : Completion) →
    all_complete cs end rules some ≡ true → slice_get some number ≡ Some c → IsPair cs end rules number c
pair_at cs end [] [] number c all there = absurd (cc)
pair_at cs end [] (d ∷ ds) number c all there = absurd (cc)
pair_at cs end (r ∷ rs) [] number c all there = absurd (cc)
pair_at cs end (r ∷ rs) (d ∷ ds) zero c all there =
    let both = and-both (rule_completes cs end r d) (all_complete cs end rs ds) all in
    let same : d ≡ c = cc in
    record { rule = r; there = refl; completes = sym (ap (λ (e : Completion). rule_completes cs end r e) same) ∙ both.0 }
pair_at cs end (r ∷ rs) (d ∷ ds) (suc number) c all there =
    let more = pair_at cs end rs ds number c (and-both (rule_completes cs end r d) (all_complete cs end rs ds) all).1 there in
    record { rule = more.rule; there = more.there; completes = more.completes }

-- before a terminal that may stand behind a rule
pub record IsBefore (cs : List Completion) (end : ℕ) (rules : List PlainRule) (number behind : ℕ) : Type 0 where
  pub rule : PlainRule
  pub completion : Completion
  pub there : slice_get rules number ≡ Some rule
  pub known : slice_get cs number ≡ Some completion
  pub by : completes_by cs completion (first_choice rule.alternatives (first_of completion.text behind)) ≡ true
  pub fitting : list_all (λ alternative. fits cs end alternative.symbols behind) rule.alternatives ≡ true

pub before_behind : (cs : List Completion) (end : ℕ) (rules : List PlainRule) (number behind : ℕ) →
    all_complete cs end rules cs ≡ true → behind_at (slice_get cs number) behind ≡ true → IsBefore cs end rules number behind
before_behind cs end rules number behind all may = go (slice_get cs number) refl may
  where
    go : (o : Option Completion) → slice_get cs number ≡ o → behind_at o behind ≡ true → IsBefore cs end rules number behind
    go None e may = absurd (cc)
    go (Some c) e may =
        let pair = pair_at cs end rules cs number c all e in
        let test : ℕ → Bool = λ h. completes_by cs c (first_choice pair.rule.alternatives (first_of c.text h))
        && list_all (λ alternative. fits cs end alternative.symbols h) pair.rule.alternatives in
        let passes = holds_of test c.behind behind pair.completes may in
        let both = and-both (completes_by cs c (first_choice pair.rule.alternatives (first_of c.text behind)))
        (list_all (λ alternative. fits cs end alternative.symbols behind) pair.rule.alternatives) passes in
        record { rule = pair.rule; completion = c; there = pair.there; known = e; by = both.0; fitting = both.1 }

-- what a rule reads fits where the rule does
pub choice_fits : (cs : List Completion) (end : ℕ) (rules : List PlainRule) (number terminal : ℕ) (symbols others : List Symbol) →
    all_complete cs end rules cs ≡ true → choice rules number terminal ≡ Some symbols → fits cs end (Read number ∷ others) end ≡ true →
    fits cs end (symbols ++ others) end ≡ true
choice_fits cs end rules number terminal symbols others all chosen fitting =
    let h = first_of (text_of cs others) end in
    let both = and-both (behind_at (slice_get cs number) h) (fits cs end others end) fitting in
    let here = before_behind cs end rules number h all both.0 in
    let of_rule : first_choice here.rule.alternatives terminal ≡ Some symbols =
    sym (ap (λ (o : Option PlainRule). option_and_then (λ (rule : PlainRule). first_choice rule.alternatives terminal) o) here.there) ∙ chosen in
    let one = first_choice_passes (λ alternative. fits cs end alternative.symbols h) here.rule.alternatives terminal symbols here.fitting of_rule in
    let P : List Symbol → Type 0 = λ more. fits cs end more h ≡ true in
    fits-append cs end end symbols others (subst P one.reads one.passes) both.1

pub step_fits : (cs : List Completion) (end : ℕ) (rules : List PlainRule) (text : List ℕ) (stack : List Symbol) (next : ℕ) (b : Building) (s : Reading) →
    all_complete cs end rules cs ≡ true → fits cs end stack end ≡ true → step rules text stack next b ≡ Some s → fits cs end s.stack end ≡ true
step_fits cs end rules text [] next b s all fitting e = absurd (cc)
step_fits cs end rules text (Take terminal ∷ more) next b s all fitting e = go (slice_get text next) e
  where
    pick : Bool → Option Reading
    pick t = cond t (Some (record { stack = more; next = suc next; building = b })) None

    chosen : (t : Bool) → pick t ≡ Some s → fits cs end s.stack end ≡ true
    chosen true e =
        let same : record { stack = more; next = suc next; building = b } ≡ s = cc in
        let P : Reading → Type 0 = λ r. fits cs end r.stack end ≡ true in
        subst P same (and-both (not (terminal == end)) (fits cs end more end) fitting).1
    chosen false e = absurd (cc)

    go : (o : Option ℕ) → option_and_then (λ u. pick (u == terminal)) o ≡ Some s → fits cs end s.stack end ≡ true
    go None e = absurd (cc)
    go (Some u) e = chosen (u == terminal) e
step_fits cs end rules text (Read number ∷ more) next b s all fitting e = go (slice_get text next) e
  where
    put : List Symbol → Reading
    put symbols = record { stack = symbols ++ more; next = next; building = b }

    chosen : (u : ℕ) (o : Option (List Symbol)) → choice rules number u ≡ o → option_map put o ≡ Some s → fits cs end s.stack end ≡ true
    chosen u None f e = absurd (cc)
    chosen u (Some symbols) f e =
        let same : put symbols ≡ s = cc in
        let P : Reading → Type 0 = λ r. fits cs end r.stack end ≡ true in
        subst P same (choice_fits cs end rules number u symbols more all f fitting)

    go : (o : Option ℕ) → option_map put (option_and_then (choice rules number) o) ≡ Some s → fits cs end s.stack end ≡ true
    go None e = absurd (cc)
    go (Some u) e = chosen u (choice rules number u) refl e
step_fits cs end rules text (Build mark ∷ more) next b s all fitting e =
    let same : record { stack = more; next = next; building = marked text next mark b } ≡ s = cc in
    let P : Reading → Type 0 = λ r. fits cs end r.stack end ≡ true in
    subst P same fitting

pub leads_fits : (cs : List Completion) (end : ℕ) (rules : List PlainRule) (text : List ℕ) (r s : Reading) → all_complete cs end rules cs ≡ true →
    Leads rules text r s → fits cs end r.stack end ≡ true → fits cs end s.stack end ≡ true
leads_fits cs end rules text r s all (here q) fitting = fitting
leads_fits cs end rules text r s all (on q m p first rest) fitting =
    leads_fits cs end rules text m p all rest (step_fits cs end rules text q.stack q.next q.building m all fitting first)

-- from a place on a text is this one
abbrev pub IsFrom : List ℕ → ℕ → List ℕ → Type 0
IsFrom text next part = (k : ℕ) → slice_get text (next + k) ≡ slice_get part k

first_there : (text : List ℕ) (next : ℕ) (part : List ℕ) → IsFrom text next part → slice_get text next ≡ slice_get part 0
first_there text next part is = let same : next ≡ next + 0 = omega arith in ap (λ (k : ℕ). slice_get text k) same ∙ is 0

rest_there : (text : List ℕ) (next terminal : ℕ) (part : List ℕ) → IsFrom text next (terminal ∷ part) → IsFrom text (suc next) part
rest_there text next terminal part is = λ k. let same : suc next + k ≡ next + suc k = omega arith in ap (λ (j : ℕ). slice_get text j) same ∙ is (suc k)

first_of_there : (part : List ℕ) (end : ℕ) → slice_get (part ++ (end ∷ [])) 0 ≡ Some (first_of part end)
first_of_there [] end = refl
first_of_there (x ∷ part) end = refl

-- all is read up to the end
pub record IsCompleted (rules : List PlainRule) (text : List ℕ) (from : Reading) (end : ℕ) : Type 0 where
  pub to : ℕ
  pub building : Building
  pub leads : Leads rules text from (record { stack = []; next = to; building = building })
  pub there : slice_get text to ≡ Some end

first_step : (rules : List PlainRule) (text : List ℕ) (r m : Reading) (end : ℕ) → after rules text r ≡ Some m → IsCompleted rules text m end → IsCompleted rules text r end
first_step rules text r m end e done = record { to = done.to; building = done.building; leads = on r m _ e done.leads; there = done.there }

-- a rule is read as its text says
pub record IsExpanded (cs : List Completion) (end : ℕ) (rules : List PlainRule) (text : List ℕ) (number : ℕ) (more : List Symbol) (next : ℕ) (b : Building) : Type 0 where
  pub symbols : List Symbol
  pub first : step rules text (Read number ∷ more) next b ≡ Some (record { stack = symbols ++ more; next = next; building = b })
  pub bound : bound_of cs (symbols ++ more) < bound_of cs (Read number ∷ more)
  pub fitting : fits cs end (symbols ++ more) end ≡ true
  pub same : text_of cs (symbols ++ more) ≡ text_of cs (Read number ∷ more)

expanded : (cs : List Completion) (end : ℕ) (rules : List PlainRule) (text : List ℕ) (number : ℕ) (more : List Symbol) (next : ℕ) (b : Building) →
    all_complete cs end rules cs ≡ true → fits cs end (Read number ∷ more) end ≡ true → IsFrom text next (text_of cs (Read number ∷ more) ++ (end ∷ [])) →
    IsExpanded cs end rules text number more next b
expanded cs end rules text number more next b all fitting is =
    let h = first_of (text_of cs more) end in
    let both = and-both (behind_at (slice_get cs number) h) (fits cs end more end) fitting in
    let pair = before_behind cs end rules number h all both.0 in
    let c = pair.completion in
    let u = first_of c.text h in
    let texts : text_at (slice_get cs number) ≡ c.text = ap text_at pair.known in
    let steps : steps_at (slice_get cs number) ≡ c.steps = ap steps_at pair.known in
    let there : slice_get text next ≡ Some u =
    first_there text next (text_of cs (Read number ∷ more) ++ (end ∷ [])) is
    ∙ (first_of_there (text_of cs (Read number ∷ more)) end
    ∙ ap (λ (v : ℕ). Some v) (first_of-append (text_at (slice_get cs number)) (text_of cs more) end ∙ ap (λ (t : List ℕ). first_of t h) texts)) in
    let put : List Symbol → Reading = λ symbols. record { stack = symbols ++ more; next = next; building = b } in
    let P : Option (List Symbol) → Type 0 = λ o. first_choice pair.rule.alternatives u ≡ o → completes_by cs c o ≡ true → IsExpanded cs end rules text number more next b in
    let go : (o : Option (List Symbol)) → P o = λ o. elim o as P [
      | None ↦ λ e f. absurd (cc)
      | Some symbols ↦ λ e f.
          let tests = and-both (is_same (text_of cs symbols) c.text) (nat_lt (bound_of cs symbols) c.steps) f in
          let chosen : choice rules number u ≡ Some symbols =
          ap (λ (o : Option PlainRule). option_and_then (λ (rule : PlainRule). first_choice rule.alternatives u) o) pair.there ∙ e in
          let less = below (bound_of cs symbols) c.steps tests.1 in
          let sum = bound_of-append cs symbols more in
          record {
            symbols = symbols;
            first = ap (λ (o : Option ℕ). option_map put (option_and_then (choice rules number) o)) there ∙ ap (λ (o : Option (List Symbol)). option_map put o) chosen;
            bound = omega arith;
            fitting = choice_fits cs end rules number u symbols more all chosen fitting;
            same = text_of-append cs symbols more ∙ ap (λ (t : List ℕ). t ++ text_of cs more) (same_list (text_of cs symbols) c.text tests.0 ∙ sym texts);
          }
    ] in
    go (first_choice pair.rule.alternatives u) refl pair.by

pub completed : (fuel : ℕ) (cs : List Completion) (end : ℕ) (rules : List PlainRule) (text : List ℕ) (stack : List Symbol) (next : ℕ) (b : Building) →
    all_complete cs end rules cs ≡ true → bound_of cs stack ≤ fuel → fits cs end stack end ≡ true → IsFrom text next (text_of cs stack ++ (end ∷ [])) →
    IsCompleted rules text (record { stack = stack; next = next; building = b }) end
completed fuel cs end rules text [] next b all bound fitting is =
    record { to = next; building = b; leads = here _; there = first_there text next (end ∷ []) is }
completed zero cs end rules text (Take terminal ∷ more) next b all bound fitting is = absurd (omega arith)
completed (suc fuel) cs end rules text (Take terminal ∷ more) next b all bound fitting is =
    let both = and-both (not (terminal == end)) (fits cs end more end) fitting in
    let there : slice_get text next ≡ Some terminal = first_there text next (terminal ∷ (text_of cs more ++ (end ∷ []))) is in
    let m : Reading = record { stack = more; next = suc next; building = b } in
    let one : step rules text (Take terminal ∷ more) next b ≡ Some m =
    ap (λ (o : Option ℕ). option_and_then (λ u. cond (u == terminal) (Some m) None) o) there
    ∙ ap (λ (t : Bool). cond t (Some m) None) (eq-eqb terminal terminal refl) in
    first_step rules text _ m end one
    (completed fuel cs end rules text more (suc next) b all (omega arith) both.1 (rest_there text next terminal (text_of cs more ++ (end ∷ [])) is))
completed zero cs end rules text (Build mark ∷ more) next b all bound fitting is = absurd (omega arith)
completed (suc fuel) cs end rules text (Build mark ∷ more) next b all bound fitting is =
    first_step rules text _ (record { stack = more; next = next; building = marked text next mark b }) end refl
    (completed fuel cs end rules text more next (marked text next mark b) all (omega arith) fitting is)
completed zero cs end rules text (Read number ∷ more) next b all bound fitting is =
    let e = expanded cs end rules text number more next b all fitting is in
    let less = e.bound in
    absurd (omega arith)
completed (suc fuel) cs end rules text (Read number ∷ more) next b all bound fitting is =
    let e = expanded cs end rules text number more next b all fitting is in
    let less = e.bound in
    first_step rules text _ (record { stack = e.symbols ++ more; next = next; building = b }) end e.first
    (completed fuel cs end rules text (e.symbols ++ more) next b all (omega arith) e.fitting
    (subst (λ (t : List ℕ). IsFrom text next (t ++ (end ∷ []))) (sym e.same) is))
