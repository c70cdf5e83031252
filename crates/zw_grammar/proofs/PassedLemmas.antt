-- Where the first rule begins that is nested too deep.
use Rattle.std.proofs.Common.{◌≡◌, ℕ, suc, ◌-◌, ◌≤◌, Bool, true, false, cond, ◌==◌, nat_lt, List, [], ◌∷◌, ◌++◌, Option, Some, None, slice_get, refl, sym, ap, ◌∙◌, subst, arith}
use Rattle.std.specs.Option.{option_map}
use Rattle.std.specs.Prelude.{option_and_then}
use Rattle.zw_grammar.specs.Plain.{PlainRule}
use Rattle.zw_grammar.specs.declared.builder.TheConstants.{MAX_DEPTH}
use Rattle.zw_grammar.specs.declared.grammar.Mark.{Mark}
use Rattle.zw_grammar.specs.declared.grammar.Mark.TheVariants.{Open, Wrap, Close, Leaf, Word, Enter, Leave}
use Rattle.zw_grammar.specs.declared.grammar.Symbol.{Symbol}
use Rattle.zw_grammar.specs.declared.grammar.Symbol.TheVariants.{Take, Read, Build}
use Rattle.zw_grammar.specs.Building.{Building, Begun, marked, ends, enter, first_of}
use Rattle.zw_grammar.specs.Reading.{Reading, Leads, step, choice}
use Rattle.zw_grammar.specs.Reading.Leads.{here, on}

-- what is built behind a mark: a place that was passed stays the first, and none is passed that lies behind the next terminal
pub record Keeps (next : ℕ) (old new : Option ℕ) : Type 0 where
  pub stays : (place : ℕ) → old ≡ Some place → new ≡ Some place
  pub within : ((place : ℕ) → old ≡ Some place → place ≤ next) → (place : ℕ) → new ≡ Some place → place ≤ next

keeps_same : (next : ℕ) (o : Option ℕ) → Keeps next o o
keeps_same next o = record { stays = λ place e. e; within = λ less. less }

keeps_first : (next place : ℕ) (o : Option ℕ) → place ≤ next → Keeps next o (first_of o place)
keeps_first next place None le = record {
  stays = λ other e. absurd (cc);
  within = λ less other e. let same : place ≡ other = cc in omega arith;
}
keeps_first next place (Some earlier) le = keeps_same next (Some earlier)

ends_keeps : (next last : ℕ) (begun : List Begun) (b : Building) → Keeps next b.passed (ends last begun b).passed
ends_keeps next last [] b = keeps_same next b.passed
ends_keeps next last (node ∷ outer) b = keeps_same next b.passed

enter_keeps : (next place : ℕ) (b : Building) → place ≤ next → Keeps next b.passed (enter place b).passed
enter_keeps next place b le = go (nat_lt b.depth MAX_DEPTH)
  where
    go : (t : Bool) → Keeps next b.passed (cond {A = Building} t (record { ended = b.ended; begun = b.begun; depth = suc b.depth; passed = b.passed }) (record { ended = b.ended; begun = b.begun; depth = b.depth; passed = first_of b.passed place })).passed
    go true = keeps_same next b.passed
    go false = keeps_first next place b.passed le

pub marked_keeps : (text : List ℕ) (next : ℕ) (mark : Mark) (b : Building) → Keeps next b.passed (marked text next mark b).passed
marked_keeps text next (Open kind back) b = keeps_same next b.passed
marked_keeps text next (Wrap kind n) b = keeps_same next b.passed
marked_keeps text next Close b = ends_keeps next (next - 1) b.begun b
marked_keeps text next (Leaf kind back) b = keeps_same next b.passed
marked_keeps text next (Word terminal kind last back) b = keeps_same next b.passed
marked_keeps text next (Enter back) b = enter_keeps next (next - back) b (omega arith)
marked_keeps text next Leave b = keeps_same next b.passed

-- the same of a whole reading
pub record KeepsOn (r s : Reading) : Type 0 where
  pub stays : (place : ℕ) → r.building.passed ≡ Some place → s.building.passed ≡ Some place
  pub within : ((place : ℕ) → r.building.passed ≡ Some place → place ≤ r.next) → (place : ℕ) → s.building.passed ≡ Some place → place ≤ s.next

same_on : (r s : Reading) → r.building ≡ s.building → r.next ≤ s.next → KeepsOn r s
same_on r s e le = record {
  stays = λ place p. sym (ap (λ (b : Building). b.passed) e) ∙ p;
  within = λ less place p. let old = less place (ap (λ (b : Building). b.passed) e ∙ p) in omega arith;
}

step_keeps : (rules : List PlainRule) (text : List ℕ) (stack : List Symbol) (next : ℕ) (b : Building) (s : Reading) → step rules text stack next b ≡ Some s →
    KeepsOn (record { stack = stack; next = next; building = b }) s
step_keeps rules text [] next b s e = absurd (cc)
step_keeps rules text (Take terminal ∷ more) next b s e = go (slice_get text next) e
  where
    from : Reading
    from = record { stack = Take terminal ∷ more; next = next; building = b }

    pick : Bool → Option Reading
    pick t = cond t (Some (record { stack = more; next = suc next; building = b })) None

    chosen : (t : Bool) → pick t ≡ Some s → KeepsOn (record { stack = Take terminal ∷ more; next = next; building = b }) s
    chosen true e =
        let same : record { stack = more; next = suc next; building = b } ≡ s = cc in
        let at : suc next ≡ s.next = ap (λ (r : Reading). r.next) same in
        same_on (record { stack = Take terminal ∷ more; next = next; building = b }) s (ap (λ (r : Reading). r.building) same) (omega arith)
    chosen false e = absurd (cc)

    go : (o : Option ℕ) → option_and_then (λ u. pick (u == terminal)) o ≡ Some s → KeepsOn (record { stack = Take terminal ∷ more; next = next; building = b }) s
    go None e = absurd (cc)
    go (Some u) e = chosen (u == terminal) e
step_keeps rules text (Read number ∷ more) next b s e = go (option_and_then (choice rules number) (slice_get text next)) e
  where
    put : List Symbol → Reading
    put symbols = record { stack = symbols ++ more; next = next; building = b }

    go : (o : Option (List Symbol)) → option_map put o ≡ Some s → KeepsOn (record { stack = Read number ∷ more; next = next; building = b }) s
    go None e = absurd (cc)
    go (Some symbols) e =
        let same : put symbols ≡ s = cc in
        let at : next ≡ s.next = ap (λ (r : Reading). r.next) same in
        same_on (record { stack = Read number ∷ more; next = next; building = b }) s (ap (λ (r : Reading). r.building) same) (omega arith)
step_keeps rules text (Build mark ∷ more) next b s e =
    let same : record { stack = more; next = next; building = marked text next mark b } ≡ s = cc in
    let keeps = marked_keeps text next mark b in
    let P : Reading → Type 0 = λ r. KeepsOn (record { stack = Build mark ∷ more; next = next; building = b }) r in
    subst P same (record { stays = keeps.stays; within = keeps.within })

pub leads_keeps : (rules : List PlainRule) (text : List ℕ) (r s : Reading) → Leads rules text r s → KeepsOn r s
leads_keeps rules text r s (here q) = same_on q q refl (omega arith)
leads_keeps rules text r s (on q m p first rest) =
    let one = step_keeps rules text q.stack q.next q.building m first in
    let more = leads_keeps rules text m p rest in
    record { stays = λ place e. more.stays place (one.stays place e); within = λ less. more.within (one.within less) }
