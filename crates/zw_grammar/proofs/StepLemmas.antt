-- A reading comes to the next terminal, or to its end.
use Rattle.std.proofs.Common.{rules, ◌≡◌, ℕ, zero, suc, ◌+◌, ◌<◌, ◌≤◌, Bool, true, false, cond, ◌&&◌, ◌||◌, not, IsTrue, List, [], ◌∷◌, ◌++◌, Option, Some, None, slice_get, refl, ap, ◌∙◌, subst, arith, nat_lt}
use Rattle.std.specs.List.{list_all}
use Rattle.std.proofs.lemmas.Grind.{common_steps}
use Rattle.zw_grammar.specs.Plain.{PlainAlternative, PlainRule}
use Rattle.zw_grammar.specs.declared.grammar.Symbol.{Symbol}
use Rattle.zw_grammar.specs.declared.grammar.Symbol.TheVariants.{Take, Read, Build}
use Rattle.zw_grammar.specs.Reading.{is_first, first_choice, choice}
use Rattle.zw_grammar.specs.Grammars.{steps_with, steps_of, rule_may_be_empty, may_be_empty, alternative_ends, all_end}

pub and-both : (a b : Bool) → (a && b) ≡ true → (a ≡ true) × (b ≡ true)
and-both true true e = (refl, refl)
and-both true false e = absurd (cc)
and-both false b e = absurd (cc)

is_true : (b : Bool) → IsTrue b → b ≡ true
is_true true t = refl
is_true false t = absurd (search rules)

pub truth : (b : Bool) → b ≡ true → IsTrue b
truth true e = search rules
truth false e = absurd (cc)

-- what is chosen is an alternative of the rule, and passes a test that all pass
pub record IsChosen (test : PlainAlternative → Bool) (symbols : List Symbol) : Type 0 where
  pub alternative : PlainAlternative
  pub passes : test alternative ≡ true
  pub reads : alternative.symbols ≡ symbols

choose_next : (b : Bool) (x y z : Option (List Symbol)) → cond b x y ≡ z → (b ≡ true → x ≡ z) × (b ≡ false → y ≡ z)
choose_next true x y z e = (λ _. e, λ f. absurd (cc))
choose_next false x y z e = (λ f. absurd (cc), λ _. e)

pub first_choice_passes : (test : PlainAlternative → Bool) (alternatives : List PlainAlternative) (terminal : ℕ) (symbols : List Symbol) →
    list_all test alternatives ≡ true → first_choice alternatives terminal ≡ Some symbols → IsChosen test symbols
first_choice_passes test [] terminal symbols all chosen = absurd (cc)
first_choice_passes test (a ∷ others) terminal symbols all chosen =
    let both = and-both (test a) (list_all test others) all in
    let pick = choose_next (is_first a.first terminal) (Some a.symbols) (first_choice others terminal) (Some symbols) chosen in
    let P : Bool → Type 0 = λ b. (b ≡ true → Some a.symbols ≡ Some symbols) × (b ≡ false → first_choice others terminal ≡ Some symbols) → IsChosen test symbols in
    let go : (b : Bool) → P b = λ b. elim b as P [
      | true ↦ λ p. let same : Some a.symbols ≡ Some symbols = p.0 refl in record { alternative = a; passes = both.0; reads = cc }
      | false ↦ λ p. first_choice_passes test others terminal symbols both.1 (p.1 refl)
    ] in
    go (is_first a.first terminal) pick

pub record IsRuleOf (test : PlainRule → Bool) (rules : List PlainRule) (number terminal : ℕ) (symbols : List Symbol) : Type 0 where
  pub rule : PlainRule
  pub passes : test rule ≡ true
  pub there : slice_get rules number ≡ Some rule
  pub chosen : first_choice rule.alternatives terminal ≡ Some symbols

pub rule_passes : (test : PlainRule → Bool) (rules : List PlainRule) (number terminal : ℕ) (symbols : List Symbol) →
    list_all test rules ≡ true → choice rules number terminal ≡ Some symbols → IsRuleOf test rules number terminal symbols
rule_passes test [] number terminal symbols all chosen = absurd (cc)
rule_passes test (r ∷ rs) zero terminal symbols all chosen =
    record { rule = r; passes = (and-both (test r) (list_all test rs) all).0; there = refl; chosen = chosen }
rule_passes test (r ∷ rs) (suc number) terminal symbols all chosen =
    let more = rule_passes test rs number terminal symbols (and-both (test r) (list_all test rs) all).1 chosen in
    record { rule = more.rule; passes = more.passes; there = more.there; chosen = more.chosen }

steps_with-add : (rule : Option PlainRule) (a s : ℕ) (e : Bool) →
    steps_with rule (a + cond e s 0) ≡ steps_with rule a + cond (rule_may_be_empty rule && e) s 0
steps_with-add None a s e = refl
steps_with-add (Some rule) a s e =
    let P : Bool → Type 0 = λ b. rule.steps + cond b (a + cond e s 0) 0 ≡ (rule.steps + cond b a 0) + cond (b && e) s 0 in
    let go : (b : Bool) → P b = λ b. elim b as P [ true ↦ omega arith | false ↦ omega arith ] in
    go rule.may_be_empty

pub steps_of-append : (rules : List PlainRule) (a s : List Symbol) → steps_of rules (a ++ s) ≡ steps_of rules a + cond (may_be_empty rules a) (steps_of rules s) 0
steps_of-append rules [] s = omega arith
steps_of-append rules (Take terminal ∷ a) s = refl
steps_of-append rules (Build mark ∷ a) s = let more = steps_of-append rules a s in omega arith
steps_of-append rules (Read number ∷ a) s =
    ap (λ n. steps_with (slice_get rules number) n) (steps_of-append rules a s)
    ∙ steps_with-add (slice_get rules number) (steps_of rules a) (steps_of rules s) (may_be_empty rules a)

implied : (a b : Bool) → (not a || b) ≡ true → (s : ℕ) → cond a s 0 ≤ cond b s 0
implied true true e s = omega arith
implied true false e s = absurd (cc)
implied false b e s = omega arith

pub below : (m n : ℕ) → nat_lt m n ≡ true → m < n
below m n e = grind (arith, common_steps)

-- an alternative takes fewer steps than the rule
pub steps_fall : (rules : List PlainRule) (number terminal : ℕ) (symbols others : List Symbol) →
    IsTrue (all_end rules rules) → choice rules number terminal ≡ Some symbols →
    steps_of rules (symbols ++ others) < steps_of rules (Read number ∷ others)
steps_fall rules number terminal symbols others ends chosen =
    let test : PlainRule → Bool = λ rule. list_all (alternative_ends rules rule) rule.alternatives in
    let of_rule = rule_passes test rules number terminal symbols (is_true (all_end rules rules) ends) chosen in
    let rule = of_rule.rule in
    let one = first_choice_passes (alternative_ends rules rule) rule.alternatives terminal symbols of_rule.passes of_rule.chosen in
    let some = one.alternative.symbols in
    let both = and-both (nat_lt (steps_of rules some) rule.steps) (not (may_be_empty rules some) || rule.may_be_empty) one.passes in
    let fewer : steps_of rules some < rule.steps = below (steps_of rules some) rule.steps both.0 in
    let empties : cond (may_be_empty rules some) (steps_of rules others) 0 ≤ cond rule.may_be_empty (steps_of rules others) 0 =
    implied (may_be_empty rules some) rule.may_be_empty both.1 (steps_of rules others) in
    let added : steps_of rules (some ++ others) ≡ steps_of rules some + cond (may_be_empty rules some) (steps_of rules others) 0 =
    steps_of-append rules some others in
    let counted : steps_of rules (Read number ∷ others) ≡ rule.steps + cond rule.may_be_empty (steps_of rules others) 0 =
    ap (λ (r : Option PlainRule). steps_with r (steps_of rules others)) of_rule.there in
    let P : List Symbol → Type 0 = λ more. steps_of rules (more ++ others) < steps_of rules (Read number ∷ others) in
    let all : steps_of rules (some ++ others) < steps_of rules (Read number ∷ others) = omega arith in
    subst P one.reads all
