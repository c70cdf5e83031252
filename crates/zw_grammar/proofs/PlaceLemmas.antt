-- What is looked up is what is chosen.
use Rattle.std.proofs.Common.{◌≡◌, ℕ, zero, suc, ◌+◌, ◌-◌, ◌*◌, ◌<◌, ◌≤◌, min, Bool, true, false, cond, List, [], ◌∷◌, ◌++◌, length, map, drop, Option, Some, None, slice_get, get_or, append_assoc, refl, sym, ap, ◌∙◌, arith, length-append, inl, inr}
use Rattle.std.specs.Option.{option_map}
use Rattle.std.specs.Prelude.{option_and_then}
use Rattle.std.proofs.lemmas.Bool.{cases_lt}
use Rattle.std.proofs.lemmas.Option.{slice_get-map, slice_get-get_or}
use Rattle.std.proofs.Math.Seq.{drop-cons}
use Rattle.zw_grammar.specs.declared.grammar.Alternative.{Alternative}
use Rattle.zw_grammar.specs.declared.grammar.Rule.{Rule}
use Rattle.zw_grammar.specs.declared.grammar.Symbol.{Symbol}
use Rattle.zw_grammar.specs.Places.{place_from, places_below, all_places}
use Rattle.zw_grammar.specs.Plain.{PlainAlternative, PlainRule, plain, plain_rule, plain_alternative}
use Rattle.zw_grammar.specs.Reading.{is_first, first_choice, choice}

module _ {X : Type 0} where
  get_left : (xs ys : List X) (k : ℕ) → k < length xs → slice_get (xs ++ ys) k ≡ slice_get xs k
  get_left [] ys k less = absurd (omega arith)
  get_left (x ∷ xs) ys zero less = refl
  get_left (x ∷ xs) ys (suc k) less = get_left xs ys k (omega arith)

  get_right : (xs ys : List X) (k : ℕ) → slice_get (xs ++ ys) (length xs + k) ≡ slice_get ys k
  get_right [] ys k = let same : length {A = X} [] + k ≡ k = omega arith in ap (λ (j : ℕ). slice_get ys j) same
  get_right (x ∷ xs) ys k =
      let same : length (x ∷ xs) + k ≡ suc (length xs + k) = omega arith in
      ap (λ (j : ℕ). slice_get (x ∷ (xs ++ ys)) j) same ∙ get_right xs ys k

length-places : (n : ℕ) (alternatives : List PlainAlternative) → length (places_below n alternatives) ≡ n
length-places zero alternatives = refl
length-places (suc n) alternatives =
    omega (arith, length-append (places_below n alternatives) (place_from 0 alternatives n ∷ []), length-places n alternatives)

place_there : (n : ℕ) (alternatives : List PlainAlternative) (terminal : ℕ) → terminal < n → slice_get (places_below n alternatives) terminal ≡ Some (place_from 0 alternatives terminal)
place_there zero alternatives terminal less = absurd (omega arith)
place_there (suc n) alternatives terminal less =
    let front = places_below n alternatives in
    let long = length-places n alternatives in
    let new = place_from 0 alternatives n ∷ [] in
    elim (cases_lt terminal n) [
      | inl before ↦ get_left front new terminal (omega arith) ∙ place_there n alternatives terminal before
      | inr behind ↦
          let at : terminal ≡ length front + 0 = omega arith in
          let same : n ≡ terminal = omega arith in
          ap (λ (k : ℕ). slice_get (front ++ new) k) at
          ∙ (get_right front new 0 ∙ ap (λ (k : ℕ). Some (place_from 0 alternatives k)) same)
    ]

-- among the places of all rules
rule_place : (rules : List PlainRule) (number terminal : ℕ) (rule : PlainRule) → slice_get rules number ≡ Some rule → terminal < 128 →
    slice_get (all_places rules) (number * 128 + terminal) ≡ Some (place_from 0 rule.alternatives terminal)
rule_place [] number terminal rule there less = absurd (cc)
rule_place (r ∷ rs) zero terminal rule there less =
    let front = places_below 128 r.alternatives in
    let same : r ≡ rule = cc in
    let at : zero * 128 + terminal ≡ terminal = omega arith in
    let long = length-places 128 r.alternatives in
    ap (λ (k : ℕ). slice_get (front ++ all_places rs) k) at
    ∙ (get_left front (all_places rs) terminal (omega arith)
    ∙ (place_there 128 r.alternatives terminal less ∙ ap (λ (q : PlainRule). Some (place_from 0 q.alternatives terminal)) same))
rule_place (r ∷ rs) (suc number) terminal rule there less =
    let front = places_below 128 r.alternatives in
    let long = length-places 128 r.alternatives in
    let at : suc number * 128 + terminal ≡ length front + (number * 128 + terminal) = omega arith in
    ap (λ (k : ℕ). slice_get (front ++ all_places rs) k) at
    ∙ (get_right front (all_places rs) (number * 128 + terminal) ∙ rule_place rs number terminal rule there less)

abbrev symbols_at : List PlainAlternative → ℕ → Option (List Symbol)
symbols_at alternatives place = option_map (λ (a : PlainAlternative). a.symbols) (slice_get alternatives place)

-- what is told of a place behind others
abbrev IsChosenAt : ℕ → ℕ → List PlainAlternative → Option (List Symbol) → Type 0
IsChosenAt before place alternatives chosen = (before ≤ place) × (chosen ≡ symbols_at alternatives (place - before))

one_chosen : (a : PlainAlternative) (others : List PlainAlternative) (terminal before place : ℕ) → place < 255 →
    (place_from (min (before + 1) 255) others terminal ≡ place → IsChosenAt (min (before + 1) 255) place others (first_choice others terminal)) →
    (b : Bool) → cond b before (place_from (min (before + 1) 255) others terminal) ≡ place → IsChosenAt before place (a ∷ others) (cond b (Some a.symbols) (first_choice others terminal))
one_chosen a others terminal before place less later true f =
    let same : 0 ≡ place - before = omega (arith, f) in
    (omega (arith, f), ap (λ (k : ℕ). symbols_at (a ∷ others) k) same)
one_chosen a others terminal before place less later false f =
    let more = later f in
    let near : before + 1 ≤ place = omega (arith, more.0) in
    let same : suc (place - min (before + 1) 255) ≡ place - before = omega (arith, more.0) in
    (omega arith, more.1 ∙ ap (λ (k : ℕ). symbols_at (a ∷ others) k) same)

-- a place is that of the first choice
chosen_there : (alternatives : List PlainAlternative) (terminal before place : ℕ) → place_from before alternatives terminal ≡ place → place < 255 →
    IsChosenAt before place alternatives (first_choice alternatives terminal)
chosen_there [] terminal before place e less = (omega (arith, e), refl)
chosen_there (a ∷ others) terminal before place e less =
    one_chosen a others terminal before place less (λ f. chosen_there others terminal (min (before + 1) 255) place f less) (is_first a.first terminal) e

-- so what a rule reads is told by its place
pub choice_at : (rules : List PlainRule) (number terminal place : ℕ) (rule : PlainRule) → slice_get rules number ≡ Some rule → terminal < 128 →
    slice_get (all_places rules) (number * 128 + terminal) ≡ Some place → place < 255 →
    choice rules number terminal ≡ option_map (λ (a : PlainAlternative). a.symbols) (slice_get rule.alternatives place)
choice_at rules number terminal place rule there small told less =
    let is : Some (place_from 0 rule.alternatives terminal) ≡ Some place = sym (rule_place rules number terminal rule there small) ∙ told in
    let same : place_from 0 rule.alternatives terminal ≡ place = cc in
    let first = chosen_there rule.alternatives terminal 0 place same less in
    let zero_less : place - 0 ≡ place = omega arith in
    ap (λ (o : Option PlainRule). option_and_then (λ (r : PlainRule). first_choice r.alternatives terminal) o) there
    ∙ (first.1 ∙ ap (λ (k : ℕ). symbols_at rule.alternatives k) zero_less)

-- the alternative of a rule at a place
pub symbols_of : (alternatives : List Alternative) (place : ℕ) (o : Option Alternative) → slice_get alternatives place ≡ o →
    option_map (λ (a : PlainAlternative). a.symbols) (slice_get (map plain_alternative alternatives) place) ≡ option_map (λ (a : Alternative). a.symbols.items) o
symbols_of alternatives place o e =
    ap (λ (p : Option PlainAlternative). option_map (λ (a : PlainAlternative). a.symbols) p) (slice_get-map plain_alternative alternatives place)
    ∙ (ap (λ (q : Option Alternative). option_map (λ (a : PlainAlternative). a.symbols) (option_map plain_alternative q)) e ∙ both o)
  where
    both : (o : Option Alternative) → option_map (λ (a : PlainAlternative). a.symbols) (option_map plain_alternative o) ≡ option_map (λ (a : Alternative). a.symbols.items) o
    both None = refl
    both (Some a) = refl

pub choice_looked_up : (rules : List Rule) (places : List ℕ) (number terminal place : ℕ) (rule : Rule) (o : Option Alternative) → places ≡ all_places (plain rules) →
    slice_get rules number ≡ Some rule → terminal < 128 → slice_get places (number * 128 + terminal) ≡ Some place → place < 255 → slice_get rule.alternatives.items place ≡ o →
    choice (plain rules) number terminal ≡ option_map (λ (a : Alternative). a.symbols.items) o
choice_looked_up rules places number terminal place rule o is there small told less e =
    let plainly : slice_get (plain rules) number ≡ Some (plain_rule rule) =
    slice_get-map plain_rule rules number ∙ ap (λ (q : Option Rule). option_map plain_rule q) there in
    let stands : slice_get (all_places (plain rules)) (number * 128 + terminal) ≡ Some place = sym (ap (λ (l : List ℕ). slice_get l (number * 128 + terminal)) is) ∙ told in
    choice_at (plain rules) number terminal place (plain_rule rule) plainly small stands less ∙ symbols_of rule.alternatives.items place o e

-- an item that stands at a place
pub found : {X : Type 0} (xs : List X) (k : ℕ) (x : X) → k < length xs → x ≡ get_or xs k x → slice_get xs k ≡ Some x
found {X = X} xs k x less e = slice_get-get_or xs k x less ∙ ap (λ (y : X). Some y) (sym e)

-- one rule more
pub next_rule : (rules : List Rule) (i : ℕ) (d : Rule) (old new : List ℕ) → i < length rules → old ++ all_places (plain (drop i rules)) ≡ all_places (plain rules) →
    new ≡ old ++ places_below 128 (map plain_alternative (get_or rules i d).alternatives.items) → new ++ all_places (plain (drop (i + 1) rules)) ≡ all_places (plain rules)
next_rule rules i d old new less so_far pushed =
    let rule = get_or rules i d in
    let behind : drop i rules ≡ rule ∷ drop (suc i) rules = drop-cons rules i d less in
    let next : i + 1 ≡ suc i = omega arith in
    let front = places_below 128 (map plain_alternative rule.alternatives.items) in
    let rest = all_places (plain (drop (suc i) rules)) in
    ap (λ (k : ℕ). new ++ all_places (plain (drop k rules))) next
    ∙ (ap (λ (l : List ℕ). l ++ rest) pushed
    ∙ (append_assoc old front rest
    ∙ (sym (ap (λ (l : List Rule). old ++ all_places (plain l)) behind) ∙ so_far)))
