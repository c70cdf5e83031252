-- A text that goes on with one variant of a token goes on with each, and with one before what fits it.
use Rattle.std.proofs.Common.{◌≡◌, ℕ, zero, suc, ◌+◌, ◌≤◌, Bool, true, false, cond, ◌&&◌, ◌||◌, not, ◌==◌, IsTrue, List, [], ◌∷◌, ◌++◌, Option, Some, None, slice_get, refl, sym, ap, ◌∙◌, subst, arith, ◌⊎◌, inl, inr}
use Rattle.std.specs.List.{list_all}
use Rattle.std.specs.Prelude.{option_and_then}
use Rattle.std.proofs.lemmas.Bool.{eqb-true}
use Rattle.zw_grammar.specs.Plain.{PlainAlternative, PlainRule}
use Rattle.zw_grammar.specs.declared.grammar.Symbol.{Symbol}
use Rattle.zw_grammar.specs.declared.grammar.Symbol.TheVariants.{Take, Read, Build}
use Rattle.zw_grammar.specs.Completions.{Completion, text_at, text_of, first_of, behind_at, fits, all_complete}
use Rattle.zw_grammar.specs.Grammars.{steps_of, all_end}
use Rattle.zw_grammar.specs.Reading.{is_first, choice, first_choice}
use Rattle.zw_grammar.proofs.CompletionLemmas.{text_of-append, first_of-append, holds_of, choice_fits}
use Rattle.zw_grammar.proofs.StepLemmas.{and-both, first_choice_passes, steps_fall}
use Rattle.zw_grammar.proofs.TakeLemmas.{Takes, takes_fits, Finishes, finishes_or_takes, some_list}
use Rattle.zw_grammar.proofs.TakeLemmas.Finishes.{finished, passed, by_choice}
use Rattle.zw_grammar.proofs.TakeLemmas.Takes.{taken, built, chosen}
use Rattle.zw_grammar.proofs.Variants.{Variants, is_in, accepts, all_accept, is_kept, opens, may_precede, is_spelled, is_one, takes_only, takes_now, of_choice, of_choice_if, place_of, is_like_plain, is_alike, is_alone, accepts_by, of_rule, rules_accept, rule_varies, all_vary, rule_is_spelled, all_spelled, Vary}

-- a terminal is taken, whatever is left
pub record TakesSome (rules : List PlainRule) (terminal : ℕ) (stack : List Symbol) : Type 0 where
  pub left : List Symbol
  pub takes : Takes rules terminal stack left

and : (a b : Bool) → a ≡ true → b ≡ true → (a && b) ≡ true
and true true e f = refl
and true false e f = f
and false b e f = e

pub either : {X : Type 0} (a b : Bool) → (a || b) ≡ true → (a ≡ true → X) → (b ≡ true → X) → X
either true b e f g = f refl
either false b e f g = g e

or-left : (a b : Bool) → a ≡ true → (a || b) ≡ true
or-left true b e = refl
or-left false b e = absurd (cc)

or-right : (a b : Bool) → b ≡ true → (a || b) ≡ true
or-right true b e = refl
or-right false b e = e

not-both : (a : Bool) → not a ≡ true → a ≡ true → ⊥
not-both true e f = absurd (cc)
not-both false e f = absurd (cc)

-- a test that one need not pass where the first doesn't hold
implies : (a b : Bool) → (not a || b) ≡ true → a ≡ true → b ≡ true
implies true b e f = e
implies false b e f = absurd (cc)

implied : (a b : Bool) → (a ≡ true → b ≡ true) → (not a || b) ≡ true
implied true b f = f refl
implied false b f = refl

-- these symbols take the variant with what follows them
accepts-append : (v : Variants) (k : ℕ) (a s : List Symbol) (w : Bool) → accepts v k a w ≡ true → (w ≡ true → accepts v k s false ≡ true) →
    accepts v k (a ++ s) false ≡ true
accepts-append v k [] s w e f = f e
accepts-append v k (Take terminal ∷ a) s w e f = e
accepts-append v k (Build mark ∷ a) s w e f = accepts-append v k a s w e f
accepts-append v k (Read number ∷ a) s w e f =
    let t = is_in number v.takes in
    let p = is_in number v.passes in
    either t (p && accepts v k a w) e
    (λ g. or-left t (p && accepts v k (a ++ s) false) g)
    (λ g. let both = and-both p (accepts v k a w) g in or-right t (p && accepts v k (a ++ s) false) (and p (accepts v k (a ++ s) false) both.0 (accepts-append v k a s w both.1 f)))

all_accept-append : (v : Variants) (ks : List ℕ) (a s : List Symbol) (w : Bool) → list_all (λ k. accepts v k a w) ks ≡ true →
    (w ≡ true → list_all (λ k. accepts v k s false) ks ≡ true) → list_all (λ k. accepts v k (a ++ s) false) ks ≡ true
all_accept-append v [] a s w e f = refl
all_accept-append v (k ∷ ks) a s w e f =
    let both = and-both (accepts v k a w) (list_all (λ j. accepts v j a w) ks) e in
    and (accepts v k (a ++ s) false) (list_all (λ j. accepts v j (a ++ s) false) ks)
    (accepts-append v k a s w both.0 (λ g. (and-both (accepts v k s false) (list_all (λ j. accepts v j s false) ks) (f g)).0))
    (all_accept-append v ks a s w both.1 (λ g. (and-both (accepts v k s false) (list_all (λ j. accepts v j s false) ks) (f g)).1))

kept-append : (v : Variants) (a s : List Symbol) (w : Bool) → is_kept v a w ≡ true → (w ≡ true → all_accept v s false ≡ true) → is_kept v s false ≡ true →
    is_kept v (a ++ s) false ≡ true
kept-append v [] s w e f g = g
kept-append v (Take terminal ∷ a) s w e f g =
    let both = and-both (not (is_in terminal v.of_token)) (is_kept v a w) e in
    and (not (is_in terminal v.of_token)) (is_kept v (a ++ s) false) both.0 (kept-append v a s w both.1 f g)
kept-append v (Build mark ∷ a) s w e f g = kept-append v a s w e f g
kept-append v (Read number ∷ a) s w e f g =
    let x = is_in number v.wants in
    let both = and-both (not x || all_accept v a w) (is_kept v a w) e in
    and (not x || all_accept v (a ++ s) false) (is_kept v (a ++ s) false)
    (implied x (all_accept v (a ++ s) false) (λ h. all_accept-append v v.of_token a s w (implies x (all_accept v a w) both.0 h) f))
    (kept-append v a s w both.1 f g)

kept_opens : (v : Variants) (s : List Symbol) (w : Bool) → is_kept v s w ≡ true → opens v s w ≡ true
kept_opens v [] w e = refl
kept_opens v (Take terminal ∷ s) w e = (and-both (not (is_in terminal v.of_token)) (is_kept v s w) e).1
kept_opens v (Build mark ∷ s) w e = kept_opens v s w e
kept_opens v (Read number ∷ s) w e = e

opens-append : (v : Variants) (a s : List Symbol) (w : Bool) → opens v a w ≡ true → (w ≡ true → all_accept v s false ≡ true) → is_kept v s false ≡ true →
    opens v (a ++ s) false ≡ true
opens-append v [] s w e f g = kept_opens v s false g
opens-append v (Take terminal ∷ a) s w e f g = kept-append v a s w e f g
opens-append v (Build mark ∷ a) s w e f g = opens-append v a s w e f g
opens-append v (Read number ∷ a) s w e f g = kept-append v (Read number ∷ a) s w e f g

-- what the test says of one rule
pub record Varies (v : Variants) (number : ℕ) (rule : PlainRule) : Type 0 where
  pub opening : list_all (λ alternative. opens v alternative.symbols (is_in number v.wants)) rule.alternatives ≡ true
  pub alone : is_in number v.alone ≡ true → is_alone v rule ≡ true
  pub alike : is_in number v.alone ≡ false → is_alike v number rule ≡ true

if_true : (a b c : Bool) → cond a b c ≡ true → a ≡ true → b ≡ true
if_true true b c e f = e
if_true false b c e f = absurd (cc)

if_false : (a b c : Bool) → cond a b c ≡ true → a ≡ false → c ≡ true
if_false true b c e f = absurd (cc)
if_false false b c e f = e

varies : (v : Variants) (number : ℕ) (rule : PlainRule) → rule_varies v number rule ≡ true → Varies v number rule
varies v number rule e =
    let o = list_all (λ (alternative : PlainAlternative). opens v alternative.symbols (is_in number v.wants)) rule.alternatives in
    let x = is_in number v.alone in
    let both = and-both o (cond x (is_alone v rule) (is_alike v number rule)) e in
    record {
      opening = both.0;
      alone = if_true x (is_alone v rule) (is_alike v number rule) both.1;
      alike = if_false x (is_alone v rule) (is_alike v number rule) both.1;
    }

vary_at : (v : Variants) (first : ℕ) (rules : List PlainRule) (number at : ℕ) (rule : PlainRule) → all_vary v first rules ≡ true → slice_get rules number ≡ Some rule →
    at ≡ first + number → Varies v at rule
vary_at v first [] number at rule e there same = absurd (cc)
vary_at v first (r ∷ rs) zero at rule e there same =
    let is : r ≡ rule = cc in
    let number_is : first ≡ at = omega arith in
    let one = varies v first r (and-both (rule_varies v first r) (all_vary v (suc first) rs) e).0 in
    subst (λ (k : ℕ). Varies v k rule) number_is (subst (λ (q : PlainRule). Varies v first q) is one)
vary_at v first (r ∷ rs) (suc number) at rule e there same =
    vary_at v (suc first) rs number at rule (and-both (rule_varies v first r) (all_vary v (suc first) rs) e).1 there (omega arith)

-- what is chosen is of a rule that passes the test
record ChosenOf (v : Variants) (rules : List PlainRule) (number terminal : ℕ) (symbols : List Symbol) : Type 0 where
  pub rule : PlainRule
  pub there : slice_get rules number ≡ Some rule
  pub of_rule : first_choice rule.alternatives terminal ≡ Some symbols
  pub varies : Varies v number rule

chosen_of : (v : Variants) (rules : List PlainRule) (number terminal : ℕ) (symbols : List Symbol) → all_vary v 0 rules ≡ true → choice rules number terminal ≡ Some symbols →
    ChosenOf v rules number terminal symbols
chosen_of v rules number terminal symbols all e = go (slice_get rules number) refl e
  where
    go : (o : Option PlainRule) → slice_get rules number ≡ o → option_and_then (λ rule. first_choice rule.alternatives terminal) o ≡ Some symbols → ChosenOf v rules number terminal symbols
    go None f e = absurd (cc)
    go (Some rule) f e = record { rule = rule; there = f; of_rule = e; varies = vary_at v 0 rules number number rule all f (omega arith) }

choice_is : (rules : List PlainRule) (number terminal : ℕ) (rule : PlainRule) (symbols : List Symbol) → slice_get rules number ≡ Some rule →
    first_choice rule.alternatives terminal ≡ Some symbols → choice rules number terminal ≡ Some symbols
choice_is rules number terminal rule symbols there e =
    ap (λ (o : Option PlainRule). option_and_then (λ (r : PlainRule). first_choice r.alternatives terminal) o) there ∙ e

-- the same alternative is chosen
same_place : (alternatives : List PlainAlternative) (k j : ℕ) → place_of alternatives k ≡ place_of alternatives j → first_choice alternatives k ≡ first_choice alternatives j
same_place [] k j e = refl
same_place (a ∷ others) k j e = go (is_first a.first k) (is_first a.first j) e (λ f. same_place others k j f)
  where
    go : (x y : Bool) → cond x 0 (suc (place_of others k)) ≡ cond y 0 (suc (place_of others j)) →
        (place_of others k ≡ place_of others j → first_choice others k ≡ first_choice others j) →
        cond x (Some a.symbols) (first_choice others k) ≡ cond y (Some a.symbols) (first_choice others j)
    go true true e more = refl
    go true false e more = absurd (omega arith)
    go false true e more = absurd (omega arith)
    go false false e more = more (omega arith)

-- what is chosen, where a test holds of it
record Chosen (test : List Symbol → Bool) (o : Option (List Symbol)) : Type 0 where
  pub symbols : List Symbol
  pub is : o ≡ Some symbols
  pub holds : test symbols ≡ true

was_chosen : (test : List Symbol → Bool) (o : Option (List Symbol)) → of_choice test o ≡ true → Chosen test o
was_chosen test None e = absurd (cc)
was_chosen test (Some symbols) e = record { symbols = symbols; is = refl; holds = e }

-- symbols that begin with a terminal take it
begins_with : (v : Variants) (rules : List PlainRule) (k : ℕ) (a s : List Symbol) → takes_now k a ≡ true → TakesSome rules k (a ++ s)
begins_with v rules k [] s e = absurd (cc)
begins_with v rules k (Take terminal ∷ a) s e =
    let same : k ≡ terminal = sym (eqb-true terminal k e) in
    record { left = a ++ s; takes = subst (λ (t : ℕ). Takes rules k (Take t ∷ (a ++ s)) (a ++ s)) same (taken (a ++ s)) }
begins_with v rules k (Build mark ∷ a) s e =
    let more = begins_with v rules k a s e in
    record { left = more.left; takes = built mark (a ++ s) more.left more.takes }
begins_with v rules k (Read number ∷ a) s e = absurd (cc)

-- a rule reads something that takes the variant with what follows
record Accepts (v : Variants) (rules : List PlainRule) (number k : ℕ) (s : List Symbol) : Type 0 where
  pub symbols : List Symbol
  pub is : choice rules number k ≡ Some symbols
  pub accepting : accepts v k (symbols ++ s) false ≡ true

accepts_at : (v : Variants) (rules : List PlainRule) (number k : ℕ) (s : List Symbol) (behind : Bool) (numbers : List ℕ) → rules_accept v rules behind numbers ≡ true →
    is_in number numbers ≡ true → is_in k v.of_token ≡ true → (behind ≡ true → accepts v k s false ≡ true) → Accepts v rules number k s
accepts_at v rules number k s behind numbers all there kind f =
    go (slice_get rules number) refl (holds_of (λ n. of_rule (λ rule. accepts_by v rule behind) (slice_get rules n)) numbers number all there)
  where
    go : (o : Option PlainRule) → slice_get rules number ≡ o → of_rule (λ rule. accepts_by v rule behind) o ≡ true → Accepts v rules number k s
    go None g e = absurd (cc)
    go (Some rule) g e =
        let test : ℕ → Bool = λ j. of_choice (λ symbols. accepts v j symbols behind) (first_choice rule.alternatives j) in
        let c = was_chosen (λ symbols. accepts v k symbols behind) (first_choice rule.alternatives k) (holds_of test v.of_token k e kind) in
        record {
          symbols = c.symbols;
          is = choice_is rules number k rule c.symbols g c.is;
          accepting = accepts-append v k c.symbols s behind c.holds f;
        }

no_fact : {X : Type 0} → false ≡ true → X
no_fact e = absurd (cc)

accepts_read : (v : Variants) (rules : List PlainRule) (cs : List Completion) (number k : ℕ) (s : List Symbol) → Vary rules cs v → is_in k v.of_token ≡ true →
    accepts v k (Read number ∷ s) false ≡ true → Accepts v rules number k s
accepts_read v rules cs number k s vary kind e =
    let p = is_in number v.passes in
    either (is_in number v.takes) (p && accepts v k s false) e
    (λ g. accepts_at v rules number k s false v.takes vary.taking g kind (λ h. no_fact h))
    (λ g. let both = and-both p (accepts v k s false) g in accepts_at v rules number k s true v.passes vary.passing both.0 kind (λ h. both.1))

-- what accepts a variant takes it
accepted : (fuel : ℕ) (v : Variants) (rules : List PlainRule) (cs : List Completion) (k : ℕ) (s : List Symbol) → IsTrue (all_end rules rules) → Vary rules cs v → is_in k v.of_token ≡ true →
    accepts v k s false ≡ true → steps_of rules s ≤ fuel → TakesSome rules k s
accepted fuel v rules cs k [] ends vary kind e bound = absurd (cc)
accepted fuel v rules cs k (Take terminal ∷ s) ends vary kind e bound = begins_with v rules k (Take terminal ∷ []) s e
accepted zero v rules cs k (Build mark ∷ s) ends vary kind e bound = absurd (omega arith)
accepted (suc fuel) v rules cs k (Build mark ∷ s) ends vary kind e bound =
    let more = accepted fuel v rules cs k s ends vary kind e (omega arith) in
    record { left = more.left; takes = built mark s more.left more.takes }
accepted zero v rules cs k (Read number ∷ s) ends vary kind e bound =
    let a = accepts_read v rules cs number k s vary kind e in
    let fewer = steps_fall rules number k a.symbols s ends a.is in
    absurd (omega arith)
accepted (suc fuel) v rules cs k (Read number ∷ s) ends vary kind e bound =
    let a = accepts_read v rules cs number k s vary kind e in
    let fewer = steps_fall rules number k a.symbols s ends a.is in
    let more = accepted fuel v rules cs k (a.symbols ++ s) ends vary kind a.accepting (omega arith) in
    record { left = more.left; takes = chosen number a.symbols s more.left a.is more.takes }

-- the variant is taken by the rule, where what it reads takes it
some_chosen : (rules : List PlainRule) (number k : ℕ) (rule : PlainRule) (symbols rest : List Symbol) → slice_get rules number ≡ Some rule →
    first_choice rule.alternatives k ≡ Some symbols → TakesSome rules k (symbols ++ rest) → TakesSome rules k (Read number ∷ rest)
some_chosen rules number k rule symbols rest there e more =
    record { left = more.left; takes = chosen number symbols rest more.left (choice_is rules number k rule symbols there e) more.takes }

only_now : (k : ℕ) (s : List Symbol) → takes_only k s ≡ true → takes_now k s ≡ true
only_now k [] e = e
only_now k (Take terminal ∷ []) e = e
only_now k (Take terminal ∷ other ∷ rest) e = absurd (cc)
only_now k (Build mark ∷ rest) e = absurd (cc)
only_now k (Read number ∷ rest) e = e

only_takes : (rules : List PlainRule) (k : ℕ) (s rest : List Symbol) → takes_only k s ≡ true → Takes rules k (s ++ rest) rest
only_takes rules k [] rest e = absurd (cc)
only_takes rules k (Take terminal ∷ []) rest e =
    subst (λ (t : ℕ). Takes rules k (Take t ∷ rest) rest) (sym (eqb-true terminal k e)) (taken rest)
only_takes rules k (Take terminal ∷ other ∷ s) rest e = absurd (cc)
only_takes rules k (Build mark ∷ s) rest e = absurd (cc)
only_takes rules k (Read number ∷ s) rest e = absurd (cc)

kept_if : (v : Variants) (w : Bool) (o : Option (List Symbol)) (symbols : List Symbol) → of_choice_if (λ some. is_kept v some w) o ≡ true → o ≡ Some symbols → is_kept v symbols w ≡ true
kept_if v w None symbols e f = absurd (cc)
kept_if v w (Some some) symbols e f = let same : some ≡ symbols = cc in subst (λ (s : List Symbol). is_kept v s w ≡ true) same e

-- the rule takes this variant at once, and wants what follows it to take each
abbrev is_own : Variants → ℕ → ℕ → PlainRule → Bool
is_own v number i rule = (is_in number v.wants && is_in number v.passes) && of_choice (takes_now i) (first_choice rule.alternatives i)

-- a rule that reads each variant in its own way, or one like the plain one
record Alike (v : Variants) (number : ℕ) (rule : PlainRule) : Type 0 where
  pub plain : of_choice_if (λ some. is_kept v some (is_in number v.wants)) (first_choice rule.alternatives v.plain) ≡ true
  pub like : (i : ℕ) → is_in i v.of_token ≡ true → (first_choice rule.alternatives i ≡ first_choice rule.alternatives v.plain) ⊎ (is_own v number i rule ≡ true)

alike : (v : Variants) (number : ℕ) (rule : PlainRule) → is_alike v number rule ≡ true → Alike v number rule
alike v number rule e =
    let w = is_in number v.wants in
    let plain = place_of rule.alternatives v.plain in
    let both = and-both (of_choice_if (λ some. is_kept v some w) (first_choice rule.alternatives v.plain)) (list_all (is_like_plain v number rule) v.of_token) e in
    record {
      plain = both.0;
      like = λ i there.
          either (place_of rule.alternatives i == plain) (is_own v number i rule) (holds_of (is_like_plain v number rule) v.of_token i both.1 there)
          (λ g. inl (same_place rule.alternatives i v.plain (eqb-true (place_of rule.alternatives i) plain g)))
          (λ g. inr g);
    }

-- a rule that takes each variant alone
record Alone (v : Variants) (rule : PlainRule) : Type 0 where
  pub ones : list_all (λ alternative. is_one alternative.symbols) rule.alternatives ≡ true
  pub each : (i : ℕ) → is_in i v.of_token ≡ true → Chosen (takes_only i) (first_choice rule.alternatives i)

alone : (v : Variants) (rule : PlainRule) → is_alone v rule ≡ true → Alone v rule
alone v rule e =
    let test : ℕ → Bool = λ i. of_choice (takes_only i) (first_choice rule.alternatives i) in
    let both = and-both (list_all (λ alternative. is_one alternative.symbols) rule.alternatives) (list_all test v.of_token) e in
    record { ones = both.0; each = λ i there. was_chosen (takes_only i) (first_choice rule.alternatives i) (holds_of test v.of_token i both.1 there) }

own_now : (v : Variants) (number i : ℕ) (rule : PlainRule) → is_own v number i rule ≡ true → Chosen (takes_now i) (first_choice rule.alternatives i)
own_now v number i rule e =
    was_chosen (takes_now i) (first_choice rule.alternatives i) (and-both (is_in number v.wants && is_in number v.passes) (of_choice (takes_now i) (first_choice rule.alternatives i)) e).1

-- where one variant is read by a rule, each other is, if it is by what the rule reads
reads_other : (v : Variants) (rules : List PlainRule) (cs : List Completion) (number k j : ℕ) (symbols rest : List Symbol) → IsTrue (all_end rules rules) → Vary rules cs v →
    is_in k v.of_token ≡ true → is_in j v.of_token ≡ true → choice rules number k ≡ Some symbols → is_kept v (Read number ∷ rest) false ≡ true →
    (is_kept v (symbols ++ rest) false ≡ true → TakesSome rules j (symbols ++ rest)) → TakesSome rules j (Read number ∷ rest)
reads_other v rules cs number k j symbols rest ends vary kind other e keep more = go (is_in number v.alone) refl
  where
    c : ChosenOf v rules number k symbols
    c = chosen_of v rules number k symbols vary.all e

    kept : ((not (is_in number v.wants) || all_accept v rest false) ≡ true) × (is_kept v rest false ≡ true)
    kept = and-both (not (is_in number v.wants) || all_accept v rest false) (is_kept v rest false) keep

    follows : is_in number v.wants ≡ true → all_accept v rest false ≡ true
    follows = implies (is_in number v.wants) (all_accept v rest false) kept.0

    -- both are read like the plain one
    as_plain : Alike v number c.rule → first_choice c.rule.alternatives j ≡ first_choice c.rule.alternatives v.plain →
        first_choice c.rule.alternatives k ≡ first_choice c.rule.alternatives v.plain → TakesSome rules j (Read number ∷ rest)
    as_plain a as_j as_k =
        let is_plain : first_choice c.rule.alternatives v.plain ≡ Some symbols = sym as_k ∙ c.of_rule in
        let keeps = kept_if v (is_in number v.wants) (first_choice c.rule.alternatives v.plain) symbols a.plain is_plain in
        some_chosen rules number j c.rule symbols rest c.there (as_j ∙ is_plain) (more (kept-append v symbols rest (is_in number v.wants) keeps follows kept.1))

    -- the one is taken at once, the other by what follows
    as_rest : is_own v number k c.rule ≡ true → TakesSome rules j (Read number ∷ rest)
    as_rest h =
        let p = is_in number v.passes in
        let both = and-both (is_in number v.wants) p (and-both (is_in number v.wants && p) (of_choice (takes_now k) (first_choice c.rule.alternatives k)) h).0 in
        let rest_takes = holds_of (λ i. accepts v i rest false) v.of_token j (follows both.0) other in
        accepted (steps_of rules (Read number ∷ rest)) v rules cs j (Read number ∷ rest) ends vary other
        (or-right (is_in number v.takes) (p && accepts v j rest false) (and p (accepts v j rest false) both.1 rest_takes)) (omega arith)

    go : (x : Bool) → is_in number v.alone ≡ x → TakesSome rules j (Read number ∷ rest)
    go true f =
        let at_j = (alone v c.rule (c.varies.alone f)).each j other in
        some_chosen rules number j c.rule at_j.symbols rest c.there at_j.is (begins_with v rules j at_j.symbols rest (only_now j at_j.symbols at_j.holds))
    go false f =
        let a = alike v number c.rule (c.varies.alike f) in
        elim (a.like j other) [
          | inl g ↦ elim (a.like k kind) [ inl h ↦ as_plain a g h | inr h ↦ as_rest h ]
          | inr g ↦
              let at_j = own_now v number j c.rule g in
              some_chosen rules number j c.rule at_j.symbols rest c.there at_j.is (begins_with v rules j at_j.symbols rest at_j.holds)
        ]

-- where one variant is taken, each other is
pub other_variant : (v : Variants) (rules : List PlainRule) (cs : List Completion) (k j : ℕ) (stack left : List Symbol) → IsTrue (all_end rules rules) → Vary rules cs v →
    is_in k v.of_token ≡ true → is_in j v.of_token ≡ true → Takes rules k stack left → is_kept v stack false ≡ true → TakesSome rules j stack
other_variant v rules cs k j stack left ends vary kind other (taken rest) keep =
    absurd (not-both (is_in k v.of_token) (and-both (not (is_in k v.of_token)) (is_kept v rest false) keep).0 kind)
other_variant v rules cs k j stack left ends vary kind other (built mark rest last p) keep =
    let more = other_variant v rules cs k j rest last ends vary kind other p keep in
    record { left = more.left; takes = built mark rest more.left more.takes }
other_variant v rules cs k j stack left ends vary kind other (chosen number symbols rest last e p) keep =
    reads_other v rules cs number k j symbols rest ends vary kind other e keep
    (λ more. other_variant v rules cs k j (symbols ++ rest) last ends vary kind other p more)

-- what takes a terminal keeps the test of its stack
takes_kept : (v : Variants) (rules : List PlainRule) (cs : List Completion) (terminal : ℕ) (stack left : List Symbol) → Vary rules cs v →
    Takes rules terminal stack left → opens v stack false ≡ true → is_kept v left false ≡ true
takes_kept v rules cs t stack left vary (taken rest) e = e
takes_kept v rules cs t stack left vary (built mark rest last p) e = takes_kept v rules cs t rest last vary p e
takes_kept v rules cs t stack left vary (chosen number symbols rest last e p) o =
    let c = chosen_of v rules number t symbols vary.all e in
    let w = is_in number v.wants in
    let kept = and-both (not w || all_accept v rest false) (is_kept v rest false) o in
    let one = first_choice_passes (λ alternative. opens v alternative.symbols w) c.rule.alternatives t symbols c.varies.opening c.of_rule in
    let opening = subst (λ (s : List Symbol). opens v s w ≡ true) one.reads one.passes in
    takes_kept v rules cs t (symbols ++ rest) last vary p (opens-append v symbols rest w opening (implies w (all_accept v rest false) kept.0) kept.1)

-- texts that can be tokens
spelled-append : (v : Variants) (a b : List ℕ) (end : ℕ) → is_spelled v a (first_of b end) ≡ true → is_spelled v b end ≡ true → is_spelled v (a ++ b) end ≡ true
spelled-append v [] b end e f = f
spelled-append v (x ∷ a) b end e f =
    let both = and-both (may_precede v x (first_of a (first_of b end))) (is_spelled v a (first_of b end)) e in
    and (may_precede v x (first_of (a ++ b) end)) (is_spelled v (a ++ b) end)
    (ap (λ (n : ℕ). may_precede v x n) (first_of-append a b end) ∙ both.0) (spelled-append v a b end both.1 f)

spelled-rest : (v : Variants) (a b : List ℕ) (end : ℕ) → is_spelled v (a ++ b) end ≡ true → is_spelled v b end ≡ true
spelled-rest v [] b end e = e
spelled-rest v (x ∷ a) b end e = spelled-rest v a b end (and-both (may_precede v x (first_of (a ++ b) end)) (is_spelled v (a ++ b) end) e).1

spelled_at : (v : Variants) (cs : List Completion) (first : ℕ) (rules : List PlainRule) (some : List Completion) (number at : ℕ) (rule : PlainRule) (c : Completion) →
    all_spelled v cs first rules some ≡ true → slice_get rules number ≡ Some rule → slice_get some number ≡ Some c → at ≡ first + number → rule_is_spelled v cs at rule c ≡ true
spelled_at v cs first [] some number at rule c all there known same = absurd (cc)
spelled_at v cs first (r ∷ rs) [] number at rule c all there known same = absurd (cc)
spelled_at v cs first (r ∷ rs) (d ∷ ds) zero at rule c all there known same =
    let number_is : first ≡ at = omega arith in
    let one = (and-both (rule_is_spelled v cs first r d) (all_spelled v cs (suc first) rs ds) all).0 in
    let rule_is : r ≡ rule = cc in
    let completion_is : d ≡ c = cc in
    subst (λ (k : ℕ). rule_is_spelled v cs k rule c ≡ true) number_is
    (subst (λ (q : PlainRule). rule_is_spelled v cs first q c ≡ true) rule_is (subst (λ (q : Completion). rule_is_spelled v cs first r q ≡ true) completion_is one))
spelled_at v cs first (r ∷ rs) (d ∷ ds) (suc number) at rule c all there known same =
    spelled_at v cs (suc first) rs ds number at rule c (and-both (rule_is_spelled v cs first r d) (all_spelled v cs (suc first) rs ds) all).1 there known (omega arith)

not-either : (a b : Bool) → (a || b) ≡ true → a ≡ false → b ≡ true
not-either true b e f = absurd (cc)
not-either false b e f = e

-- what a rule reads is completed by a text that can be tokens, where the rule is
choice_spelled : (v : Variants) (rules : List PlainRule) (cs : List Completion) (end number terminal : ℕ) (symbols others : List Symbol) → Vary rules cs v →
    choice rules number terminal ≡ Some symbols → is_in number v.alone ≡ false → fits cs end (Read number ∷ others) end ≡ true →
    is_spelled v (text_of cs (Read number ∷ others)) end ≡ true → is_spelled v (text_of cs (symbols ++ others)) end ≡ true
choice_spelled v rules cs end number terminal symbols others vary e not_alone fitting spelled =
    let h = first_of (text_of cs others) end in
    let may = (and-both (behind_at (slice_get cs number) h) (fits cs end others end) fitting).0 in
    let behind = spelled-rest v (text_at (slice_get cs number)) (text_of cs others) end spelled in
    let own = go (slice_get cs number) refl may in
    subst (λ (t : List ℕ). is_spelled v t end ≡ true) (sym (text_of-append cs symbols others)) (spelled-append v (text_of cs symbols) (text_of cs others) end own behind)
  where
    c : ChosenOf v rules number terminal symbols
    c = chosen_of v rules number terminal symbols vary.all e

    go : (o : Option Completion) → slice_get cs number ≡ o → behind_at o (first_of (text_of cs others) end) ≡ true → is_spelled v (text_of cs symbols) (first_of (text_of cs others) end) ≡ true
    go None known may = absurd (cc)
    go (Some completion) known may =
        let h = first_of (text_of cs others) end in
        let test : ℕ → Bool = λ behind. list_all (λ alternative. is_spelled v (text_of cs alternative.symbols) behind) c.rule.alternatives in
        let one = spelled_at v cs 0 rules cs number number c.rule completion vary.spelled c.there known (omega arith) in
        let all = holds_of test completion.behind h (not-either (is_in number v.alone) (list_all test completion.behind) one not_alone) may in
        let passed = first_choice_passes (λ alternative. is_spelled v (text_of cs alternative.symbols) h) c.rule.alternatives terminal symbols all c.of_rule in
        subst (λ (s : List Symbol). is_spelled v (text_of cs s) h ≡ true) passed.reads passed.passes

taken_left : (rules : List PlainRule) (terminal other : ℕ) (stack left rest : List Symbol) → Takes rules terminal stack left → stack ≡ Take other ∷ rest → left ≡ rest
taken_left rules t other stack left rest (taken more) e = cc
taken_left rules t other stack left rest (built mark more last p) e = absurd (cc)
taken_left rules t other stack left rest (chosen number symbols more last c p) e = absurd (cc)

one_left : (rules : List PlainRule) (terminal : ℕ) (symbols left rest : List Symbol) → is_one symbols ≡ true → Takes rules terminal (symbols ++ rest) left → left ≡ rest
one_left rules t [] left rest e p = absurd (cc)
one_left rules t (Take other ∷ []) left rest e p = taken_left rules t other (Take other ∷ rest) left rest p refl
one_left rules t (Take other ∷ second ∷ more) left rest e p = absurd (cc)
one_left rules t (Build mark ∷ more) left rest e p = absurd (cc)
one_left rules t (Read number ∷ more) left rest e p = absurd (cc)

takes_spelled : (v : Variants) (rules : List PlainRule) (cs : List Completion) (end terminal : ℕ) (stack left : List Symbol) → Vary rules cs v → all_complete cs end rules cs ≡ true →
    Takes rules terminal stack left → fits cs end stack end ≡ true → is_spelled v (text_of cs stack) end ≡ true → is_spelled v (text_of cs left) end ≡ true
takes_spelled v rules cs end t stack left vary all (taken rest) f s = (and-both (may_precede v t (first_of (text_of cs rest) end)) (is_spelled v (text_of cs rest) end) s).1
takes_spelled v rules cs end t stack left vary all (built mark rest last p) f s = takes_spelled v rules cs end t rest last vary all p f s
takes_spelled v rules cs end t stack left vary all (chosen number symbols rest last e p) f s =
    let c = chosen_of v rules number t symbols vary.all e in
    let P : Bool → Type 0 = λ x. is_in number v.alone ≡ x → is_spelled v (text_of cs last) end ≡ true in
    let go : (x : Bool) → P x = λ x. elim x as P [
      | true ↦ λ g.
          let ones = (alone v c.rule (c.varies.alone g)).ones in
          let one = first_choice_passes (λ alternative. is_one alternative.symbols) c.rule.alternatives t symbols ones c.of_rule in
          let same = one_left rules t symbols last rest (subst (λ (q : List Symbol). is_one q ≡ true) one.reads one.passes) p in
          subst (λ (q : List Symbol). is_spelled v (text_of cs q) end ≡ true) (sym same) (spelled-rest v (text_at (slice_get cs number)) (text_of cs rest) end s)
      | false ↦ λ g.
          takes_spelled v rules cs end t (symbols ++ rest) last vary all p (choice_fits cs end rules number t symbols rest all e f)
          (choice_spelled v rules cs end number t symbols rest vary e g f s)
    ] in
    go (is_in number v.alone) refl

-- a stack from which a text of tokens goes on
pub record IsSound (v : Variants) (cs : List Completion) (end : ℕ) (stack : List Symbol) : Type 0 where
  pub fitting : fits cs end stack end ≡ true
  pub spelled : is_spelled v (text_of cs stack) end ≡ true
  pub kept : is_kept v stack false ≡ true

pub takes_sound : (v : Variants) (rules : List PlainRule) (cs : List Completion) (end terminal : ℕ) (stack left : List Symbol) → Vary rules cs v → all_complete cs end rules cs ≡ true →
    Takes rules terminal stack left → IsSound v cs end stack → IsSound v cs end left
takes_sound v rules cs end t stack left vary all takes sound = record {
  fitting = takes_fits cs end rules t stack left all takes sound.fitting;
  spelled = takes_spelled v rules cs end t stack left vary all takes sound.fitting sound.spelled;
  kept = takes_kept v rules cs t stack left vary takes (kept_opens v stack false sound.kept);
}

-- a variant is taken that stands before what follows
pub record TakesFitting (v : Variants) (rules : List PlainRule) (cs : List Completion) (end : ℕ) (stack : List Symbol) : Type 0 where
  pub variant : ℕ
  pub one : is_in variant v.of_token ≡ true
  pub left : List Symbol
  pub takes : Takes rules variant stack left
  pub before : v.before (first_of (text_of cs left) end) ≡ variant

begins_fitting : (v : Variants) (rules : List PlainRule) (cs : List Completion) (end k : ℕ) (a s : List Symbol) → is_in k v.of_token ≡ true → takes_now k a ≡ true →
    is_spelled v (text_of cs (a ++ s)) end ≡ true → (left : List Symbol) × Takes rules k (a ++ s) left × (v.before (first_of (text_of cs left) end) ≡ k)
begins_fitting v rules cs end k [] s kind e f = absurd (cc)
begins_fitting v rules cs end k (Take terminal ∷ a) s kind e f =
    let same : k ≡ terminal = sym (eqb-true terminal k e) in
    let next = first_of (text_of cs (a ++ s)) end in
    let one : is_in terminal v.of_token ≡ true = subst (λ (x : ℕ). is_in x v.of_token ≡ true) same kind in
    let both = and-both (may_precede v terminal next) (is_spelled v (text_of cs (a ++ s)) end) f in
    let precedes = if_true (is_in terminal v.of_token) (v.before next == terminal) (v.single terminal) both.0 one in
    (a ++ s, subst (λ (t : ℕ). Takes rules k (Take t ∷ (a ++ s)) (a ++ s)) same (taken (a ++ s)), eqb-true (v.before next) terminal precedes ∙ sym same)
begins_fitting v rules cs end k (Build mark ∷ a) s kind e f =
    let more = begins_fitting v rules cs end k a s kind e f in
    (more.0, built mark (a ++ s) more.0 more.1, more.2)
begins_fitting v rules cs end k (Read number ∷ a) s kind e f = absurd (cc)

fitting_chosen : (v : Variants) (rules : List PlainRule) (cs : List Completion) (end number : ℕ) (rule : PlainRule) (symbols rest : List Symbol) → slice_get rules number ≡ Some rule →
    (m : TakesFitting v rules cs end (symbols ++ rest)) → first_choice rule.alternatives m.variant ≡ Some symbols → TakesFitting v rules cs end (Read number ∷ rest)
fitting_chosen v rules cs end number rule symbols rest there m e =
    record { variant = m.variant; one = m.one; left = m.left; takes = chosen number symbols rest m.left (choice_is rules number m.variant rule symbols there e) m.takes; before = m.before }

-- where the plain variant is taken, one is that stands before what follows
pub fitting_variant : (v : Variants) (rules : List PlainRule) (cs : List Completion) (end : ℕ) (stack left : List Symbol) → Vary rules cs v → all_complete cs end rules cs ≡ true →
    Takes rules v.plain stack left → IsSound v cs end stack → TakesFitting v rules cs end stack
fitting_variant v rules cs end stack left vary all (taken rest) sound =
    absurd (not-both (is_in v.plain v.of_token) (and-both (not (is_in v.plain v.of_token)) (is_kept v rest false) sound.kept).0 vary.plain_one)
fitting_variant v rules cs end stack left vary all (built mark rest last p) sound =
    let more = fitting_variant v rules cs end rest last vary all p (record { fitting = sound.fitting; spelled = sound.spelled; kept = sound.kept }) in
    record { variant = more.variant; one = more.one; left = more.left; takes = built mark rest more.left more.takes; before = more.before }
fitting_variant v rules cs end stack left vary all (chosen number symbols rest last e p) sound =
    let c = chosen_of v rules number v.plain symbols vary.all e in
    let w = is_in number v.wants in
    let kept = and-both (not w || all_accept v rest false) (is_kept v rest false) sound.kept in
    let P : Bool → Type 0 = λ x. is_in number v.alone ≡ x → TakesFitting v rules cs end (Read number ∷ rest) in
    let go : (x : Bool) → P x = λ x. elim x as P [
      | true ↦ λ g.
          let k = v.before (first_of (text_of cs rest) end) in
          let at_k = (alone v c.rule (c.varies.alone g)).each k (vary.one_before (first_of (text_of cs rest) end)) in
          record {
            variant = k;
            one = vary.one_before (first_of (text_of cs rest) end);
            left = rest;
            takes = chosen number at_k.symbols rest rest (choice_is rules number k c.rule at_k.symbols c.there at_k.is) (only_takes rules k at_k.symbols rest at_k.holds);
            before = refl;
          }
      | false ↦ λ g.
          let a = alike v number c.rule (c.varies.alike g) in
          let keeps = kept_if v w (first_choice c.rule.alternatives v.plain) symbols a.plain c.of_rule in
          let m = fitting_variant v rules cs end (symbols ++ rest) last vary all p (record {
            fitting = choice_fits cs end rules number v.plain symbols rest all e sound.fitting;
            spelled = choice_spelled v rules cs end number v.plain symbols rest vary e g sound.fitting sound.spelled;
            kept = kept-append v symbols rest w keeps (implies w (all_accept v rest false) kept.0) kept.1;
          }) in
          elim (a.like m.variant m.one) [
            | inl h ↦ fitting_chosen v rules cs end number c.rule symbols rest c.there m (h ∙ c.of_rule)
            | inr h ↦
                let k = m.variant in
                let now = own_now v number k c.rule h in
                let is : choice rules number k ≡ Some now.symbols = choice_is rules number k c.rule now.symbols c.there now.is in
                let b = begins_fitting v rules cs end k now.symbols rest m.one now.holds (choice_spelled v rules cs end number k now.symbols rest vary is g sound.fitting sound.spelled) in
                record { variant = k; one = m.one; left = b.0; takes = chosen number now.symbols rest b.0 is b.1; before = b.2 }
          ]
    ] in
    go (is_in number v.alone) refl

take_goes_on : (rules : List PlainRule) (terminal other : ℕ) (stack rest : List Symbol) → Finishes rules terminal stack → stack ≡ Take other ∷ rest → ⊥
take_goes_on rules t other stack rest finished e = absurd (cc)
take_goes_on rules t other stack rest (passed mark more p) e = absurd (cc)
take_goes_on rules t other stack rest (by_choice number symbols more c p) e = absurd (cc)

only_goes_on : (rules : List PlainRule) (k : ℕ) (s rest : List Symbol) → takes_only k s ≡ true → Finishes rules k (s ++ rest) → ⊥
only_goes_on rules k [] rest e p = absurd (cc)
only_goes_on rules k (Take terminal ∷ []) rest e p = take_goes_on rules k terminal (Take terminal ∷ rest) rest p refl
only_goes_on rules k (Take terminal ∷ other ∷ s) rest e p = absurd (cc)
only_goes_on rules k (Build mark ∷ s) rest e p = absurd (cc)
only_goes_on rules k (Read number ∷ s) rest e p = absurd (cc)

-- where one variant finishes a stack, each other does
pub finishing_variant : (v : Variants) (rules : List PlainRule) (cs : List Completion) (k j : ℕ) (stack : List Symbol) → IsTrue (all_end rules rules) → Vary rules cs v →
    is_in k v.of_token ≡ true → is_in j v.of_token ≡ true → Finishes rules k stack → is_kept v stack false ≡ true → Finishes rules j stack
finishing_variant v rules cs k j stack ends vary kind other finished keep = finished
finishing_variant v rules cs k j stack ends vary kind other (passed mark rest p) keep =
    passed mark rest (finishing_variant v rules cs k j rest ends vary kind other p keep)
finishing_variant v rules cs k j stack ends vary kind other (by_choice number symbols rest e p) keep =
    let c = chosen_of v rules number k symbols vary.all e in
    let w = is_in number v.wants in
    let kept = and-both (not w || all_accept v rest false) (is_kept v rest false) keep in
    let follows = implies w (all_accept v rest false) kept.0 in
    let P : Bool → Type 0 = λ x. is_in number v.alone ≡ x → Finishes rules j (Read number ∷ rest) in
    let go : (x : Bool) → P x = λ x. elim x as P [
      | true ↦ λ g.
          let at_k = (alone v c.rule (c.varies.alone g)).each k kind in
          let same : at_k.symbols ≡ symbols = some_list at_k.symbols symbols (first_choice c.rule.alternatives k) at_k.is c.of_rule in
          absurd (only_goes_on rules k symbols rest (subst (λ (s : List Symbol). takes_only k s ≡ true) same at_k.holds) p)
      | false ↦ λ g.
          let a = alike v number c.rule (c.varies.alike g) in
          elim (a.like k kind) [
            | inr h ↦
                let now = own_now v number k c.rule h in
                let same : now.symbols ≡ symbols = some_list now.symbols symbols (first_choice c.rule.alternatives k) now.is c.of_rule in
                let some = begins_with v rules k symbols rest (subst (λ (s : List Symbol). takes_now k s ≡ true) same now.holds) in
                absurd (finishes_or_takes rules k (symbols ++ rest) (symbols ++ rest) some.left some.takes p refl)
            | inl h ↦ elim (a.like j other) [
              | inl i ↦
                  let is_plain : first_choice c.rule.alternatives v.plain ≡ Some symbols = sym h ∙ c.of_rule in
                  let keeps = kept_if v w (first_choice c.rule.alternatives v.plain) symbols a.plain is_plain in
                  by_choice number symbols rest (choice_is rules number j c.rule symbols c.there (i ∙ is_plain))
                  (finishing_variant v rules cs k j (symbols ++ rest) ends vary kind other p (kept-append v symbols rest w keeps follows kept.1))
              | inr i ↦
                  let q = is_in number v.passes in
                  let both = and-both w q (and-both (w && q) (of_choice (takes_now j) (first_choice c.rule.alternatives j)) i).0 in
                  let rest_takes = holds_of (λ i. accepts v i rest false) v.of_token k (follows both.0) kind in
                  let some = accepted (steps_of rules (Read number ∷ rest)) v rules cs k (Read number ∷ rest) ends vary kind
                  (or-right (is_in number v.takes) (q && accepts v k rest false) (and q (accepts v k rest false) both.1 rest_takes)) (omega arith) in
                  absurd (finishes_or_takes rules k (Read number ∷ rest) (Read number ∷ rest) some.left some.takes (by_choice number symbols rest e p) refl)
            ]
          ]
    ] in
    go (is_in number v.alone) refl
