-- What is known of the trees behind an alternative, where more is known before it.
use Rattle.std.proofs.Common.{◌≡◌, ℕ, zero, suc, ◌+◌, ◌-◌, ◌<◌, ◌≤◌, Bool, true, false, cond, ◌&&◌, ◌||◌, not, nat_lt, nat_le, List, [], ◌∷◌, ◌++◌, Option, Some, None, slice_get, refl, sym, ap, ◌∙◌, subst, arith}
use Rattle.std.specs.List.{list_all}
use Rattle.std.specs.Prelude.{option_and_then}
use Rattle.std.proofs.lemmas.Grind.{common_steps}
use Rattle.zw_grammar.specs.Plain.{PlainRule}
use Rattle.zw_grammar.specs.declared.grammar.Mark.{Mark}
use Rattle.zw_grammar.specs.declared.grammar.Mark.TheVariants.{Open, Wrap, Close, Leaf, Word, Enter, Leave}
use Rattle.zw_grammar.specs.declared.grammar.Symbol.{Symbol}
use Rattle.zw_grammar.specs.declared.grammar.Symbol.TheVariants.{Take, Read, Build}
use Rattle.zw_grammar.specs.Balances.{Outline, Course, with_terminal, provided, with_node, with_wrapped, without_node, with_leaf, with_mark, with_rule, outline, is_empty, is_closed, outset, only_takes, keeps_course, all_balance}
use Rattle.zw_grammar.specs.Balances.Course.{takes, builds}
use Rattle.zw_grammar.specs.Reading.{choice, first_choice}
use Rattle.zw_grammar.proofs.StepLemmas.{and-both, below, first_choice_passes}

pub le_of : (m n : ℕ) → nat_le m n ≡ true → m ≤ n
le_of m n e = grind (arith, common_steps)

pub test_le : (m n : ℕ) → m ≤ n → nat_le m n ≡ true
test_le m n e = grind (arith, common_steps)

pub test_lt : (m n : ℕ) → m < n → nat_lt m n ≡ true
test_lt m n e = grind (arith, common_steps)

pub both_true : (a b : Bool) → a ≡ true → b ≡ true → (a && b) ≡ true
both_true true true e f = refl
both_true true false e f = f
both_true false b e f = e

or_more : (a c b : Bool) → (a ≡ true → c ≡ true) → (a || b) ≡ true → (c || b) ≡ true
or_more a true b f e = refl
or_more true false true f e = refl
or_more true false false f e = f refl
or_more false false b f e = e

or_left : (a b : Bool) → a ≡ true → (a || b) ≡ true
or_left true b e = refl
or_left false b e = absurd (cc)

or_right : (a b : Bool) → b ≡ true → (a || b) ≡ true
or_right true b e = refl
or_right false b e = e

-- one of the two
or_by : (a b : Bool) (P : Type 0) → (a || b) ≡ true → (a ≡ true → P) → (b ≡ true → P) → P
or_by true b P e f g = f refl
or_by false b P e f g = g e

not_true : (b : Bool) → not b ≡ true → b ≡ false
not_true true e = absurd (cc)
not_true false e = refl

pub provided_is : (b : Bool) (x y : Outline) → provided b x ≡ Some y → (b ≡ true) × (x ≡ y)
provided_is true x y e = (refl, cc)
provided_is false x y e = absurd (cc)

-- what a step gives is known, and so is the rest
pub record Parts (ahead : Bool) (o : Option Outline) (on : Outline → Option Outline) (final : Outline) : Type 0 where
  pub here : ahead ≡ false
  pub next : Outline
  pub is : o ≡ Some next
  pub rest : on next ≡ Some final

pub parts : (ahead : Bool) (o : Option Outline) (on : Outline → Option Outline) (final : Outline) → cond ahead None (option_and_then on o) ≡ Some final → Parts ahead o on final
parts true o on final e = absurd (cc)
parts false None on final e = absurd (cc)
parts false (Some x) on final e = record { here = refl; next = x; is = refl; rest = e }

pub joined : (ahead : Bool) (o : Option Outline) (on : Outline → Option Outline) (x : Outline) (z : Option Outline) → ahead ≡ false → o ≡ Some x → on x ≡ z → cond ahead None (option_and_then on o) ≡ z
joined ahead o on x z e f g =
    ap (λ (b : Bool). cond b None (option_and_then on o)) e ∙ (ap (λ (p : Option Outline). option_and_then on p) f ∙ g)

pub record CourseOf (courses : List Course) (number : ℕ) (o to : Outline) : Type 0 where
  pub course : Course
  pub there : slice_get courses number ≡ Some course
  pub is : with_rule course o ≡ Some to

pub course_of : (courses : List Course) (number : ℕ) (o to : Outline) → option_and_then (λ course. with_rule course o) (slice_get courses number) ≡ Some to → CourseOf courses number o to
course_of courses number o to e = go (slice_get courses number) refl e
  where
    go : (c : Option Course) → slice_get courses number ≡ c → option_and_then (λ course. with_rule course o) c ≡ Some to → CourseOf courses number o to
    go None f e = absurd (cc)
    go (Some c) f e = record { course = c; there = f; is = e }

-- at least as many trees in each open node, and in the one around all of them so many more; around that stand these
abbrev pub Levels : ℕ → List ℕ → ℕ → List ℕ → ℕ → List ℕ → Type 0
Levels d ns n [] m ms = (n + d ≤ m) × (ms ≡ ns)
Levels d ns n (p ∷ ps) m [] = ⊥
Levels d ns n (p ∷ ps) m (q ∷ qs) = (n ≤ m) × Levels d ns p ps q qs

levels_change : (d : ℕ) (ns : List ℕ) (n : ℕ) (ps : List ℕ) (m : ℕ) (ms : List ℕ) (k j : ℕ) → Levels d ns n ps m ms → k + m ≤ j + n → Levels d ns k ps j ms
levels_change d ns n [] m ms k j l le = let first = l.0 in (omega arith, l.1)
levels_change d ns n (p ∷ ps) m [] k j l le = l
levels_change d ns n (p ∷ ps) m (q ∷ qs) k j l le = let first = l.0 in (omega arith, l.1)

levels_le : (d : ℕ) (ns : List ℕ) (n : ℕ) (ps : List ℕ) (m : ℕ) (ms : List ℕ) → Levels d ns n ps m ms → n ≤ m
levels_le d ns n [] m ms l = let first = l.0 in omega arith
levels_le d ns n (p ∷ ps) m [] l = absurd l
levels_le d ns n (p ∷ ps) m (q ∷ qs) l = l.0

levels_same : (n m : ℕ) (ps : List ℕ) → n ≤ m → Levels 0 [] n ps m ps
levels_same n m [] le = (omega arith, refl)
levels_same n m (p ∷ ps) le = (le, levels_same p p ps (omega arith))

-- at least what is known in one outline is known in another, which stands in further open nodes, and of the first node around it maybe
-- that it has a terminal
pub record Within (most : Bool) (d : ℕ) (ns : List ℕ) (e t : Outline) : Type 0 where
  pub ahead : e.ahead ≡ t.ahead
  pub some : e.some ≡ true → t.some ≡ true
  pub free : e.free ≤ t.free
  pub levels : Levels d ns e.many e.outer t.many t.outer
  pub was : e.outer ≡ [] → most ≡ true → t.some ≡ true

pub record Known (most : Bool) (d : ℕ) (ns : List ℕ) (e : Outline) (o : Option Outline) : Type 0 where
  pub to : Outline
  pub is : o ≡ Some to
  pub within : Within most d ns e to

terminal_within : (most : Bool) (d : ℕ) (ns : List ℕ) (e t : Outline) → Within most d ns e t → Within most d ns (with_terminal e) (with_terminal t)
terminal_within most d ns e t w = go e.ahead t.ahead w.ahead
  where
    go : (a b : Bool) → a ≡ b → Within most d ns
        (cond {A = Outline} a (record { ahead = false; some = e.some; free = e.free; many = e.many; outer = e.outer }) (record { ahead = false; some = true; free = suc e.free; many = e.many; outer = e.outer }))
        (cond {A = Outline} b (record { ahead = false; some = t.some; free = t.free; many = t.many; outer = t.outer }) (record { ahead = false; some = true; free = suc t.free; many = t.many; outer = t.outer }))
    go true true same = record { ahead = refl; some = w.some; free = w.free; levels = w.levels; was = w.was }
    go false false same = record { ahead = refl; some = λ s. refl; free = omega arith; levels = w.levels; was = λ none most. refl }
    go true false same = absurd (cc)
    go false true same = absurd (cc)

-- both are provided
provided_within : (most : Bool) (d : ℕ) (ns : List ℕ) (a b : Bool) (x y e : Outline) → provided a x ≡ Some e → (a ≡ true → (b ≡ true) × Within most d ns x y) → Known most d ns e (provided b y)
provided_within most d ns a b x y e given f =
    let p = provided_is a x e given in
    let g = f p.0 in
    record { to = y; is = ap (λ (c : Bool). provided c y) g.0; within = subst (λ (z : Outline). Within most d ns z y) p.1 g.1 }

node_within : (most : Bool) (d : ℕ) (ns : List ℕ) (back : ℕ) (e t next : Outline) → Within most d ns e t → with_node back e ≡ Some next → Known most d ns next (with_node back t)
node_within most d ns back e t next w given =
    provided_within most d ns (nat_le back e.free) (nat_le back t.free) _ _ next given (λ f.
    let le = le_of back e.free f in
    let free = w.free in (
      test_le back t.free (omega arith),
      record {
        ahead = refl;
        some = λ s. s;
        free = omega arith;
        levels = (omega arith, w.levels);
        was = λ none. absurd (cc);
      },
    ))

wrapped_within : (most : Bool) (d : ℕ) (ns : List ℕ) (n : ℕ) (e t next : Outline) → Within most d ns e t → with_wrapped n e ≡ Some next → Known most d ns next (with_wrapped n t)
wrapped_within most d ns n e t next w given =
    provided_within most d ns (nat_lt 0 n && nat_le n e.many) (nat_lt 0 n && nat_le n t.many) _ _ next given (λ f.
    let both = and-both (nat_lt 0 n) (nat_le n e.many) f in
    let le = le_of n e.many both.1 in
    let more = levels_le d ns e.many e.outer t.many t.outer w.levels in (
      both_true (nat_lt 0 n) (nat_le n t.many) both.0 (test_le n t.many (omega arith)),
      record {
        ahead = refl;
        some = λ s. refl;
        free = w.free;
        levels = (omega arith, levels_change d ns e.many e.outer t.many t.outer (e.many - n) (t.many - n) w.levels (omega arith));
        was = λ none. absurd (cc);
      },
    ))

closed_within : (most : Bool) (d : ℕ) (ns : List ℕ) (n : ℕ) (ps : List ℕ) (m : ℕ) (ms : List ℕ) (some also : Bool) (next : Outline) →
    Levels d ns n ps m ms → (some ≡ true → also ≡ true) → without_node ps some ≡ Some next → Known most d ns next (without_node ms also)
closed_within most d ns n [] m ms some also next l f given = absurd (cc)
closed_within most d ns n (p ∷ ps) m [] some also next l f given = absurd l
closed_within most d ns n (p ∷ ps) m (q ∷ qs) some also next l f given =
    provided_within most d ns some also _ _ next given (λ s. (
      f s,
      record {
        ahead = refl;
        some = λ t. refl;
        free = omega arith;
        levels = levels_change d ns p ps q qs (suc p) (suc q) l.1 (omega arith);
        was = λ none m. refl;
      },
    ))

leaf_within : (most : Bool) (d : ℕ) (ns : List ℕ) (back : ℕ) (e t next : Outline) → Within most d ns e t → with_leaf back e ≡ Some next → Known most d ns next (with_leaf back t)
leaf_within most d ns zero e t next w given =
    provided_within most d ns true true _ _ next given (λ s. (
      refl,
      record {
        ahead = refl;
        some = λ t. refl;
        free = omega arith;
        levels = levels_change d ns e.many e.outer t.many t.outer (suc e.many) (suc t.many) w.levels (omega arith);
        was = λ none m. refl;
      },
    ))
leaf_within most d ns (suc back) e t next w given =
    provided_within most d ns (nat_lt back e.free) (nat_lt back t.free) _ _ next given (λ f.
    let less = below back e.free f in
    let free = w.free in (
      test_lt back t.free (omega arith),
      record {
        ahead = refl;
        some = λ s. refl;
        free = omega arith;
        levels = levels_change d ns e.many e.outer t.many t.outer (suc e.many) (suc t.many) w.levels (omega arith);
        was = λ none m. refl;
      },
    ))

same_within : (most : Bool) (d : ℕ) (ns : List ℕ) (e t next : Outline) → Within most d ns e t → Some e ≡ Some next → Known most d ns next (Some t)
same_within most d ns e t next w given =
    let same : e ≡ next = cc in record { to = t; is = refl; within = subst (λ (z : Outline). Within most d ns z t) same w }

mark_within : (most : Bool) (d : ℕ) (ns : List ℕ) (mark : Mark) (e t next : Outline) → Within most d ns e t → with_mark mark e ≡ Some next → Known most d ns next (with_mark mark t)
mark_within most d ns (Open kind back) e t next w given = node_within most d ns back e t next w given
mark_within most d ns (Wrap kind n) e t next w given = wrapped_within most d ns n e t next w given
mark_within most d ns Close e t next w given = closed_within most d ns e.many e.outer t.many t.outer e.some t.some next w.levels w.some given
mark_within most d ns (Leaf kind back) e t next w given = leaf_within most d ns back e t next w given
mark_within most d ns (Word terminal kind other back) e t next w given = leaf_within most d ns back e t next w given
mark_within most d ns (Enter back) e t next w given = same_within most d ns e t next w given
mark_within most d ns Leave e t next w given = same_within most d ns e t next w given

rule_within : (most : Bool) (d : ℕ) (ns : List ℕ) (course : Course) (e t next : Outline) → Within most d ns e t → with_rule course e ≡ Some next → Known most d ns next (with_rule course t)
rule_within most d ns (takes n) e t next w given =
    provided_within most d ns true true _ _ next given (λ s.
    let free = w.free in (
      refl,
      record {
        ahead = refl;
        some = or_more e.some t.some (nat_lt 0 n) w.some;
        free = omega arith;
        levels = w.levels;
        was = λ none m. or_left t.some (nat_lt 0 n) (w.was none m);
      },
    ))
rule_within most d ns (builds free trees some more) e t next w given =
    provided_within most d ns (nat_le free e.free && nat_le trees e.many) (nat_le free t.free && nat_le trees t.many) _ _ next given (λ f.
    let both = and-both (nat_le free e.free) (nat_le trees e.many) f in
    let first = le_of free e.free both.0 in
    let second = le_of trees e.many both.1 in
    let frees = w.free in
    let le = levels_le d ns e.many e.outer t.many t.outer w.levels in (
      both_true (nat_le free t.free) (nat_le trees t.many) (test_le free t.free (omega arith)) (test_le trees t.many (omega arith)),
      record {
        ahead = refl;
        some = or_more e.some t.some some w.some;
        free = omega arith;
        levels = levels_change d ns e.many e.outer t.many t.outer ((e.many - trees) + more) ((t.many - trees) + more) w.levels (omega arith);
        was = λ none m. or_left t.some some (w.was none m);
      },
    ))

pub outline_within : (courses : List Course) (most : Bool) (d : ℕ) (ns : List ℕ) (symbols : List Symbol) (e t final : Outline) → Within most d ns e t →
    outline courses symbols e ≡ Some final → Known most d ns final (outline courses symbols t)
outline_within courses most d ns [] e t final w given = same_within most d ns e t final w given
outline_within courses most d ns (Take terminal ∷ rest) e t final w given =
    outline_within courses most d ns rest (with_terminal e) (with_terminal t) final (terminal_within most d ns e t w) given
outline_within courses most d ns (Build mark ∷ rest) e t final w given =
    let p = parts e.ahead (with_mark mark e) (outline courses rest) final given in
    let k = mark_within most d ns mark e t p.next w p.is in
    let r = outline_within courses most d ns rest p.next k.to final k.within p.rest in
    record { to = r.to; is = joined t.ahead (with_mark mark t) (outline courses rest) k.to (Some r.to) (sym w.ahead ∙ p.here) k.is r.is; within = r.within }
outline_within courses most d ns (Read number ∷ rest) e t final w given =
    let p = parts e.ahead (option_and_then (λ course. with_rule course e) (slice_get courses number)) (outline courses rest) final given in
    let c = course_of courses number e p.next p.is in
    let k = rule_within most d ns c.course e t p.next w c.is in
    let r = outline_within courses most d ns rest p.next k.to final k.within p.rest in
    let same : option_and_then (λ course. with_rule course t) (slice_get courses number) ≡ Some k.to =
    ap (λ (o : Option Course). option_and_then (λ course. with_rule course t) o) c.there ∙ k.is in
    record { to = r.to; is = joined t.ahead (option_and_then (λ course. with_rule course t) (slice_get courses number)) (outline courses rest) k.to (Some r.to) (sym w.ahead ∙ p.here) same r.is; within = r.within }

pub outline_append : (courses : List Course) (symbols others : List Symbol) (o middle : Outline) → outline courses symbols o ≡ Some middle →
    outline courses (symbols ++ others) o ≡ outline courses others middle
outline_append courses [] others o middle given = let same : o ≡ middle = cc in ap (λ (p : Outline). outline courses others p) same
outline_append courses (Take terminal ∷ rest) others o middle given = outline_append courses rest others (with_terminal o) middle given
outline_append courses (Build mark ∷ rest) others o middle given =
    let p = parts o.ahead (with_mark mark o) (outline courses rest) middle given in
    joined o.ahead (with_mark mark o) (outline courses (rest ++ others)) p.next (outline courses others middle) p.here p.is (outline_append courses rest others p.next middle p.rest)
outline_append courses (Read number ∷ rest) others o middle given =
    let x : Option Outline = option_and_then (λ course. with_rule course o) (slice_get courses number) in
    let p = parts o.ahead x (outline courses rest) middle given in
    joined o.ahead x (outline courses (rest ++ others)) p.next (outline courses others middle) p.here p.is (outline_append courses rest others p.next middle p.rest)

-- what is closed is known
pub record Closed (some : Bool) (trees : ℕ) (o : Option Outline) : Type 0 where
  pub final : Outline
  pub is : o ≡ Some final
  pub ahead : final.ahead ≡ false
  pub outer : final.outer ≡ []
  pub has : some ≡ true → final.some ≡ true
  pub more : trees ≤ final.many

empty_list : (list : List ℕ) → is_empty list ≡ true → list ≡ []
empty_list [] e = refl
empty_list (n ∷ list) e = absurd (cc)

implied : (a b : Bool) → (not a || b) ≡ true → a ≡ true → b ≡ true
implied true b e f = e
implied false b e f = absurd (cc)

pub closed : (some : Bool) (trees : ℕ) (o : Option Outline) → is_closed some trees o ≡ true → Closed some trees o
closed some trees None e = absurd (cc)
closed some trees (Some o) e =
    let halves = and-both (not o.ahead && is_empty o.outer) ((not some || o.some) && nat_le trees o.many) e in
    let first = and-both (not o.ahead) (is_empty o.outer) halves.0 in
    let second = and-both (not some || o.some) (nat_le trees o.many) halves.1 in
    record {
      final = o;
      is = refl;
      ahead = not_true o.ahead first.0;
      outer = empty_list o.outer first.1;
      has = implied some o.some second.0;
      more = le_of trees o.many second.1;
    }

pub is_closed_of : (o : Outline) → o.ahead ≡ false → o.outer ≡ [] → is_closed false 0 (Some o) ≡ true
is_closed_of o e f =
    let first : (not o.ahead && is_empty o.outer) ≡ true = ap (λ (b : Bool). not b && is_empty o.outer) e ∙ ap is_empty f in
    both_true (not o.ahead && is_empty o.outer) ((not false || o.some) && nat_le 0 o.many) first (test_le 0 o.many (omega arith))

empty_levels : (d : ℕ) (n : ℕ) (ps : List ℕ) (m : ℕ) (ms : List ℕ) → Levels d [] n ps m ms → ps ≡ [] → ms ≡ []
empty_levels d n [] m ms l e = l.1
empty_levels d n (p ∷ ps) m ms l e = absurd (cc)

-- where more is known, the same is closed
pub closed_more : (courses : List Course) (symbols : List Symbol) (e t : Outline) → Within false 0 [] e t →
    is_closed false 0 (outline courses symbols e) ≡ true → is_closed false 0 (outline courses symbols t) ≡ true
closed_more courses symbols e t w shut =
    let c = closed false 0 (outline courses symbols e) shut in
    let k = outline_within courses false 0 [] symbols e t c.final w c.is in
    let within = k.within in
    let outer : k.to.outer ≡ [] = empty_levels 0 c.final.many c.final.outer k.to.many k.to.outer within.levels c.outer in
    ap (λ (o : Option Outline). is_closed false 0 o) k.is ∙ is_closed_of k.to (sym within.ahead ∙ c.ahead) outer

-- symbols that take terminals alone
record Takes (o : Outline) (n : ℕ) (r : Option Outline) : Type 0 where
  to : Outline
  is : r ≡ Some to
  ahead : to.ahead ≡ false
  some : (o.some || nat_lt 0 n) ≡ true → to.some ≡ true
  free : o.free + n ≤ to.free
  many : to.many ≡ o.many
  outer : to.outer ≡ o.outer

taken_alone : (courses : List Course) (symbols : List Symbol) (n : ℕ) (o : Outline) → o.ahead ≡ false → only_takes n symbols ≡ true → Takes o n (outline courses symbols o)
taken_alone courses [] n o here only =
    let none : n ≡ 0 = grind (arith, common_steps) in
    record {
      to = o;
      is = refl;
      ahead = here;
      some = λ s. or_by o.some (nat_lt 0 n) (o.some ≡ true) s (λ t. t) (λ t. let less = below 0 n t in absurd (omega arith));
      free = omega arith;
      many = refl;
      outer = refl;
    }
taken_alone courses (Take terminal ∷ rest) n o here only =
    let both = and-both (nat_lt 0 n) (only_takes (n - 1) rest) only in
    let less = below 0 n both.0 in
    let m : Outline = record { ahead = false; some = true; free = suc o.free; many = o.many; outer = o.outer } in
    let same : with_terminal o ≡ m =
    ap (λ (b : Bool). cond {A = Outline} b (record { ahead = false; some = o.some; free = o.free; many = o.many; outer = o.outer }) m) here in
    let r = taken_alone courses rest (n - 1) m refl both.1 in
    let free = r.free in
    record {
      to = r.to;
      is = ap (λ (p : Outline). outline courses rest p) same ∙ r.is;
      ahead = r.ahead;
      some = λ s. r.some refl;
      free = omega arith;
      many = r.many;
      outer = r.outer;
    }
taken_alone courses (Build mark ∷ rest) n o here only = absurd (cc)
taken_alone courses (Read number ∷ rest) n o here only = absurd (cc)

-- the course of a rule, and the rule
record IsPair (courses : List Course) (rules : List PlainRule) (number : ℕ) (c : Course) : Type 0 where
  rule : PlainRule
  there : slice_get rules number ≡ Some rule
  all : list_all (keeps_course courses c) rule.alternatives ≡ true

pair_at : (courses : List Course) (rules : List PlainRule) (some : List Course) (number : ℕ) (c : Course) →
    all_balance courses rules some ≡ true → slice_get some number ≡ Some c → IsPair courses rules number c
pair_at courses [] [] number c all there = absurd (cc)
pair_at courses [] (d ∷ ds) number c all there = absurd (cc)
pair_at courses (r ∷ rs) [] number c all there = absurd (cc)
pair_at courses (r ∷ rs) (d ∷ ds) zero c all there =
    let both = and-both (list_all (keeps_course courses d) r.alternatives) (all_balance courses rs ds) all in
    let same : d ≡ c = cc in
    record { rule = r; there = refl; all = subst (λ (e : Course). list_all (keeps_course courses e) r.alternatives ≡ true) same both.0 }
pair_at courses (r ∷ rs) (d ∷ ds) (suc number) c all there =
    let more = pair_at courses rs ds number c (and-both (list_all (keeps_course courses d) r.alternatives) (all_balance courses rs ds) all).1 there in
    record { rule = more.rule; there = more.there; all = more.all }

-- what an alternative of a rule gives is more than what is claimed of the rule
alternative_within : (courses : List Course) (c : Course) (symbols : List Symbol) (o next : Outline) → o.ahead ≡ false →
    keeps_course courses c (record { first = []; symbols = symbols }) ≡ true → with_rule c o ≡ Some next → Known false 0 [] next (outline courses symbols o)
alternative_within courses (takes n) symbols o next here keeps given =
    let r = taken_alone courses symbols n o here keeps in
    let w : Outline = record { ahead = false; some = o.some || nat_lt 0 n; free = o.free + n; many = o.many; outer = o.outer } in
    let same : w ≡ next = cc in
    record {
      to = r.to;
      is = r.is;
      within = subst (λ (z : Outline). Within false 0 [] z r.to) same (record {
        ahead = sym r.ahead;
        some = r.some;
        free = r.free;
        levels = subst (λ (ms : List ℕ). Levels 0 [] o.many o.outer r.to.many ms) (sym r.outer) (let many = r.many in levels_same o.many r.to.many o.outer (omega arith));
        was = λ none m. absurd (cc);
      });
    }
alternative_within courses (builds free trees some more) symbols o next here keeps given =
    let p = provided_is (nat_le free o.free && nat_le trees o.many) _ next given in
    let both = and-both (nat_le free o.free) (nat_le trees o.many) p.0 in
    let first = le_of free o.free both.0 in
    let second = le_of trees o.many both.1 in
    let c = closed some more (outline courses symbols (outset free trees)) keeps in
    let start : Within o.some (o.many - trees) o.outer (outset free trees) o = record {
      ahead = sym here;
      some = λ no. absurd (cc);
      free = first;
      levels = (omega arith, refl);
      was = λ none m. m;
    } in
    let k = outline_within courses o.some (o.many - trees) o.outer symbols (outset free trees) o c.final start c.is in
    let w = k.within in
    let l : Levels (o.many - trees) o.outer c.final.many [] k.to.many k.to.outer = subst (λ (ps : List ℕ). Levels (o.many - trees) o.outer c.final.many ps k.to.many k.to.outer) c.outer w.levels in
    let sum = l.0 in
    let more_there = c.more in
    record {
      to = k.to;
      is = k.is;
      within = subst (λ (z : Outline). Within false 0 [] z k.to) p.1 (record {
        ahead = sym c.ahead ∙ w.ahead;
        some = λ s. or_by o.some some (k.to.some ≡ true) s (λ t. w.was c.outer t) (λ t. w.some (c.has t));
        free = omega arith;
        levels = subst (λ (ms : List ℕ). Levels 0 [] ((o.many - trees) + more) o.outer k.to.many ms) (sym l.1) (levels_same ((o.many - trees) + more) k.to.many o.outer (omega arith));
        was = λ none m. absurd (cc);
      });
    }

same_shut : (o p : Option Outline) → o ≡ p → is_closed false 0 p ≡ true → is_closed false 0 o ≡ true
same_shut o p same e = ap (λ (q : Option Outline). is_closed false 0 q) same ∙ e

-- what follows a rule is closed behind what the rule reads
pub closed_choice : (courses : List Course) (rules : List PlainRule) (number terminal : ℕ) (symbols others : List Symbol) (o : Outline) →
    all_balance courses rules courses ≡ true → choice rules number terminal ≡ Some symbols →
    is_closed false 0 (outline courses (Read number ∷ others) o) ≡ true → is_closed false 0 (outline courses (symbols ++ others) o) ≡ true
closed_choice courses rules number terminal symbols others o all chosen shut =
    let c = closed false 0 (outline courses (Read number ∷ others) o) shut in
    let p = parts o.ahead (option_and_then (λ course. with_rule course o) (slice_get courses number)) (outline courses others) c.final c.is in
    let f = course_of courses number o p.next p.is in
    let pair = pair_at courses rules courses number f.course all f.there in
    let of_rule : first_choice pair.rule.alternatives terminal ≡ Some symbols =
    sym (ap (λ (q : Option PlainRule). option_and_then (λ (rule : PlainRule). first_choice rule.alternatives terminal) q) pair.there) ∙ chosen in
    let one = first_choice_passes (keeps_course courses f.course) pair.rule.alternatives terminal symbols pair.all of_rule in
    let passes : keeps_course courses f.course (record { first = []; symbols = symbols }) ≡ true =
    keeps_by_symbols f.course one.alternative.first one.alternative.symbols symbols one.reads one.passes in
    let k = alternative_within courses f.course symbols o p.next p.here passes f.is in
    let rest : is_closed false 0 (outline courses others p.next) ≡ true = ap (λ (q : Option Outline). is_closed false 0 q) p.rest ∙ is_closed_of c.final c.ahead c.outer in
    same_shut (outline courses (symbols ++ others) o) (outline courses others k.to) (outline_append courses symbols others o k.to k.is) (closed_more courses others p.next k.to k.within rest)
  where
    keeps_by_symbols : (d : Course) (first : List ℕ) (these those : List Symbol) → these ≡ those → keeps_course courses d (record { first = first; symbols = these }) ≡ true →
        keeps_course courses d (record { first = []; symbols = those }) ≡ true
    keeps_by_symbols (takes n) first these those same e = subst (λ (s : List Symbol). only_takes n s ≡ true) same e
    keeps_by_symbols (builds free trees some more) first these those same e = subst (λ (s : List Symbol). is_closed some more (outline courses s (outset free trees)) ≡ true) same e
