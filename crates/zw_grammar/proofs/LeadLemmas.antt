-- Where a text leads to.
use Rattle.std.proofs.Common.{◌≡◌, ℕ, zero, suc, ◌-◌, ◌<◌, ◌≤◌, Bool, true, false, cond, ◌==◌, List, [], ◌∷◌, ◌++◌, length, take, Option, Some, None, slice_get, refl, sym, ap, ◌∙◌, subst, arith, ◌⊎◌, inl, inr}
use Rattle.std.specs.Option.{option_map}
use Rattle.std.specs.Prelude.{option_and_then}
use Rattle.zw_grammar.specs.Plain.{PlainRule}
use Rattle.zw_grammar.specs.declared.grammar.Mark.{Mark}
use Rattle.zw_grammar.specs.declared.grammar.Mark.TheVariants.{Open, Wrap, Close, Leaf, Word, Enter, Leave}
use Rattle.zw_grammar.specs.declared.grammar.Symbol.{Symbol}
use Rattle.zw_grammar.specs.declared.grammar.Symbol.TheVariants.{Take, Read, Build}
use Rattle.zw_grammar.specs.Building.{Building, marked, stands, one}
use Rattle.zw_grammar.specs.Reading.{Reading, Leads, after, step, choice}
use Rattle.zw_grammar.specs.Reading.Leads.{here, on}

-- from one to another and on to a third
pub leads_on : (rules : List PlainRule) (text : List ℕ) (r m s : Reading) → Leads rules text r m → Leads rules text m s → Leads rules text r s
leads_on rules text r m s (here q) more = more
leads_on rules text r m s (on q n p first rest) more = on q n s first (leads_on rules text n p s rest more)

some_is_one : {X : Type 0} (o : Option X) (x y : X) → o ≡ Some x → o ≡ Some y → x ≡ y
some_is_one o x y a b = let e : Some x ≡ Some y = sym a ∙ b in cc

-- there is one way on
pub one_way : (rules : List PlainRule) (text : List ℕ) (r s t : Reading) → Leads rules text r s → Leads rules text r t →
    Leads rules text s t ⊎ Leads rules text t s
one_way rules text r s t (here q) to = inl to
one_way rules text r s t (on q m p first rest) (here u) = inr (on u m p first rest)
one_way rules text r s t (on q m p first rest) (on u n v second more) =
    let same = some_is_one (after rules text u) n m second first in
    one_way rules text m p v rest (subst (λ (z : Reading). Leads rules text z v) same more)

-- nothing comes behind what can't go on
pub no_way : (rules : List PlainRule) (text : List ℕ) (s t : Reading) → after rules text s ≡ None → Leads rules text s t → s ≡ t
no_way rules text s t stuck (here q) = refl
no_way rules text s t stuck (on q m p first rest) = let e : None ≡ Some m = sym stuck ∙ first in absurd (cc)

-- texts that agree up to a place
abbrev pub Agree : ℕ → List ℕ → List ℕ → Type 0
Agree n text other = (k : ℕ) → k < n → slice_get text k ≡ slice_get other k

-- a mark does the same before texts that agree up to the next terminal
marked_same : (text other : List ℕ) (next : ℕ) (mark : Mark) (b : Building) → Agree (suc next) text other → marked text next mark b ≡ marked other next mark b
marked_same text other next (Open kind back) b agree = refl
marked_same text other next (Wrap kind n) b agree = refl
marked_same text other next Close b agree = refl
marked_same text other next (Leaf kind back) b agree = refl
marked_same text other next (Word terminal kind last back) b agree =
    let place : next - back < suc next = omega arith in
    ap (λ (o : Option ℕ). one (cond (stands o terminal) kind last) (next - back) b) (agree (next - back) place)
marked_same text other next (Enter back) b agree = refl
marked_same text other next Leave b agree = refl

-- and so does a step
pub step_same : (rules : List PlainRule) (text other : List ℕ) (stack : List Symbol) (next : ℕ) (b : Building) → Agree (suc next) text other →
    step rules text stack next b ≡ step rules other stack next b
step_same rules text other [] next b agree = refl
step_same rules text other (Take terminal ∷ more) next b agree =
    ap (λ (o : Option ℕ). option_and_then (λ u. cond (u == terminal) (Some (record { stack = more; next = suc next; building = b })) None) o) (agree next (omega arith))
step_same rules text other (Read number ∷ more) next b agree =
    ap (λ (o : Option ℕ). option_map (λ (symbols : List Symbol). record { stack = symbols ++ more; next = next; building = b }) (option_and_then (choice rules number) o)) (agree next (omega arith))
step_same rules text other (Build mark ∷ more) next b agree =
    ap (λ (built : Building). Some (record { stack = more; next = next; building = built })) (marked_same text other next mark b agree)

pub after_same : (rules : List PlainRule) (text other : List ℕ) (r : Reading) → Agree (suc r.next) text other → after rules text r ≡ after rules other r
after_same rules text other r agree = step_same rules text other r.stack r.next r.building agree

-- a step takes one terminal at most
step_next : (rules : List PlainRule) (text : List ℕ) (stack : List Symbol) (next : ℕ) (b : Building) (s : Reading) → step rules text stack next b ≡ Some s → next ≤ s.next
step_next rules text [] next b s e = absurd (cc)
step_next rules text (Take terminal ∷ more) next b s e = go (slice_get text next) e
  where
    pick : Bool → Option Reading
    pick t = cond t (Some (record { stack = more; next = suc next; building = b })) None

    chosen : (t : Bool) → pick t ≡ Some s → next ≤ s.next
    chosen true e = let same : record { stack = more; next = suc next; building = b } ≡ s = cc in
        let at : suc next ≡ s.next = ap (λ (r : Reading). r.next) same in omega arith
    chosen false e = absurd (cc)

    go : (o : Option ℕ) → option_and_then (λ u. pick (u == terminal)) o ≡ Some s → next ≤ s.next
    go None e = absurd (cc)
    go (Some u) e = chosen (u == terminal) e
step_next rules text (Read number ∷ more) next b s e = go (option_and_then (choice rules number) (slice_get text next)) e
  where
    put : List Symbol → Reading
    put symbols = record { stack = symbols ++ more; next = next; building = b }

    go : (o : Option (List Symbol)) → option_map put o ≡ Some s → next ≤ s.next
    go None e = absurd (cc)
    go (Some symbols) e = let same : put symbols ≡ s = cc in
        let at : next ≡ s.next = ap (λ (r : Reading). r.next) same in omega arith
step_next rules text (Build mark ∷ more) next b s e =
    let same : record { stack = more; next = next; building = marked text next mark b } ≡ s = cc in
    let at : next ≡ s.next = ap (λ (r : Reading). r.next) same in omega arith

pub leads_next : (rules : List PlainRule) (text : List ℕ) (r s : Reading) → Leads rules text r s → r.next ≤ s.next
leads_next rules text r s (here q) = omega arith
leads_next rules text r s (on q m p first rest) =
    let one = step_next rules text q.stack q.next q.building m first in
    let more = leads_next rules text m p rest in omega arith

-- what a text leads to, each text leads to that agrees with it up to the next terminal there
pub leads_same : (rules : List PlainRule) (text other : List ℕ) (r s : Reading) → Leads rules text r s → Agree (suc s.next) text other → Leads rules other r s
leads_same rules text other r s (here q) agree = here q
leads_same rules text other r s (on q m p first rest) agree =
    let one = step_next rules text q.stack q.next q.building m first in
    let more = leads_next rules text m p rest in
    let near : Agree (suc q.next) text other = λ k less. agree k (omega arith) in
    on q m p (sym (after_same rules text other q near) ∙ first) (leads_same rules text other m p rest agree)

pub agree_less : (m n : ℕ) (text other : List ℕ) → m ≤ n → Agree n text other → Agree m text other
agree_less m n text other le agree = λ k less. agree k (omega arith)

-- a text's front goes on as the text does
pub front_agrees : (n : ℕ) (text more : List ℕ) → n ≤ length text → Agree n text (take n text ++ more)
front_agrees zero text more le k less = absurd (omega arith)
front_agrees (suc n) [] more le k less = absurd (omega arith)
front_agrees (suc n) (x ∷ xs) more le zero less = refl
front_agrees (suc n) (x ∷ xs) more le (suc k) less = front_agrees n xs more (omega arith) k (omega arith)
