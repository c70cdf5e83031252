-- One step of a reading, with the stack as a list whose last symbol is the next to be read.
use Rattle.std.proofs.Common.{◌≡◌, ℕ, suc, Bool, true, false, cond, ◌==◌, List, [], ◌∷◌, ◌++◌, reverse, Option, Some, None, slice_get, refl, sym, ap, ◌∙◌, subst}
use Rattle.std.specs.Option.{option_map}
use Rattle.std.specs.Prelude.{option_and_then}
use Rattle.std.proofs.lemmas.Bool.{eqb-true}
use Rattle.std.proofs.lemmas.List.{reverse-append, reverse-reverse}
use Rattle.zw_grammar.specs.Plain.{PlainRule}
use Rattle.zw_grammar.specs.declared.builder.Builder.{Builder}
use Rattle.zw_grammar.specs.declared.builder.Built.{Built}
use Rattle.zw_grammar.specs.declared.grammar.Mark.{Mark}
use Rattle.zw_grammar.specs.declared.grammar.Symbol.{Symbol}
use Rattle.zw_grammar.specs.declared.grammar.Symbol.TheVariants.{Take, Read, Build}
use Rattle.zw_grammar.specs.Building.{Building, marked}
use Rattle.zw_grammar.specs.Nodes.{HoldsBehind}
use Rattle.zw_grammar.specs.Reading.{Reading, Leads, after, step, choice}
use Rattle.zw_grammar.specs.Reading.Leads.{here, on}
use Rattle.zw_grammar.specs.Turns.{Comes, Takes, Sticks, reading}

-- one step more
pub further : (rules : List PlainRule) (text : List ℕ) (r m s : Reading) → Leads rules text r m → after rules text m ≡ Some s → Leads rules text r s
further rules text r m s (here q) e = on q s s e (here s)
further rules text r m s (on q n p first more) e = on q n s first (further rules text n p s more e)

pub reverse_last : {X : Type 0} (xs : List X) (x : X) → reverse (xs ++ (x ∷ [])) ≡ x ∷ reverse xs
reverse_last xs x = reverse-append xs (x ∷ [])

pub reverse_more : {X : Type 0} (xs ys : List X) → reverse (xs ++ reverse ys) ≡ reverse (reverse ys) ++ reverse xs
reverse_more xs ys = reverse-append xs (reverse ys)

-- a stack onto which symbols were put has them on top
pub reverse_pushed : (after_it others symbols : List Symbol) → after_it ≡ others ++ reverse symbols → reverse after_it ≡ symbols ++ reverse others
reverse_pushed after_it others symbols pushed =
    ap reverse pushed ∙ (reverse_more others symbols ∙ ap (λ (more : List Symbol). more ++ reverse others) (reverse-reverse symbols))

-- numbers that differ
pub differ : (a b : ℕ) → (a ≡ b → ⊥) → (a == b) ≡ false
differ a b h =
    let P : Bool → Type 0 = λ t. (a == b) ≡ t → (a == b) ≡ false in
    let go : (t : Bool) → P t = λ t. elim t as P [ true ↦ λ e. absurd (h (eqb-true a b e)) | false ↦ λ e. e ] in
    go (a == b) refl

-- a mark is read
pub comes_build : (rules : List PlainRule) (text : List ℕ) (from : Reading) (stack others : List Symbol) (next : ℕ) (older : List Built) (old new : Builder) (mark : Mark) →
    Comes rules text from stack next older old → stack ≡ others ++ (Build mark ∷ []) →
    ((b : Building) → HoldsBehind older old b → HoldsBehind older new (marked text next mark b)) → Comes rules text from others next older new
comes_build rules text from stack others next older old new mark come e hold =
    let b = come.building in
    let top : reverse stack ≡ Build mark ∷ reverse others = ap reverse e ∙ reverse_last others (Build mark) in
    let one : after rules text (reading stack next b) ≡ Some (reading others next (marked text next mark b)) =
    ap (λ (symbols : List Symbol). step rules text symbols next b) top in
    record {
      building = marked text next mark b;
      leads = further rules text from (reading stack next b) (reading others next (marked text next mark b)) come.leads one;
      holds = hold b come.holds;
    }

-- a terminal is taken
pub comes_take : (rules : List PlainRule) (text : List ℕ) (from : Reading) (stack others : List Symbol) (next terminal wanted : ℕ) (older : List Built) (builder : Builder) →
    Comes rules text from stack next older builder → stack ≡ others ++ (Take wanted ∷ []) → slice_get text next ≡ Some terminal →
    (terminal == wanted) ≡ true → Takes rules text from others next older builder
comes_take rules text from stack others next terminal wanted older builder come e there same =
    let b = come.building in
    let top : reverse stack ≡ Take wanted ∷ reverse others = ap reverse e ∙ reverse_last others (Take wanted) in
    let s : Reading = record { stack = reverse others; next = suc next; building = b } in
    let pick : ℕ → Option Reading = λ other. cond (other == wanted) (Some s) None in
    let one : after rules text (reading stack next b) ≡ Some s =
    ap (λ (symbols : List Symbol). step rules text symbols next b) top
    ∙ (ap (λ (o : Option ℕ). option_and_then pick o) there ∙ ap (λ (t : Bool). cond t (Some s) None) same) in
    record { before = reading stack next b; leads = come.leads; next_is = refl; taken = one; holds = come.holds }

-- a rule is read
pub comes_read : (rules : List PlainRule) (text : List ℕ) (from : Reading) (stack others after_it symbols : List Symbol) (next terminal number : ℕ) (older : List Built) (builder : Builder) →
    Comes rules text from stack next older builder → stack ≡ others ++ (Read number ∷ []) → slice_get text next ≡ Some terminal →
    choice rules number terminal ≡ Some symbols → after_it ≡ others ++ reverse symbols → Comes rules text from after_it next older builder
comes_read rules text from stack others after_it symbols next terminal number older builder come e there chosen pushed =
    let b = come.building in
    let top : reverse stack ≡ Read number ∷ reverse others = ap reverse e ∙ reverse_last others (Read number) in
    let put : List Symbol → Reading = λ more. record { stack = more ++ reverse others; next = next; building = b } in
    let back : reverse after_it ≡ symbols ++ reverse others =
    ap reverse pushed ∙ (reverse_more others symbols ∙ ap (λ (more : List Symbol). more ++ reverse others) (reverse-reverse symbols)) in
    let one : after rules text (reading stack next b) ≡ Some (reading after_it next b) =
    ap (λ (all : List Symbol). step rules text all next b) top
    ∙ (ap (λ (o : Option ℕ). option_map put (option_and_then (choice rules number) o)) there
    ∙ (ap (λ (o : Option (List Symbol)). option_map put o) chosen
    ∙ ap (λ (all : List Symbol). Some (record { stack = all; next = next; building = b })) (sym back))) in
    record { building = b; leads = further rules text from (reading stack next b) (reading after_it next b) come.leads one; holds = come.holds }

not_nil : (stack others : List Symbol) (symbol : Symbol) → reverse stack ≡ symbol ∷ others → reverse stack ≡ [] → ⊥
not_nil stack others symbol e n = cc

-- another terminal stands there
pub sticks_take : (rules : List PlainRule) (text : List ℕ) (from : Reading) (stack others : List Symbol) (next terminal wanted : ℕ) (older : List Built) (builder : Builder) →
    Comes rules text from stack next older builder → stack ≡ others ++ (Take wanted ∷ []) → slice_get text next ≡ Some terminal →
    (terminal == wanted) ≡ false → Sticks rules text from next older builder
sticks_take rules text from stack others next terminal wanted older builder come e there other =
    let b = come.building in
    let top : reverse stack ≡ Take wanted ∷ reverse others = ap reverse e ∙ reverse_last others (Take wanted) in
    let s : Reading = record { stack = reverse others; next = suc next; building = b } in
    let pick : ℕ → Option Reading = λ other. cond (other == wanted) (Some s) None in
    record {
      at = reading stack next b;
      leads = come.leads;
      stuck = ap (λ (symbols : List Symbol). step rules text symbols next b) top
          ∙ (ap (λ (o : Option ℕ). option_and_then pick o) there ∙ ap (λ (t : Bool). cond t (Some s) None) other);
      unread = not_nil stack (reverse others) (Take wanted) top;
      next_is = refl;
      holds = come.holds;
    }

-- no alternative of the rule is chosen
pub sticks_read : (rules : List PlainRule) (text : List ℕ) (from : Reading) (stack others : List Symbol) (next terminal number : ℕ) (older : List Built) (builder : Builder) →
    Comes rules text from stack next older builder → stack ≡ others ++ (Read number ∷ []) → slice_get text next ≡ Some terminal →
    choice rules number terminal ≡ None → Sticks rules text from next older builder
sticks_read rules text from stack others next terminal number older builder come e there none =
    let b = come.building in
    let top : reverse stack ≡ Read number ∷ reverse others = ap reverse e ∙ reverse_last others (Read number) in
    let put : List Symbol → Reading = λ more. record { stack = more ++ reverse others; next = next; building = b } in
    record {
      at = reading stack next b;
      leads = come.leads;
      stuck = ap (λ (all : List Symbol). step rules text all next b) top
          ∙ (ap (λ (o : Option ℕ). option_map put (option_and_then (choice rules number) o)) there
          ∙ ap (λ (o : Option (List Symbol)). option_map put o) none);
      unread = not_nil stack (reverse others) (Read number) top;
      next_is = refl;
      holds = come.holds;
    }

-- nothing is left to read
pub comes_behind : (rules : List PlainRule) (text : List ℕ) (from : Reading) (stack : List Symbol) (next : ℕ) (older : List Built) (builder : Builder) →
    Comes rules text from stack next older builder → stack ≡ [] → Comes rules text from [] next older builder
comes_behind rules text from stack next older builder come e = subst (λ (all : List Symbol). Comes rules text from all next older builder) e come
