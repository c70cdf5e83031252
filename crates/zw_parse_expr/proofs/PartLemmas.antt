-- Parts of texts over their tokens: where no text goes on over terminals, none does over tokens.
use Rattle.std.proofs.Common.{◌≡◌, ℕ, zero, suc, ◌+◌, ◌-◌, ◌<◌, ◌≤◌, Bool, true, false, cond, ◌==◌, List, [], ◌∷◌, ◌++◌, length, take, Some, None, slice_get, refl, sym, ap, ◌∙◌, subst, arith, ◌⊎◌, inl, inr}
use Rattle.std.specs.Prelude.{Result, Ok, Err, IfOk}
use Rattle.std.proofs.lemmas.Bool.{cases_lt}
use Rattle.std.proofs.lemmas.Option.{slice_get_within}
use Rattle.zw_grammar.specs.declared.grammar.Symbol.{Symbol}
use Rattle.zw_grammar.specs.declared.builder.Builder.{Builder}
use Rattle.zw_grammar.specs.declared.builder.Built.{Built}
use Rattle.zw_grammar.specs.declared.machine.End.{End}
use Rattle.zw_grammar.specs.declared.machine.End.TheVariants as ends
use Rattle.zw_grammar.specs.Building.{Building}
use Rattle.zw_grammar.specs.Completions.{text_of, bound_of}
use Rattle.zw_grammar.specs.Ends.{Ends}
use Rattle.zw_grammar.specs.Grammars.{all_end}
use Rattle.zw_grammar.specs.Reading.{Reading, Leads, after}
use Rattle.zw_grammar.specs.Texts.{begins, Reads, GoesOn, IsWrong}
use Rattle.zw_grammar.proofs.CompletionLemmas.{IsFrom, completed}
use Rattle.zw_grammar.proofs.EndLemmas.{front_there}
use Rattle.zw_grammar.proofs.LawLemmas.{not_wrong, goes_shorter}
use Rattle.zw_grammar.proofs.LeadLemmas.{Agree, leads_on, one_way, no_way, leads_next, leads_same, after_same, agree_less, front_agrees}
use Rattle.zw_grammar.proofs.StepLemmas.{truth}
use Rattle.zw_grammar.proofs.TakeLemmas.{Takes, some_one, leads_takes, Reaches, reaches_same, reaches_leads, reaches_keeps, leads_reaches, stays_within, stuck_somewhere, Finishes, leads_finishes, finishes_leads}
use Rattle.zw_grammar.proofs.TakeLemmas.Reaches.{at_first, further}
use Rattle.zw_grammar.proofs.Variants.{is_in}
use Rattle.zw_grammar.proofs.VariantLemmas.{IsSound, takes_sound, other_variant, fitting_variant, finishing_variant}
use Rattle.zw_parse_expr.specs.declared.terminal.TheConstants.{COLON, END}
use Rattle.zw_parse_expr.specs.Lexemes.{Lexeme, own_terminal, colon_behind, terminal_before, terminals_of, EndsOnce}
use Rattle.zw_parse_expr.specs.Parts.{IsWrongPart, PartEnds}
use Rattle.zw_parse_expr.specs.Rules.{rules}
use Rattle.zw_parse_expr.proofs.Checks.{all_rules_end, all_rules_complete, all_rules_vary}
use Rattle.zw_parse_expr.proofs.Completions.{completions}
use Rattle.zw_parse_expr.proofs.LexemeLemmas.{length-terminals, last_terminal, ends_front, front_same, AtPlace, at_place, rest_from, front_length, colon_variants, one_before, lexemes_for, colon_behind_for, terminals_for, ends_for, length-for, end_place}

-- a stack of our grammar from which a text of tokens goes on
abbrev pub Sound : List Symbol → Type 0
Sound stack = IsSound colon_variants completions END stack

sound_takes : (terminal : ℕ) (stack left : List Symbol) → Takes rules terminal stack left → Sound stack → Sound left
sound_takes t stack left takes sound = takes_sound colon_variants rules completions END t stack left all_rules_vary all_rules_complete takes sound

pub sound_reaches : (start : List Symbol) (text : List ℕ) (from next : ℕ) (stack : List Symbol) → Sound start → Reaches rules text from start next stack → Sound stack
sound_reaches start text from next stack first reaches = reaches_keeps Sound rules text from start next stack sound_takes reaches first

-- the front of a list, and what completes a stack
abbrev Completed : ℕ → List Lexeme → List Symbol → List Lexeme
Completed place list stack = take place list ++ lexemes_for (text_of completions stack)

-- the symbols read all of the list from a token on up to its end
pub record HasWhole (start : List Symbol) (list : List Lexeme) (from : ℕ) : Type 0 where
  pub building : Building
  pub ends : EndsOnce list
  pub reads : Reads rules start (terminals_of list) from (length list - 1) building

-- what comes to a stack behind a front is completed
completes : (start : List Symbol) (list : List Lexeme) (from place : ℕ) (stack : List Symbol) → EndsOnce list → place < length list → Sound stack →
    Reaches rules (terminals_of (Completed place list stack)) from start place stack → HasWhole start (Completed place list stack) from
completes start list from place stack ends less sound reaches =
    let text = text_of completions stack in
    let whole = Completed place list stack in
    let t = terminals_of whole in
    let is : IsFrom t place (text ++ (END ∷ [])) =
    subst (λ (l : List ℕ). IsFrom t place l) (terminals_for text sound.spelled) (rest_from place list (lexemes_for text) (omega arith)) in
    let g = reaches_leads rules t from start place stack reaches in
    let before : Reading = record { stack = stack; next = place; building = g.building } in
    let done = completed (bound_of completions stack) completions END rules t stack place g.building all_rules_complete (omega arith) sound.fitting is in
    let final : Reading = record { stack = []; next = done.to; building = done.building } in
    let on_it = leads_next rules t before final done.leads in
    let k = done.to - place in
    let to_is : done.to ≡ place + k = omega arith in
    let there : slice_get (text ++ (END ∷ [])) k ≡ Some END = sym (is k) ∙ (ap (λ (n : ℕ). slice_get t n) (sym to_is) ∙ done.there) in
    let k_is = end_place text k sound.spelled there in
    let long = front_length place list (lexemes_for text) (omega arith) in
    let text_long = length-for text in
    let last : done.to ≡ length whole - 1 = omega arith in
    let same = length-terminals whole in
    let within : length whole - 1 < length t = omega arith in
    let leads = leads_on rules t (begins start from) before final g.leads done.leads in
    record {
      building = done.building;
      ends = ends_front place list (lexemes_for text) ends less (ends_for text sound.spelled);
      reads = record { leads = subst (λ (n : ℕ). Leads rules t (begins start from) (record { stack = []; next = n; building = done.building })) last leads; before = within };
    }

-- where the token isn't a `:`, what follows changes no terminal up to it
front_with : (list more : List Lexeme) (place : ℕ) → place < length list → (a : AtPlace list place) → (own_terminal a.lexeme == COLON) ≡ false →
    Agree (suc place) (terminals_of list) (terminals_of (take (suc place) list ++ more))
front_with list more place less a other k near =
    let T = terminals_of list in
    let S = terminals_of (take (suc place) list ++ more) in
    let own : (others : List Lexeme) → terminal_before a.lexeme others ≡ own_terminal a.lexeme =
    λ others. ap (λ (b : Bool). cond b (colon_behind others) (own_terminal a.lexeme)) other in
    let here : slice_get T place ≡ slice_get S place =
    a.there ∙ (ap (λ (t : ℕ). Some t) (own a.others ∙ sym (own more)) ∙ sym (a.before more)) in
    elim (cases_lt k place) [
      | inl before ↦ front_same place list more (omega arith) k before
      | inr behind ↦ let same : place ≡ k = omega arith in subst (λ (n : ℕ). slice_get T n ≡ slice_get S n) same here
    ]

colon_is_one : (others : List Lexeme) → is_in (colon_behind others) colon_variants.of_token ≡ true
colon_is_one [] = refl
colon_is_one (next ∷ others) = one_before (own_terminal next)

before_is : (lexeme : Lexeme) (others : List Lexeme) → (own_terminal lexeme == COLON) ≡ true → terminal_before lexeme others ≡ colon_behind others
before_is lexeme others e = ap (λ (b : Bool). cond b (colon_behind others) (own_terminal lexeme)) e

-- a text goes on that has the part
abbrev pub GoesBehind : List Symbol → List Lexeme → ℕ → ℕ → Type 0
GoesBehind start list from place = (more : List Lexeme) × HasWhole start (take place list ++ more) from

-- behind a token that isn't a `:`
goes_plain : (start : List Symbol) (list : List Lexeme) (from place : ℕ) (stack : List Symbol) → Sound start → EndsOnce list → suc place < length list → (a : AtPlace list place) →
    (own_terminal a.lexeme == COLON) ≡ false → Reaches rules (terminals_of list) from start (suc place) stack → GoesBehind start list from (suc place)
goes_plain start list from place stack first ends less a other reaches =
    let sound = sound_reaches start (terminals_of list) from (suc place) stack first reaches in
    let more = lexemes_for (text_of completions stack) in
    let there = reaches_same rules (terminals_of list) (terminals_of (take (suc place) list ++ more)) from start (suc place) stack reaches
    (front_with list more place (omega arith) a other) in
    (more, completes start list from (suc place) stack ends less sound there)

-- behind a `:`
goes_colon : (start : List Symbol) (list : List Lexeme) (from place terminal : ℕ) (stack left : List Symbol) → Sound start → EndsOnce list → suc place < length list → (a : AtPlace list place) →
    (own_terminal a.lexeme == COLON) ≡ true → Reaches rules (terminals_of list) from start place stack → slice_get (terminals_of list) place ≡ Some terminal → Takes rules terminal stack left →
    GoesBehind start list from (suc place)
goes_colon start list from place terminal stack left first ends less a colon reaches there takes =
    let T = terminals_of list in
    let sound = sound_reaches start T from place stack first reaches in
    let is : terminal_before a.lexeme a.others ≡ terminal = some_one (terminal_before a.lexeme a.others) terminal (slice_get T place) a.there there in
    let one : is_in terminal colon_variants.of_token ≡ true =
    subst (λ (t : ℕ). is_in t colon_variants.of_token ≡ true) (sym (before_is a.lexeme a.others colon) ∙ is) (colon_is_one a.others) in
    let plain = other_variant colon_variants rules completions terminal COLON stack left (truth (all_end rules rules) all_rules_end) all_rules_vary one refl takes sound.kept in
    let f = fitting_variant colon_variants rules completions END stack plain.left all_rules_vary all_rules_complete plain.takes sound in
    let text = text_of completions f.left in
    let sound_left = sound_takes f.variant stack f.left f.takes sound in
    let more = lexemes_for text in
    let S = terminals_of (take (suc place) list ++ more) in
    let variant_there : slice_get S place ≡ Some f.variant =
    a.before more ∙ ap (λ (t : ℕ). Some t) (before_is a.lexeme more colon ∙ (colon_behind_for text sound_left.spelled ∙ f.before)) in
    let to_stack = reaches_same rules T S from start place stack reaches (front_same place list more (omega arith)) in
    (more, completes start list from (suc place) f.left ends less sound_left (further place f.variant stack f.left to_stack variant_there f.takes))

-- a text goes on up to where a reading of a list comes
pub part_goes : (n : ℕ) (start : List Symbol) (list : List Lexeme) (from place : ℕ) (r : Reading) → Sound start → EndsOnce list → Leads rules (terminals_of list) (begins start from) r →
    place ≡ from + n → place ≤ r.next → place < length list → GoesBehind start list from place
part_goes zero start list from place r first ends leads is le less =
    let same : from ≡ place = omega arith in
    subst (λ (k : ℕ). GoesBehind start list from k) same
    (lexemes_for (text_of completions start), completes start list from from start ends (omega arith) first at_first)
part_goes (suc n) start list from place r first ends leads is le less =
    let T = terminals_of list in
    let at = from + n in
    let reach = leads_reaches n rules T from start at r leads refl (omega arith) in
    let t = leads_takes rules T (record { stack = reach.stack; next = at; building = reach.building }) r reach.leads (omega arith) in
    let a = at_place at list (omega arith) in
    let inside : suc at < length list = omega arith in
    let P : Bool → Type 0 = λ b. (own_terminal a.lexeme == COLON) ≡ b → GoesBehind start list from (suc at) in
    let go : (b : Bool) → P b = λ b. elim b as P [
      | true ↦ λ e. goes_colon start list from at t.terminal reach.stack t.left first ends inside a e reach.reaches t.there t.takes
      | false ↦ λ e. goes_plain start list from at t.left first ends inside a e (further at t.terminal reach.stack t.left reach.reaches t.there t.takes)
    ] in
    let same : suc at ≡ place = omega arith in
    subst (λ (k : ℕ). GoesBehind start list from k) same (go (own_terminal a.lexeme == COLON) refl)

-- a reading that can't go on takes no terminal more
no_further : (start : List Symbol) (text : List ℕ) (from : ℕ) (r : Reading) (stack : List Symbol) → Leads rules text (begins start from) r → after rules text r ≡ None →
    Reaches rules text from start (suc r.next) stack → ⊥
no_further start text from r stack leads stuck reaches =
    let g = reaches_leads rules text from start (suc r.next) stack reaches in
    let s : Reading = record { stack = stack; next = suc r.next; building = g.building } in
    elim (one_way rules text (begins start from) r s leads g.leads) [
      | inl p ↦ let same = ap (λ (q : Reading). q.next) (no_way rules text r s stuck p) in omega arith
      | inr p ↦ let back = leads_next rules text s r p in omega arith
    ]

-- another list has the same terminal at a place where the front ends, or both have a `:` there
pub record SameThere (terminal other : ℕ) : Type 0 where
  pub either : (terminal ≡ other) ⊎ ((is_in terminal colon_variants.of_token ≡ true) × (is_in other colon_variants.of_token ≡ true))

same_there : (list more : List Lexeme) (place terminal other : ℕ) → place < length list → slice_get (terminals_of list) place ≡ Some terminal →
    slice_get (terminals_of (take (suc place) list ++ more)) place ≡ Some other → SameThere terminal other
same_there list more place terminal other less there other_there =
    let T = terminals_of list in
    let S = terminals_of (take (suc place) list ++ more) in
    let a = at_place place list less in
    let is : terminal_before a.lexeme a.others ≡ terminal = some_one (terminal_before a.lexeme a.others) terminal (slice_get T place) a.there there in
    let is_other : terminal_before a.lexeme more ≡ other = some_one (terminal_before a.lexeme more) other (slice_get S place) (a.before more) other_there in
    let P : Bool → Type 0 = λ b. (own_terminal a.lexeme == COLON) ≡ b → SameThere terminal other in
    let go : (b : Bool) → P b = λ b. elim b as P [
      | true ↦ λ e.
          let one : is_in terminal colon_variants.of_token ≡ true =
          subst (λ (t : ℕ). is_in t colon_variants.of_token ≡ true) (sym (before_is a.lexeme a.others e) ∙ is) (colon_is_one a.others) in
          let other_one : is_in other colon_variants.of_token ≡ true =
          subst (λ (t : ℕ). is_in t colon_variants.of_token ≡ true) (sym (before_is a.lexeme more e) ∙ is_other) (colon_is_one more) in
          record { either = inr (one, other_one) }
      | false ↦ λ e.
          let own : (others : List Lexeme) → terminal_before a.lexeme others ≡ own_terminal a.lexeme =
          λ others. ap (λ (b : Bool). cond b (colon_behind others) (own_terminal a.lexeme)) e in
          record { either = inl (sym is ∙ (own a.others ∙ (sym (own more) ∙ is_other))) }
    ] in
    go (own_terminal a.lexeme == COLON) refl

takes_too : (terminal other : ℕ) (stack left : List Symbol) → Sound stack → SameThere terminal other → Takes rules other stack left →
    (after_it : List Symbol) × Takes rules terminal stack after_it
takes_too terminal other stack left sound same takes = elim same.either [
  | inl e ↦ (left, subst (λ (t : ℕ). Takes rules t stack left) (sym e) takes)
  | inr p ↦
      let some = other_variant colon_variants rules completions other terminal stack left (truth (all_end rules rules) all_rules_end) all_rules_vary p.1 p.0 takes sound.kept in
      (some.left, some.takes)
]

finishes_too : (terminal other : ℕ) (stack : List Symbol) → Sound stack → SameThere terminal other → Finishes rules other stack → Finishes rules terminal stack
finishes_too terminal other stack sound same finishes = elim same.either [
  | inl e ↦ subst (λ (t : ℕ). Finishes rules t stack) (sym e) finishes
  | inr p ↦ finishing_variant colon_variants rules completions other terminal stack (truth (all_end rules rules) all_rules_end) all_rules_vary p.1 p.0 finishes sound.kept
]

-- where a reading of a list can't go on, no other text goes on that reads beyond the next token
pub reads_no_further : (start : List Symbol) (list more : List Lexeme) (from to : ℕ) (b : Building) (r : Reading) → Sound start → Leads rules (terminals_of list) (begins start from) r →
    after rules (terminals_of list) r ≡ None → r.next < length list → r.next < to →
    Reads rules start (terminals_of (take (suc r.next) list ++ more)) from to b → ⊥
reads_no_further start list more from to b r first leads stuck less beyond reads =
    let place = r.next in
    let T = terminals_of list in
    let S = terminals_of (take (suc place) list ++ more) in
    let final : Reading = record { stack = []; next = to; building = b } in
    let begun = leads_next rules T (begins start from) r leads in
    let reach = leads_reaches (place - from) rules S from start place final reads.leads (omega arith) (omega arith) in
    let t = leads_takes rules S (record { stack = reach.stack; next = place; building = reach.building }) final reach.leads beyond in
    let back = reaches_same rules S T from start place reach.stack reach.reaches (λ k near. sym (front_same place list more (omega arith) k near)) in
    let sound = sound_reaches start T from place reach.stack first back in
    let a = at_place place list less in
    let terminal = terminal_before a.lexeme a.others in
    let same = same_there list more place terminal t.terminal less a.there t.there in
    let takes = takes_too terminal t.terminal reach.stack t.left sound same t.takes in
    no_further start T from r takes.0 leads stuck (further place terminal reach.stack takes.0 back a.there takes.1)

terminal_at : (list : List Lexeme) (place : ℕ) → place < length list → (t : ℕ) × (slice_get (terminals_of list) place ≡ Some t)
terminal_at list place less = let a = at_place place list less in (terminal_before a.lexeme a.others, a.there)

-- nor one that reads up to it, where something is left to read
pub reads_no_end : (start : List Symbol) (list more : List Lexeme) (from to : ℕ) (b : Building) (r : Reading) → Sound start → Leads rules (terminals_of list) (begins start from) r →
    after rules (terminals_of list) r ≡ None → (r.stack ≡ [] → ⊥) → r.next < length list → to ≤ r.next →
    Reads rules start (terminals_of (take (suc r.next) list ++ more)) from to b → ⊥
reads_no_end start list more from to b r first leads stuck unread less le reads =
    let place = r.next in
    let T = terminals_of list in
    let S = terminals_of (take (suc place) list ++ more) in
    let final : Reading = record { stack = []; next = to; building = b } in
    let begun = leads_next rules S (begins start from) final reads.leads in
    let reach = leads_reaches (to - from) rules S from start to final reads.leads (omega arith) (omega arith) in
    let back = reaches_same rules S T from start to reach.stack reach.reaches (λ k near. sym (front_same place list more (omega arith) k (omega arith))) in
    let sound = sound_reaches start T from to reach.stack first back in
    let long = length-terminals list in
    let s_long = length-terminals (take (suc place) list ++ more) in
    let before_end = reads.before in
    let s_there = terminal_at (take (suc place) list ++ more) to (omega arith) in
    let t_there = terminal_at list to (omega arith) in
    let same : SameThere t_there.0 s_there.0 = elim (cases_lt to place) [
      | inl before ↦ record { either = inl (some_one t_there.0 s_there.0 (slice_get T to) t_there.1 (front_same place list more (omega arith) to before ∙ s_there.1)) }
      | inr behind ↦
          let at : to ≡ place = omega arith in
          same_there list more place t_there.0 s_there.0 less (ap (λ (n : ℕ). slice_get T n) (sym at) ∙ t_there.1) (ap (λ (n : ℕ). slice_get S n) (sym at) ∙ s_there.1)
    ] in
    let finishes = leads_finishes rules S s_there.0 (record { stack = reach.stack; next = to; building = reach.building }) final reach.leads refl refl s_there.1 in
    let too = finishes_too t_there.0 s_there.0 reach.stack sound same finishes in
    let g = reaches_leads rules T from start to reach.stack back in
    let f = finishes_leads rules T t_there.0 reach.stack too to g.building t_there.1 in
    let end : Reading = record { stack = []; next = to; building = f.building } in
    let own = leads_on rules T (begins start from) (record { stack = reach.stack; next = to; building = g.building }) end g.leads f.leads in
    elim (one_way rules T (begins start from) r end leads own) [
      | inl p ↦ unread (ap (λ (q : Reading). q.stack) (no_way rules T r end stuck p))
      | inr p ↦ unread (ap (λ (q : Reading). q.stack) (sym (no_way rules T end r refl p)))
    ]

-- a reading stays within the list
pub part_within : (start : List Symbol) (list : List Lexeme) (from : ℕ) (r : Reading) → Sound start → EndsOnce list → from < length list → Leads rules (terminals_of list) (begins start from) r → r.next < length list
part_within start list from r first ends less leads =
    let same = length-terminals list in
    let within = stays_within completions END rules (terminals_of list) from start r all_rules_complete first.fitting (last_terminal list ends) (omega arith) leads in
    omega arith

-- where something is left to read that can't go on, the token is wrong
stuck_part : (start : List Symbol) (list : List Lexeme) (from : ℕ) (r : Reading) → Sound start → EndsOnce list → from < length list → Leads rules (terminals_of list) (begins start from) r →
    after rules (terminals_of list) r ≡ None → (r.stack ≡ [] → ⊥) → IsWrongPart start list from r.next
stuck_part start list from r first ends less leads stuck unread =
    let within = part_within start list from r first ends less leads in
    let begun = leads_next rules (terminals_of list) (begins start from) r leads in
    let goes = part_goes (r.next - from) start list from r.next r first ends leads (omega arith) (omega arith) within in
    let whole = take r.next list ++ goes.0 in
    record {
      within = within;
      goes = (goes.0, length whole - 1, goes.1.building, record { ends = goes.1.ends; reads = goes.1.reads });
      stops = λ more to b part. elim (cases_lt r.next to) [
        | inl beyond ↦ reads_no_further start list more from to b r first leads stuck within beyond part.reads
        | inr before ↦ reads_no_end start list more from to b r first leads stuck unread within before part.reads
      ];
    }

-- a text of terminals goes on up to where a reading comes
terminals_go : (start : List Symbol) (list : List Lexeme) (from place : ℕ) (r : Reading) → Sound start → Leads rules (terminals_of list) (begins start from) r →
    from ≤ place → place ≤ r.next → place ≤ length (terminals_of list) → GoesOn rules start (take place (terminals_of list)) from
terminals_go start list from place r first leads late le inside =
    let T = terminals_of list in
    let reach = leads_reaches (place - from) rules T from start place r leads (omega arith) le in
    let sound = sound_reaches start T from place reach.stack first reach.reaches in
    let more = text_of completions reach.stack ++ (END ∷ []) in
    let S = take place T ++ more in
    let to_stack = reaches_same rules T S from start place reach.stack reach.reaches (front_agrees place T more inside) in
    let g = reaches_leads rules S from start place reach.stack to_stack in
    let before : Reading = record { stack = reach.stack; next = place; building = g.building } in
    let done = completed (bound_of completions reach.stack) completions END rules S reach.stack place g.building all_rules_complete (omega arith) sound.fitting (front_there place T more inside) in
    let final : Reading = record { stack = []; next = done.to; building = done.building } in
    (more, done.to, done.building, record { leads = leads_on rules S (begins start from) before final g.leads done.leads; before = slice_get_within S done.to END done.there })

-- where reading stops over terminals, a reading can't go on
pub record StopsReading (start : List Symbol) (list : List Lexeme) (from place : ℕ) : Type 0 where
  pub at : Reading
  pub leads : Leads rules (terminals_of list) (begins start from) at
  pub stuck : after rules (terminals_of list) at ≡ None
  pub unread : at.stack ≡ [] → ⊥
  pub next_is : at.next ≡ place

pub stops_reading : (start : List Symbol) (list : List Lexeme) (from place : ℕ) → Sound start → EndsOnce list → from < length list → IsWrong rules start (terminals_of list) from place →
    StopsReading start list from place
stops_reading start list from place first ends inside wrong =
    let T = terminals_of list in
    let n = stuck_somewhere (length T) rules T (begins start from) (truth (all_end rules rules) all_rules_end) (omega arith) in
    let r = n.at in
    let long = length-terminals list in
    let less = part_within start list from r first ends inside n.leads in
    let begun = leads_next rules T (begins start from) r n.leads in
    let unread : r.stack ≡ [] → ⊥ = λ empty.
    let is : r ≡ record { stack = []; next = r.next; building = r.building } = ap (λ (s : List Symbol). record { stack = s; next = r.next; building = r.building }) empty in
    not_wrong rules start T from r.next place r.building (record { leads = subst (λ (q : Reading). Leads rules T (begins start from) q) is n.leads; before = omega arith }) wrong in
    let not_before : r.next < place → ⊥ = λ before.
    let g = wrong.goes in
    let S = take place T ++ g.0 in
    let final : Reading = record { stack = []; next = g.1; building = g.2 } in
    let within = wrong.within in
    let near : Agree (suc r.next) T S = agree_less (suc r.next) place T S (omega arith) (front_agrees place T g.0 (omega arith)) in
    let to_r = leads_same rules T S (begins start from) r n.leads near in
    let stuck : after rules S r ≡ None = sym (after_same rules T S r near) ∙ n.stuck in
    elim (one_way rules S (begins start from) r final to_r g.3.leads) [
      | inl p ↦ unread (ap (λ (q : Reading). q.stack) (no_way rules S r final stuck p))
      | inr p ↦ unread (ap (λ (q : Reading). q.stack) (sym (no_way rules S final r refl p)))
    ] in
    let within = wrong.within in
    let not_behind : place < r.next → ⊥ = λ behind.
    elim (cases_lt place from) [
      | inl early ↦ wrong.ends (goes_shorter rules start T from (suc place) from (omega arith) (terminals_go start list from from r first n.leads (omega arith) (omega arith) (omega arith)))
      | inr late ↦ wrong.ends (terminals_go start list from (suc place) r first n.leads (omega arith) (omega arith) (omega arith))
    ] in
    record { at = r; leads = n.leads; stuck = n.stuck; unread = unread; next_is = omega (arith, not_before, not_behind) }

-- how the reading of a part ends over terminals, so it does over tokens
pub part_ends : (start : List Symbol) (list : List Lexeme) (from : ℕ) (older : List Built) (builder : Builder) (end : End) → Sound start → EndsOnce list → from < length list →
    Ends rules start (terminals_of list) from older builder end → PartEnds start list from older builder end
part_ends start list from older builder (ends.Read to) first once less e =
    record { building = e.building; part = record { ends = once; reads = e.reads }; flat = e.flat; holds = e.holds }
part_ends start list from older builder (ends.Wrong place) first once less e =
    let s = stops_reading start list from place first once less e.wrong in
    record { wrong = subst (IsWrongPart start list from) s.next_is (stuck_part start list from s.at first once less s.leads s.stuck s.unread); flat = e.flat }
part_ends start list from older builder (ends.Nested place) first once less e = e

pub if_part_ends : {E : Type 0} (start : List Symbol) (list : List Lexeme) (from : ℕ) (older : List Built) (builder : Builder) (result : Result End E) → Sound start → EndsOnce list → from < length list →
    IfOk result (λ end. Ends rules start (terminals_of list) from older builder end) → IfOk result (λ end. PartEnds start list from older builder end)
if_part_ends start list from older builder (Ok end) first once less e = part_ends start list from older builder end first once less e
if_part_ends start list from older builder (Err error) first once less e = e
