-- Each front of a text that was read can be completed: a test of a grammar, by a text of each rule.
use Rattle.std.specs.Prelude.{◌≡◌, ℕ, suc, ◌+◌, Bool, true, false, ◌&&◌, not, ◌==◌, nat_lt, List, [], ◌∷◌, ◌++◌, Option, Some, None, slice_get}
use Rattle.std.specs.List.{list_all, list_any}
use Rattle.zw_grammar.specs.Plain.{PlainRule}
use Rattle.zw_grammar.specs.declared.grammar.Symbol.{Symbol}
use Rattle.zw_grammar.specs.declared.grammar.Symbol.TheVariants.{Take, Read, Build}
use Rattle.zw_grammar.specs.Reading.{first_choice}

-- how a rule can be completed: a text of it, a bound on the steps that reading the text takes, and the terminals that then may stand
-- behind it, where all that follows is completed so too
pub record Completion : Type 0 where
  pub text : List ℕ
  pub steps : ℕ
  pub behind : List ℕ

-- the text by which these symbols are completed
abbrev pub text_at : Option Completion → List ℕ
text_at None = []
text_at (Some completion) = completion.text

abbrev pub text_of : List Completion → List Symbol → List ℕ
text_of completions [] = []
text_of completions (Take terminal ∷ rest) = terminal ∷ text_of completions rest
text_of completions (Build mark ∷ rest) = text_of completions rest
text_of completions (Read number ∷ rest) = text_at (slice_get completions number) ++ text_of completions rest

-- a bound on the steps that it takes
abbrev pub steps_at : Option Completion → ℕ
steps_at None = 0
steps_at (Some completion) = completion.steps

abbrev pub bound_of : List Completion → List Symbol → ℕ
bound_of completions [] = 0
bound_of completions (Take terminal ∷ rest) = suc (bound_of completions rest)
bound_of completions (Build mark ∷ rest) = suc (bound_of completions rest)
bound_of completions (Read number ∷ rest) = steps_at (slice_get completions number) + bound_of completions rest

-- the first terminal, or what stands behind where there is none
abbrev pub first_of : List ℕ → ℕ → ℕ
first_of [] behind = behind
first_of (terminal ∷ others) behind = terminal

abbrev pub behind_at : Option Completion → ℕ → Bool
behind_at None terminal = false
behind_at (Some completion) terminal = list_any (λ other. other == terminal) completion.behind

-- before this terminal, what follows each rule of these symbols begins with a terminal that may stand behind the rule, and none of
-- them takes the end of the text
abbrev pub fits : List Completion → ℕ → List Symbol → ℕ → Bool
fits completions end [] behind = true
fits completions end (Take terminal ∷ rest) behind = not (terminal == end) && fits completions end rest behind
fits completions end (Build mark ∷ rest) behind = fits completions end rest behind
fits completions end (Read number ∷ rest) behind =
    behind_at (slice_get completions number) (first_of (text_of completions rest) behind) && fits completions end rest behind

abbrev pub is_same : List ℕ → List ℕ → Bool
is_same [] [] = true
is_same [] (y ∷ ys) = false
is_same (x ∷ xs) [] = false
is_same (x ∷ xs) (y ∷ ys) = x == y && is_same xs ys

-- these symbols complete a rule by its text
abbrev pub completes_by : List Completion → Completion → Option (List Symbol) → Bool
completes_by completions completion None = false
completes_by completions completion (Some symbols) =
    is_same (text_of completions symbols) completion.text && nat_lt (bound_of completions symbols) completion.steps

-- before each terminal that may stand behind the rule, it is read as its text says, and each of its alternatives fits
abbrev pub rule_completes : List Completion → ℕ → PlainRule → Completion → Bool
rule_completes completions end rule completion =
    list_all (λ behind.
    completes_by completions completion (first_choice rule.alternatives (first_of completion.text behind))
    && list_all (λ alternative. fits completions end alternative.symbols behind) rule.alternatives) completion.behind

abbrev pub all_complete : List Completion → ℕ → List PlainRule → List Completion → Bool
all_complete completions end [] [] = true
all_complete completions end [] (c ∷ cs) = false
all_complete completions end (r ∷ rs) [] = false
all_complete completions end (r ∷ rs) (c ∷ cs) = rule_completes completions end r c && all_complete completions end rs cs

-- the rules can be completed, and so can these symbols before the end of a text; no rule takes that end
pub record CanComplete (rules : List PlainRule) (start : List Symbol) (end : ℕ) : Type 0 where
  pub completions : List Completion
  pub all : all_complete completions end rules completions ≡ true
  pub begins : fits completions end start end ≡ true
