-- Terminals that are one token, told apart by what stands behind it: a test of a grammar. Where it is passed, a text that goes on
-- with one of them goes on with each, and with one before what fits it.
use Rattle.std.specs.Prelude.{◌≡◌, ℕ, suc, Bool, true, false, ◌&&◌, ◌||◌, not, ◌==◌, List, [], ◌∷◌, Option, Some, None, slice_get, if◌then◌else◌}
use Rattle.std.specs.List.{list_all, list_any}
use Rattle.zw_grammar.specs.Plain.{PlainAlternative, PlainRule}
use Rattle.zw_grammar.specs.declared.grammar.Symbol.{Symbol}
use Rattle.zw_grammar.specs.declared.grammar.Symbol.TheVariants.{Take, Read, Build}
use Rattle.zw_grammar.specs.Completions.{Completion, text_of, first_of}
use Rattle.zw_grammar.specs.Reading.{is_first, first_choice}

-- the terminals of the token, one of them, which of them stands before a terminal, and which other terminals a token can be. By
-- their numbers: the rules that take one of them and nothing else, those that take each, those that take each where what follows
-- does, and those behind which all that follows has to take each
pub record Variants : Type 0 where
  pub of_token : List ℕ
  pub plain : ℕ
  pub before : ℕ → ℕ
  pub single : ℕ → Bool
  pub alone : List ℕ
  pub takes : List ℕ
  pub passes : List ℕ
  pub wants : List ℕ

abbrev pub is_in : ℕ → List ℕ → Bool
is_in number list = list_any (λ other. other == number) list

-- these symbols take the variant, where what follows them does if this is true
abbrev pub accepts : Variants → ℕ → List Symbol → Bool → Bool
accepts v k [] behind = behind
accepts v k (Take terminal ∷ rest) behind = terminal == k
accepts v k (Build mark ∷ rest) behind = accepts v k rest behind
accepts v k (Read number ∷ rest) behind = is_in number v.takes || (is_in number v.passes && accepts v k rest behind)

abbrev pub all_accept : Variants → List Symbol → Bool → Bool
all_accept v symbols behind = list_all (λ k. accepts v k symbols behind) v.of_token

-- no variant is asked for by name, and what wants it stands before what takes each
abbrev pub is_kept : Variants → List Symbol → Bool → Bool
is_kept v [] behind = true
is_kept v (Take terminal ∷ rest) behind = not (is_in terminal v.of_token) && is_kept v rest behind
is_kept v (Build mark ∷ rest) behind = is_kept v rest behind
is_kept v (Read number ∷ rest) behind = (not (is_in number v.wants) || all_accept v rest behind) && is_kept v rest behind

-- the same behind a first terminal
abbrev pub opens : Variants → List Symbol → Bool → Bool
opens v [] behind = true
opens v (Take terminal ∷ rest) behind = is_kept v rest behind
opens v (Build mark ∷ rest) behind = opens v rest behind
opens v (Read number ∷ rest) behind = is_kept v (Read number ∷ rest) behind

-- each terminal of the text can be a token before what follows it
abbrev pub may_precede : Variants → ℕ → ℕ → Bool
may_precede v terminal next = if is_in terminal v.of_token then v.before next == terminal else v.single terminal

abbrev pub is_spelled : Variants → List ℕ → ℕ → Bool
is_spelled v [] behind = true
is_spelled v (terminal ∷ rest) behind = may_precede v terminal (first_of rest behind) && is_spelled v rest behind

-- these symbols are one terminal
abbrev pub is_one : List Symbol → Bool
is_one [] = false
is_one (Take terminal ∷ []) = true
is_one (Take terminal ∷ other ∷ rest) = false
is_one (Build mark ∷ rest) = false
is_one (Read number ∷ rest) = false

abbrev pub takes_only : ℕ → List Symbol → Bool
takes_only k [] = false
takes_only k (Take terminal ∷ []) = terminal == k
takes_only k (Take terminal ∷ other ∷ rest) = false
takes_only k (Build mark ∷ rest) = false
takes_only k (Read number ∷ rest) = false

-- these symbols begin with this terminal
abbrev pub takes_now : ℕ → List Symbol → Bool
takes_now k [] = false
takes_now k (Take terminal ∷ rest) = terminal == k
takes_now k (Build mark ∷ rest) = takes_now k rest
takes_now k (Read number ∷ rest) = false

-- the test holds of what was chosen
abbrev pub of_choice : (List Symbol → Bool) → Option (List Symbol) → Bool
of_choice test None = false
of_choice test (Some symbols) = test symbols

abbrev pub of_choice_if : (List Symbol → Bool) → Option (List Symbol) → Bool
of_choice_if test None = true
of_choice_if test (Some symbols) = test symbols

-- which of the alternatives is chosen
abbrev pub place_of : List PlainAlternative → ℕ → ℕ
place_of [] terminal = 0
place_of (alternative ∷ others) terminal = if is_first alternative.first terminal then 0 else suc (place_of others terminal)

-- on the variant the rule does what it does on the plain one, or takes it at once where the plain one is left to what follows
abbrev pub is_like_plain : Variants → ℕ → PlainRule → ℕ → Bool
is_like_plain v number rule k =
    place_of rule.alternatives k == place_of rule.alternatives v.plain
    || ((is_in number v.wants && is_in number v.passes) && of_choice (takes_now k) (first_choice rule.alternatives k))

abbrev pub is_alike : Variants → ℕ → PlainRule → Bool
is_alike v number rule =
    of_choice_if (λ symbols. is_kept v symbols (is_in number v.wants)) (first_choice rule.alternatives v.plain)
    && list_all (is_like_plain v number rule) v.of_token

abbrev pub is_alone : Variants → PlainRule → Bool
is_alone v rule =
    list_all (λ alternative. is_one alternative.symbols) rule.alternatives
    && list_all (λ k. of_choice (takes_only k) (first_choice rule.alternatives k)) v.of_token

abbrev pub accepts_by : Variants → PlainRule → Bool → Bool
accepts_by v rule behind = list_all (λ k. of_choice (λ symbols. accepts v k symbols behind) (first_choice rule.alternatives k)) v.of_token

abbrev pub of_rule : (PlainRule → Bool) → Option PlainRule → Bool
of_rule test None = false
of_rule test (Some rule) = test rule

-- the rules with these numbers take each variant, where what follows them does if this is true
abbrev pub rules_accept : Variants → List PlainRule → Bool → List ℕ → Bool
rules_accept v rules behind numbers = list_all (λ number. of_rule (λ rule. accepts_by v rule behind) (slice_get rules number)) numbers

abbrev pub rule_varies : Variants → ℕ → PlainRule → Bool
rule_varies v number rule =
    list_all (λ alternative. opens v alternative.symbols (is_in number v.wants)) rule.alternatives
    && (if is_in number v.alone then is_alone v rule else is_alike v number rule)

abbrev pub all_vary : Variants → ℕ → List PlainRule → Bool
all_vary v number [] = true
all_vary v number (rule ∷ rules) = rule_varies v number rule && all_vary v (suc number) rules

-- before each terminal that may stand behind the rule, what its alternatives are completed by can be tokens
abbrev pub rule_is_spelled : Variants → List Completion → ℕ → PlainRule → Completion → Bool
rule_is_spelled v cs number rule completion =
    is_in number v.alone
    || list_all (λ behind. list_all (λ alternative. is_spelled v (text_of cs alternative.symbols) behind) rule.alternatives) completion.behind

abbrev pub all_spelled : Variants → List Completion → ℕ → List PlainRule → List Completion → Bool
all_spelled v cs number [] [] = true
all_spelled v cs number [] (c ∷ others) = false
all_spelled v cs number (r ∷ rules) [] = false
all_spelled v cs number (r ∷ rules) (c ∷ others) = rule_is_spelled v cs number r c && all_spelled v cs (suc number) rules others

-- the grammar passes the test
pub record Vary (rules : List PlainRule) (cs : List Completion) (v : Variants) : Type 0 where
  pub all : all_vary v 0 rules ≡ true
  pub taking : rules_accept v rules false v.takes ≡ true
  pub passing : rules_accept v rules true v.passes ≡ true
  pub spelled : all_spelled v cs 0 rules cs ≡ true
  pub one_before : (next : ℕ) → is_in (v.before next) v.of_token ≡ true
  pub plain_one : is_in v.plain v.of_token ≡ true
