-- Tests of a grammar: what holds of all grammars that pass them is proved once.
use Rattle.std.specs.Prelude.{ℕ, suc, ◌+◌, Bool, true, false, ◌&&◌, ◌||◌, not, nat_lt, List, [], ◌∷◌, Option, Some, None, slice_get, if◌then◌else◌}
use Rattle.std.specs.List.{list_all}
use Rattle.zw_grammar.specs.Plain.{PlainAlternative, PlainRule}
use Rattle.zw_grammar.specs.declared.grammar.Symbol.{Symbol}
use Rattle.zw_grammar.specs.declared.grammar.Symbol.TheVariants.{Take, Read, Build}

-- the most steps of a rule, and of what follows where the rule may be empty; a rule that isn't there ends the reading
abbrev pub steps_with : Option PlainRule → ℕ → ℕ
steps_with None following = 1
steps_with (Some rule) following = rule.steps + (if rule.may_be_empty then following else 0)

-- the most steps that reading these symbols takes up to the next terminal, or to their end
abbrev pub steps_of : List PlainRule → List Symbol → ℕ
steps_of rules [] = 0
steps_of rules (Take terminal ∷ rest) = 1
steps_of rules (Build mark ∷ rest) = suc (steps_of rules rest)
steps_of rules (Read number ∷ rest) = steps_with (slice_get rules number) (steps_of rules rest)

abbrev pub rule_may_be_empty : Option PlainRule → Bool
rule_may_be_empty None = false
rule_may_be_empty (Some rule) = rule.may_be_empty

-- these symbols can be read without a terminal
abbrev pub may_be_empty : List PlainRule → List Symbol → Bool
may_be_empty rules [] = true
may_be_empty rules (Take terminal ∷ rest) = false
may_be_empty rules (Build mark ∷ rest) = may_be_empty rules rest
may_be_empty rules (Read number ∷ rest) = rule_may_be_empty (slice_get rules number) && may_be_empty rules rest

-- an alternative takes fewer steps than its rule may take, and is empty only where the rule may be
abbrev pub alternative_ends : List PlainRule → PlainRule → PlainAlternative → Bool
alternative_ends rules rule alternative =
    nat_lt (steps_of rules alternative.symbols) rule.steps && (not (may_be_empty rules alternative.symbols) || rule.may_be_empty)

-- no rule comes back to itself without a terminal: the steps up to the next terminal have a bound
abbrev pub all_end : List PlainRule → List PlainRule → Bool
all_end rules some = list_all (λ rule. list_all (alternative_ends rules rule) rule.alternatives) some
