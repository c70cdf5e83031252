-- Rules without where they lie in memory.
use Rattle.std.specs.Prelude.{ℕ, Bool, List, map}
use Rattle.zw_grammar.specs.declared.grammar.Alternative.{Alternative}
use Rattle.zw_grammar.specs.declared.grammar.Rule.{Rule}
use Rattle.zw_grammar.specs.declared.grammar.Symbol.{Symbol}

-- one way to read a rule, and the terminals on which it is chosen; with none it is chosen on each
pub record PlainAlternative : Type 0 where
  pub first : List ℕ
  pub symbols : List Symbol

-- a rule, the most steps that it takes up to the next terminal or to its end, and whether it can be read without a terminal
pub record PlainRule : Type 0 where
  pub alternatives : List PlainAlternative
  pub steps : ℕ
  pub may_be_empty : Bool

abbrev pub plain_alternative : Alternative → PlainAlternative
plain_alternative alternative = record { first = alternative.first.items; symbols = alternative.symbols.items }

abbrev pub plain_rule : Rule → PlainRule
plain_rule rule = record { alternatives = map plain_alternative rule.alternatives.items; steps = rule.steps; may_be_empty = rule.may_be_empty }

abbrev pub plain : List Rule → List PlainRule
plain rules = map plain_rule rules
