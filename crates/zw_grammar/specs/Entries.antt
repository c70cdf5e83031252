-- The rules that the lines of a table spell: an alternative is what stands before its end, and a rule the alternatives before its own.
use Rattle.std.specs.Prelude.{ℕ, List, [], ◌∷◌, ◌++◌}
use Rattle.zw_grammar.specs.Plain.{PlainAlternative, PlainRule}
use Rattle.zw_grammar.specs.declared.grammar.Entry.{Entry}
use Rattle.zw_grammar.specs.declared.grammar.Entry.TheVariants.{On, Then, Alternative, Rule}
use Rattle.zw_grammar.specs.declared.grammar.Symbol.{Symbol}

-- the rules of these lines, behind the terminals and the symbols of an alternative and the alternatives of a rule that haven't ended
abbrev pub rules_behind : List ℕ → List Symbol → List PlainAlternative → List Entry → List PlainRule
rules_behind first symbols alternatives [] = []
rules_behind first symbols alternatives (On terminal ∷ rest) = rules_behind (first ++ terminal ∷ []) symbols alternatives rest
rules_behind first symbols alternatives (Then symbol ∷ rest) = rules_behind first (symbols ++ symbol ∷ []) alternatives rest
rules_behind first symbols alternatives (Alternative ∷ rest) = rules_behind [] [] (alternatives ++ record { first = first; symbols = symbols } ∷ []) rest
rules_behind first symbols alternatives (Rule steps may_be_empty ∷ rest) =
    record { alternatives = alternatives; steps = steps; may_be_empty = may_be_empty } ∷ rules_behind first symbols [] rest

abbrev pub rules_of : List Entry → List PlainRule
rules_of entries = rules_behind [] [] [] entries
