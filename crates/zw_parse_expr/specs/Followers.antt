-- The rules of the `:` of labels.
use Rattle.std.specs.Prelude.{List, [], ◌∷◌, true, false}
use Rattle.zw_grammar.specs.declared.grammar.Symbol.TheVariants.{Take}
use Rattle.zw_grammar.specs.Plain.{PlainRule}
use Rattle.zw_parse_expr.specs.declared.terminal.TheConstants.{COLON, COLON_NAME, COLON_TARGET}

-- the rule LABEL_COLON
abbrev pub label_colon : PlainRule
label_colon = record {
  alternatives =
      record { first = (COLON_TARGET ∷ []); symbols = (Take COLON_TARGET ∷ []) } ∷
      record { first = (COLON_NAME ∷ []); symbols = (Take COLON_NAME ∷ []) } ∷
      record { first = []; symbols = (Take COLON ∷ []) } ∷
      [];
  steps = 2;
  may_be_empty = false;
}

-- the rule BREAK_COLON
abbrev pub break_colon : PlainRule
break_colon = record {
  alternatives =
      record { first = (COLON_TARGET ∷ []); symbols = (Take COLON_TARGET ∷ []) } ∷
      record { first = (COLON_NAME ∷ []); symbols = (Take COLON_NAME ∷ []) } ∷
      record { first = []; symbols = (Take COLON ∷ []) } ∷
      [];
  steps = 2;
  may_be_empty = false;
}

-- these rules, in the order of their numbers
abbrev pub followers_rules : List PlainRule
followers_rules = label_colon ∷ break_colon ∷ []
