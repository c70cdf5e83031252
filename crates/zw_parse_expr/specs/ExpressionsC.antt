-- The rules of expressions c.
use Rattle.std.specs.Prelude.{List, [], ◌∷◌, true, false}
use Rattle.zw_tree.specs.declared.kind.NodeKind.TheVariants.{And, Equal, Greater, GreaterOrEqual, Less, LessOrEqual, NotEqual, Or}
use Rattle.zw_grammar.specs.declared.grammar.Mark.TheVariants.{Close, Enter, Leave, Wrap}
use Rattle.zw_grammar.specs.declared.grammar.Symbol.TheVariants.{Build, Read, Take}
use Rattle.zw_grammar.specs.Plain.{PlainRule}
use Rattle.zw_parse_expr.specs.declared.rule.TheConstants.{BITS_C, COMPARE_C, CONJUNCTION_C, DISJUNCTION_C, PREFIX_C, PRODUCT_C, SHIFT_C, SUM_C}
use Rattle.zw_parse_expr.specs.declared.terminal.TheConstants.{AND, BANG_EQUAL, EQUAL_EQUAL, GREATER, GREATER_EQUAL, LESS, LESS_EQUAL, OR}

-- the rule EXPR_C
abbrev pub expr_c : PlainRule
expr_c = record {
  alternatives =
      record { first = []; symbols = (Build (Enter 0) ∷ Read PREFIX_C ∷ Read PRODUCT_C ∷ Read SUM_C ∷ Read SHIFT_C ∷ Read BITS_C ∷ Read COMPARE_C ∷ Read CONJUNCTION_C ∷ Read DISJUNCTION_C ∷ Build Leave ∷ []) } ∷
      [];
  steps = 9;
  may_be_empty = false;
}

-- the rule DISJUNCTION_C
abbrev pub disjunction_c : PlainRule
disjunction_c = record {
  alternatives =
      record { first = (OR ∷ []); symbols = (Build (Wrap Or 1) ∷ Take OR ∷ Read PREFIX_C ∷ Read PRODUCT_C ∷ Read SUM_C ∷ Read SHIFT_C ∷ Read BITS_C ∷ Read COMPARE_C ∷ Read CONJUNCTION_C ∷ Build Close ∷ Read DISJUNCTION_C ∷ []) } ∷
      record { first = []; symbols = [] } ∷
      [];
  steps = 3;
  may_be_empty = true;
}

-- the rule CONJUNCTION_C
abbrev pub conjunction_c : PlainRule
conjunction_c = record {
  alternatives =
      record { first = (AND ∷ []); symbols = (Build (Wrap And 1) ∷ Take AND ∷ Read PREFIX_C ∷ Read PRODUCT_C ∷ Read SUM_C ∷ Read SHIFT_C ∷ Read BITS_C ∷ Read COMPARE_C ∷ Build Close ∷ Read CONJUNCTION_C ∷ []) } ∷
      record { first = []; symbols = [] } ∷
      [];
  steps = 3;
  may_be_empty = true;
}

-- the rule COMPARE_C
abbrev pub compare_c : PlainRule
compare_c = record {
  alternatives =
      record { first = (EQUAL_EQUAL ∷ []); symbols = (Build (Wrap Equal 1) ∷ Take EQUAL_EQUAL ∷ Read PREFIX_C ∷ Read PRODUCT_C ∷ Read SUM_C ∷ Read SHIFT_C ∷ Read BITS_C ∷ Build Close ∷ []) } ∷
      record { first = (BANG_EQUAL ∷ []); symbols = (Build (Wrap NotEqual 1) ∷ Take BANG_EQUAL ∷ Read PREFIX_C ∷ Read PRODUCT_C ∷ Read SUM_C ∷ Read SHIFT_C ∷ Read BITS_C ∷ Build Close ∷ []) } ∷
      record { first = (LESS ∷ []); symbols = (Build (Wrap Less 1) ∷ Take LESS ∷ Read PREFIX_C ∷ Read PRODUCT_C ∷ Read SUM_C ∷ Read SHIFT_C ∷ Read BITS_C ∷ Build Close ∷ []) } ∷
      record { first = (GREATER ∷ []); symbols = (Build (Wrap Greater 1) ∷ Take GREATER ∷ Read PREFIX_C ∷ Read PRODUCT_C ∷ Read SUM_C ∷ Read SHIFT_C ∷ Read BITS_C ∷ Build Close ∷ []) } ∷
      record { first = (LESS_EQUAL ∷ []); symbols = (Build (Wrap LessOrEqual 1) ∷ Take LESS_EQUAL ∷ Read PREFIX_C ∷ Read PRODUCT_C ∷ Read SUM_C ∷ Read SHIFT_C ∷ Read BITS_C ∷ Build Close ∷ []) } ∷
      record { first = (GREATER_EQUAL ∷ []); symbols = (Build (Wrap GreaterOrEqual 1) ∷ Take GREATER_EQUAL ∷ Read PREFIX_C ∷ Read PRODUCT_C ∷ Read SUM_C ∷ Read SHIFT_C ∷ Read BITS_C ∷ Build Close ∷ []) } ∷
      record { first = []; symbols = [] } ∷
      [];
  steps = 3;
  may_be_empty = true;
}

-- these rules, in the order of their numbers
abbrev pub expressions_c_rules : List PlainRule
expressions_c_rules = expr_c ∷ disjunction_c ∷ conjunction_c ∷ compare_c ∷ []
