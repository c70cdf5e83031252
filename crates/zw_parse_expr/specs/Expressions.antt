-- The rules of expressions.
use Rattle.std.specs.Prelude.{List, [], ◌∷◌, true, false}
use Rattle.zw_tree.specs.declared.kind.NodeKind.TheVariants.{And, Equal, Greater, GreaterOrEqual, Less, LessOrEqual, NotEqual, Or}
use Rattle.zw_grammar.specs.declared.grammar.Mark.TheVariants.{Close, Enter, Leave, Wrap}
use Rattle.zw_grammar.specs.declared.grammar.Symbol.TheVariants.{Build, Read, Take}
use Rattle.zw_grammar.specs.Plain.{PlainRule}
use Rattle.zw_parse_expr.specs.declared.rule.TheConstants.{BITS, COMPARE, CONJUNCTION, DISJUNCTION, PREFIX, PRODUCT, SHIFT, SUM}
use Rattle.zw_parse_expr.specs.declared.terminal.TheConstants.{AND, BANG_EQUAL, EQUAL_EQUAL, GREATER, GREATER_EQUAL, LESS, LESS_EQUAL, OR}

-- the rule EXPR
abbrev pub expr : PlainRule
expr = record {
  alternatives =
      record { first = []; symbols = (Build (Enter 0) ∷ Read PREFIX ∷ Read PRODUCT ∷ Read SUM ∷ Read SHIFT ∷ Read BITS ∷ Read COMPARE ∷ Read CONJUNCTION ∷ Read DISJUNCTION ∷ Build Leave ∷ []) } ∷
      [];
  steps = 9;
  may_be_empty = false;
}

-- the rule DISJUNCTION
abbrev pub disjunction : PlainRule
disjunction = record {
  alternatives =
      record { first = (OR ∷ []); symbols = (Build (Wrap Or 1) ∷ Take OR ∷ Read PREFIX ∷ Read PRODUCT ∷ Read SUM ∷ Read SHIFT ∷ Read BITS ∷ Read COMPARE ∷ Read CONJUNCTION ∷ Build Close ∷ Read DISJUNCTION ∷ []) } ∷
      record { first = []; symbols = [] } ∷
      [];
  steps = 3;
  may_be_empty = true;
}

-- the rule CONJUNCTION
abbrev pub conjunction : PlainRule
conjunction = record {
  alternatives =
      record { first = (AND ∷ []); symbols = (Build (Wrap And 1) ∷ Take AND ∷ Read PREFIX ∷ Read PRODUCT ∷ Read SUM ∷ Read SHIFT ∷ Read BITS ∷ Read COMPARE ∷ Build Close ∷ Read CONJUNCTION ∷ []) } ∷
      record { first = []; symbols = [] } ∷
      [];
  steps = 3;
  may_be_empty = true;
}

-- the rule COMPARE
abbrev pub compare : PlainRule
compare = record {
  alternatives =
      record { first = (EQUAL_EQUAL ∷ []); symbols = (Build (Wrap Equal 1) ∷ Take EQUAL_EQUAL ∷ Read PREFIX ∷ Read PRODUCT ∷ Read SUM ∷ Read SHIFT ∷ Read BITS ∷ Build Close ∷ []) } ∷
      record { first = (BANG_EQUAL ∷ []); symbols = (Build (Wrap NotEqual 1) ∷ Take BANG_EQUAL ∷ Read PREFIX ∷ Read PRODUCT ∷ Read SUM ∷ Read SHIFT ∷ Read BITS ∷ Build Close ∷ []) } ∷
      record { first = (LESS ∷ []); symbols = (Build (Wrap Less 1) ∷ Take LESS ∷ Read PREFIX ∷ Read PRODUCT ∷ Read SUM ∷ Read SHIFT ∷ Read BITS ∷ Build Close ∷ []) } ∷
      record { first = (GREATER ∷ []); symbols = (Build (Wrap Greater 1) ∷ Take GREATER ∷ Read PREFIX ∷ Read PRODUCT ∷ Read SUM ∷ Read SHIFT ∷ Read BITS ∷ Build Close ∷ []) } ∷
      record { first = (LESS_EQUAL ∷ []); symbols = (Build (Wrap LessOrEqual 1) ∷ Take LESS_EQUAL ∷ Read PREFIX ∷ Read PRODUCT ∷ Read SUM ∷ Read SHIFT ∷ Read BITS ∷ Build Close ∷ []) } ∷
      record { first = (GREATER_EQUAL ∷ []); symbols = (Build (Wrap GreaterOrEqual 1) ∷ Take GREATER_EQUAL ∷ Read PREFIX ∷ Read PRODUCT ∷ Read SUM ∷ Read SHIFT ∷ Read BITS ∷ Build Close ∷ []) } ∷
      record { first = []; symbols = [] } ∷
      [];
  steps = 3;
  may_be_empty = true;
}

-- these rules, in the order of their numbers
abbrev pub expressions_rules : List PlainRule
expressions_rules = expr ∷ disjunction ∷ conjunction ∷ compare ∷ []
