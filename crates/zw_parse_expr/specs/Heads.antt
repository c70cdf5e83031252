-- The rules of heads.
use Rattle.std.specs.Prelude.{List, [], ◌∷◌, true, false}
use Rattle.zw_tree.specs.declared.kind.NodeKind.TheVariants.{Capture, ContinueExpression, ForRange, PointerCapture}
use Rattle.zw_grammar.specs.declared.grammar.Mark.TheVariants.{Close, Open, Wrap}
use Rattle.zw_grammar.specs.declared.grammar.Symbol.TheVariants.{Build, Read, Take}
use Rattle.zw_grammar.specs.Plain.{PlainRule}
use Rattle.zw_parse_expr.specs.declared.rule.TheConstants.{ANY_COLON, ASSIGN, BINDING, CAPTURE, CONTINUE_EXPR, EXPR, FOR_CAPTURE, FOR_CAPTURES, FOR_END, FOR_OPERANDS, FOR_RANGE, MORE_FOR_CAPTURES, MORE_FOR_OPERANDS}
use Rattle.zw_parse_expr.specs.declared.terminal.TheConstants.{COMMA, DOT_DOT, FOR, IF, L_PAREN, PIPE, R_PAREN, STAR, WHILE}
use Rattle.zw_parse_expr.specs.Classes.{colons}

-- the rule IF_HEAD
abbrev pub if_head : PlainRule
if_head = record {
  alternatives =
      record { first = []; symbols = (Take IF ∷ Take L_PAREN ∷ Read EXPR ∷ Take R_PAREN ∷ Read CAPTURE ∷ []) } ∷
      [];
  steps = 2;
  may_be_empty = false;
}

-- the rule WHILE_HEAD
abbrev pub while_head : PlainRule
while_head = record {
  alternatives =
      record { first = []; symbols = (Take WHILE ∷ Take L_PAREN ∷ Read EXPR ∷ Take R_PAREN ∷ Read CAPTURE ∷ Read CONTINUE_EXPR ∷ []) } ∷
      [];
  steps = 2;
  may_be_empty = false;
}

-- the rule CONTINUE_EXPR
abbrev pub continue_expr : PlainRule
continue_expr = record {
  alternatives =
      record { first = colons; symbols = (Build (Open ContinueExpression 0) ∷ Read ANY_COLON ∷ Take L_PAREN ∷ Read ASSIGN ∷ Take R_PAREN ∷ Build Close ∷ []) } ∷
      record { first = []; symbols = [] } ∷
      [];
  steps = 4;
  may_be_empty = true;
}

-- the rule FOR_HEAD
abbrev pub for_head : PlainRule
for_head = record {
  alternatives =
      record { first = []; symbols = (Take FOR ∷ Take L_PAREN ∷ Read FOR_OPERANDS ∷ Take R_PAREN ∷ Take PIPE ∷ Read FOR_CAPTURES ∷ Take PIPE ∷ []) } ∷
      [];
  steps = 2;
  may_be_empty = false;
}

-- the rule FOR_OPERANDS
abbrev pub for_operands : PlainRule
for_operands = record {
  alternatives =
      record { first = (R_PAREN ∷ []); symbols = [] } ∷
      record { first = []; symbols = (Read EXPR ∷ Read FOR_RANGE ∷ Read MORE_FOR_OPERANDS ∷ []) } ∷
      [];
  steps = 10;
  may_be_empty = true;
}

-- the rule MORE_FOR_OPERANDS
abbrev pub more_for_operands : PlainRule
more_for_operands = record {
  alternatives =
      record { first = (COMMA ∷ []); symbols = (Take COMMA ∷ Read FOR_OPERANDS ∷ []) } ∷
      record { first = []; symbols = [] } ∷
      [];
  steps = 2;
  may_be_empty = true;
}

-- the rule FOR_RANGE
abbrev pub for_range : PlainRule
for_range = record {
  alternatives =
      record { first = (DOT_DOT ∷ []); symbols = (Build (Wrap ForRange 1) ∷ Take DOT_DOT ∷ Read FOR_END ∷ Build Close ∷ []) } ∷
      record { first = []; symbols = [] } ∷
      [];
  steps = 3;
  may_be_empty = true;
}

-- the rule FOR_END
abbrev pub for_end : PlainRule
for_end = record {
  alternatives =
      record { first = (COMMA ∷ R_PAREN ∷ []); symbols = [] } ∷
      record { first = []; symbols = (Read EXPR ∷ []) } ∷
      [];
  steps = 10;
  may_be_empty = true;
}

-- the rule FOR_CAPTURES
abbrev pub for_captures : PlainRule
for_captures = record {
  alternatives =
      record { first = (PIPE ∷ []); symbols = [] } ∷
      record { first = []; symbols = (Read FOR_CAPTURE ∷ Read MORE_FOR_CAPTURES ∷ []) } ∷
      [];
  steps = 7;
  may_be_empty = true;
}

-- the rule MORE_FOR_CAPTURES
abbrev pub more_for_captures : PlainRule
more_for_captures = record {
  alternatives =
      record { first = (COMMA ∷ []); symbols = (Take COMMA ∷ Read FOR_CAPTURES ∷ []) } ∷
      record { first = []; symbols = [] } ∷
      [];
  steps = 2;
  may_be_empty = true;
}

-- the rule FOR_CAPTURE
abbrev pub for_capture : PlainRule
for_capture = record {
  alternatives =
      record { first = (STAR ∷ []); symbols = (Build (Open PointerCapture 0) ∷ Take STAR ∷ Read BINDING ∷ Build Close ∷ []) } ∷
      record { first = []; symbols = (Build (Open Capture 0) ∷ Read BINDING ∷ Build Close ∷ []) } ∷
      [];
  steps = 6;
  may_be_empty = false;
}

-- these rules, in the order of their numbers
abbrev pub heads_rules : List PlainRule
heads_rules = if_head ∷ while_head ∷ continue_expr ∷ for_head ∷ for_operands ∷ more_for_operands ∷ for_range ∷ for_end ∷ for_captures ∷ more_for_captures ∷ for_capture ∷ []
