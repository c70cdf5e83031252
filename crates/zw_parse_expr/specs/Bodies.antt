-- The rules of bodies.
use Rattle.std.specs.Prelude.{List, [], ◌∷◌, true, false}
use Rattle.zw_tree.specs.declared.kind.NodeKind.TheVariants.{Else, Label, Name, QuotedName}
use Rattle.zw_grammar.specs.declared.grammar.Mark.TheVariants.{Close, Enter, Leave, Open, Word}
use Rattle.zw_grammar.specs.declared.grammar.Symbol.TheVariants.{Build, Read, Take}
use Rattle.zw_grammar.specs.Plain.{PlainRule}
use Rattle.zw_parse_expr.specs.declared.rule.TheConstants.{ANY_NAME, ASSIGN, ASSIGN_REST, BITS, BLOCK, BODIED_LABEL, BODIED_NAME, BODY_END, BODY_LABEL, BODY_NAME, COMPARE, CONJUNCTION, DISJUNCTION, ELSE_PART, ELSE_STATEMENT, LABELLED_BLOCK, LABELLED_LOOP, LABEL_COLON, LOOP_ASSIGN, NAME_ASSIGN, PLAIN_CAPTURE, PRODUCT, SHIFT, STATEMENT, SUM}
use Rattle.zw_parse_expr.specs.declared.terminal.TheConstants.{ELSE, L_BRACE, NAME, QUOTED, SEMICOLON}
use Rattle.zw_parse_expr.specs.Classes.{colons}

-- the rule BODIED
abbrev pub bodied : PlainRule
bodied = record {
  alternatives =
      record { first = (L_BRACE ∷ []); symbols = (Read BLOCK ∷ []) } ∷
      record { first = (NAME ∷ QUOTED ∷ []); symbols = (Read ANY_NAME ∷ Read BODIED_NAME ∷ []) } ∷
      record { first = []; symbols = (Read ASSIGN ∷ Take SEMICOLON ∷ []) } ∷
      [];
  steps = 11;
  may_be_empty = false;
}

-- the rule BODIED_NAME
abbrev pub bodied_name : PlainRule
bodied_name = record {
  alternatives =
      record { first = colons; symbols = (Build (Open Label 1) ∷ Build (Word NAME Name QuotedName 1) ∷ Read LABEL_COLON ∷ Build Close ∷ Read BODIED_LABEL ∷ []) } ∷
      record { first = []; symbols = (Read NAME_ASSIGN ∷ Take SEMICOLON ∷ []) } ∷
      [];
  steps = 39;
  may_be_empty = false;
}

-- the rule BODIED_LABEL
abbrev pub bodied_label : PlainRule
bodied_label = record {
  alternatives =
      record { first = (L_BRACE ∷ []); symbols = (Read LABELLED_BLOCK ∷ []) } ∷
      record { first = []; symbols = (Read LOOP_ASSIGN ∷ Take SEMICOLON ∷ []) } ∷
      [];
  steps = 7;
  may_be_empty = false;
}

-- the rule LOOP_ASSIGN
abbrev pub loop_assign : PlainRule
loop_assign = record {
  alternatives =
      record { first = []; symbols = (Build (Enter 2) ∷ Read LABELLED_LOOP ∷ Read PRODUCT ∷ Read SUM ∷ Read SHIFT ∷ Read BITS ∷ Read COMPARE ∷ Read CONJUNCTION ∷ Read DISJUNCTION ∷ Build Leave ∷ Read ASSIGN_REST ∷ []) } ∷
      [];
  steps = 6;
  may_be_empty = false;
}

-- the rule BODY
abbrev pub body : PlainRule
body = record {
  alternatives =
      record { first = (L_BRACE ∷ []); symbols = (Read BLOCK ∷ Read ELSE_STATEMENT ∷ []) } ∷
      record { first = (NAME ∷ QUOTED ∷ []); symbols = (Read ANY_NAME ∷ Read BODY_NAME ∷ []) } ∷
      record { first = []; symbols = (Read ASSIGN ∷ Read BODY_END ∷ []) } ∷
      [];
  steps = 11;
  may_be_empty = false;
}

-- the rule BODY_NAME
abbrev pub body_name : PlainRule
body_name = record {
  alternatives =
      record { first = colons; symbols = (Build (Open Label 1) ∷ Build (Word NAME Name QuotedName 1) ∷ Read LABEL_COLON ∷ Build Close ∷ Read BODY_LABEL ∷ []) } ∷
      record { first = []; symbols = (Read NAME_ASSIGN ∷ Read BODY_END ∷ []) } ∷
      [];
  steps = 42;
  may_be_empty = false;
}

-- the rule BODY_LABEL
abbrev pub body_label : PlainRule
body_label = record {
  alternatives =
      record { first = (L_BRACE ∷ []); symbols = (Read LABELLED_BLOCK ∷ Read ELSE_STATEMENT ∷ []) } ∷
      record { first = []; symbols = (Read LOOP_ASSIGN ∷ Read BODY_END ∷ []) } ∷
      [];
  steps = 7;
  may_be_empty = false;
}

-- the rule BODY_END
abbrev pub body_end : PlainRule
body_end = record {
  alternatives =
      record { first = (ELSE ∷ []); symbols = (Read ELSE_PART ∷ []) } ∷
      record { first = []; symbols = (Take SEMICOLON ∷ []) } ∷
      [];
  steps = 4;
  may_be_empty = false;
}

-- the rule ELSE_STATEMENT
abbrev pub else_statement : PlainRule
else_statement = record {
  alternatives =
      record { first = (ELSE ∷ []); symbols = (Read ELSE_PART ∷ []) } ∷
      record { first = []; symbols = [] } ∷
      [];
  steps = 4;
  may_be_empty = true;
}

-- the rule ELSE_PART
abbrev pub else_part : PlainRule
else_part = record {
  alternatives =
      record { first = []; symbols = (Build (Open Else 0) ∷ Take ELSE ∷ Read PLAIN_CAPTURE ∷ Read STATEMENT ∷ Build Close ∷ []) } ∷
      [];
  steps = 3;
  may_be_empty = false;
}

-- these rules, in the order of their numbers
abbrev pub bodies_rules : List PlainRule
bodies_rules = bodied ∷ bodied_name ∷ bodied_label ∷ loop_assign ∷ body ∷ body_name ∷ body_label ∷ body_end ∷ else_statement ∷ else_part ∷ []
