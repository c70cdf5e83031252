-- The rules of statements.
use Rattle.std.specs.Prelude.{List, [], ◌∷◌, true, false}
use Rattle.zw_tree.specs.declared.kind.NodeKind.TheVariants.{Block, Const, Defer, ErrDefer, For, If, Var, While}
use Rattle.zw_grammar.specs.declared.grammar.Mark.TheVariants.{Close, Enter, Leave, Open, Wrap}
use Rattle.zw_grammar.specs.declared.grammar.Symbol.TheVariants.{Build, Read, Take}
use Rattle.zw_grammar.specs.Plain.{PlainRule}
use Rattle.zw_parse_expr.specs.declared.rule.TheConstants.{ANY_NAME, ASSIGN, BLOCK, BODIED, BODY, COMPTIME_STATEMENT, FOR_HEAD, IF_HEAD, INLINE_LOOP_STATEMENT, PLAIN_CAPTURE, STATEMENT, STATEMENTS, STATEMENT_NAME, SWITCH_FORM, VARIABLE, WHILE_HEAD}
use Rattle.zw_parse_expr.specs.declared.terminal.TheConstants.{COMPTIME, CONST, DEFER, ERRDEFER, FOR, IF, INLINE, L_BRACE, NAME, QUOTED, R_BRACE, SEMICOLON, SWITCH, VAR, WHILE}

-- the rule BLOCK
abbrev pub block : PlainRule
block = record {
  alternatives =
      record { first = []; symbols = (Build (Open Block 0) ∷ Take L_BRACE ∷ Read STATEMENTS ∷ Take R_BRACE ∷ Build Close ∷ []) } ∷
      [];
  steps = 3;
  may_be_empty = false;
}

-- the rule LABELLED_BLOCK
abbrev pub labelled_block : PlainRule
labelled_block = record {
  alternatives =
      record { first = []; symbols = (Build (Wrap Block 1) ∷ Take L_BRACE ∷ Read STATEMENTS ∷ Take R_BRACE ∷ Build Close ∷ []) } ∷
      [];
  steps = 3;
  may_be_empty = false;
}

-- the rule STATEMENTS
abbrev pub statements : PlainRule
statements = record {
  alternatives =
      record { first = (R_BRACE ∷ []); symbols = [] } ∷
      record { first = []; symbols = (Read STATEMENT ∷ Read STATEMENTS ∷ []) } ∷
      [];
  steps = 13;
  may_be_empty = true;
}

-- the rule STATEMENT
abbrev pub statement : PlainRule
statement = record {
  alternatives =
      record { first = (NAME ∷ QUOTED ∷ []); symbols = (Build (Enter 0) ∷ Read ANY_NAME ∷ Read STATEMENT_NAME ∷ Build Leave ∷ []) } ∷
      record { first = (CONST ∷ []); symbols = (Build (Enter 0) ∷ Build (Open Const 0) ∷ Take CONST ∷ Read VARIABLE ∷ Build Close ∷ Take SEMICOLON ∷ Build Leave ∷ []) } ∷
      record { first = (VAR ∷ []); symbols = (Build (Enter 0) ∷ Build (Open Var 0) ∷ Take VAR ∷ Read VARIABLE ∷ Build Close ∷ Take SEMICOLON ∷ Build Leave ∷ []) } ∷
      record { first = (IF ∷ []); symbols = (Build (Enter 0) ∷ Build (Open If 0) ∷ Read IF_HEAD ∷ Read BODY ∷ Build Close ∷ Build Leave ∷ []) } ∷
      record { first = (WHILE ∷ []); symbols = (Build (Enter 0) ∷ Build (Open While 0) ∷ Read WHILE_HEAD ∷ Read BODY ∷ Build Close ∷ Build Leave ∷ []) } ∷
      record { first = (FOR ∷ []); symbols = (Build (Enter 0) ∷ Build (Open For 0) ∷ Read FOR_HEAD ∷ Read BODY ∷ Build Close ∷ Build Leave ∷ []) } ∷
      record { first = (INLINE ∷ []); symbols = (Build (Enter 0) ∷ Take INLINE ∷ Read INLINE_LOOP_STATEMENT ∷ Build Leave ∷ []) } ∷
      record { first = (L_BRACE ∷ []); symbols = (Build (Enter 0) ∷ Read BLOCK ∷ Build Leave ∷ []) } ∷
      record { first = (SWITCH ∷ []); symbols = (Build (Enter 0) ∷ Read SWITCH_FORM ∷ Build Leave ∷ []) } ∷
      record { first = (COMPTIME ∷ []); symbols = (Build (Enter 0) ∷ Take COMPTIME ∷ Read COMPTIME_STATEMENT ∷ Build Leave ∷ []) } ∷
      record { first = (DEFER ∷ []); symbols = (Build (Enter 0) ∷ Build (Open Defer 0) ∷ Take DEFER ∷ Read BODIED ∷ Build Close ∷ Build Leave ∷ []) } ∷
      record { first = (ERRDEFER ∷ []); symbols = (Build (Enter 0) ∷ Build (Open ErrDefer 0) ∷ Take ERRDEFER ∷ Read PLAIN_CAPTURE ∷ Read BODIED ∷ Build Close ∷ Build Leave ∷ []) } ∷
      record { first = []; symbols = (Build (Enter 0) ∷ Read ASSIGN ∷ Take SEMICOLON ∷ Build Leave ∷ []) } ∷
      [];
  steps = 12;
  may_be_empty = false;
}

-- these rules, in the order of their numbers
abbrev pub statements_rules : List PlainRule
statements_rules = block ∷ labelled_block ∷ statements ∷ statement ∷ []
