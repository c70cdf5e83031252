-- The rules of named statements.
use Rattle.std.specs.Prelude.{List, [], ◌∷◌, true, false}
use Rattle.zw_tree.specs.declared.kind.NodeKind.TheVariants.{Comptime, ComptimeWord, Const, For, Identifier, InlineWord, Label, Name, QuotedIdentifier, QuotedName, Var, While}
use Rattle.zw_grammar.specs.declared.grammar.Mark.TheVariants.{Close, Enter, Leaf, Leave, Open, Word, Wrap}
use Rattle.zw_grammar.specs.declared.grammar.Symbol.TheVariants.{Build, Read, Take}
use Rattle.zw_grammar.specs.Plain.{PlainRule}
use Rattle.zw_parse_expr.specs.declared.rule.TheConstants.{ASSIGN_REST, BITS, BODIED, BODY, COMPARE, CONJUNCTION, DISJUNCTION, ERROR_UNION, FOR_HEAD, INIT, LABELLED_BLOCK, LABELLED_INLINE_STATEMENT, LABELLED_STATEMENT, LABEL_COLON, NAME_ASSIGN, PRODUCT, SHIFT, SUFFIXES, SUM, VARIABLE, WHILE_HEAD}
use Rattle.zw_parse_expr.specs.declared.terminal.TheConstants.{CONST, FOR, INLINE, L_BRACE, NAME, SEMICOLON, VAR, WHILE}
use Rattle.zw_parse_expr.specs.Classes.{colons}

-- the rule STATEMENT_NAME
abbrev pub statement_name : PlainRule
statement_name = record {
  alternatives =
      record { first = colons; symbols = (Build (Open Label 1) ∷ Build (Word NAME Name QuotedName 1) ∷ Read LABEL_COLON ∷ Build Close ∷ Read LABELLED_STATEMENT ∷ []) } ∷
      record { first = []; symbols = (Read NAME_ASSIGN ∷ Take SEMICOLON ∷ []) } ∷
      [];
  steps = 39;
  may_be_empty = false;
}

-- the rule NAME_ASSIGN
abbrev pub name_assign : PlainRule
name_assign = record {
  alternatives =
      record { first = []; symbols = (Build (Enter 1) ∷ Build (Word NAME Identifier QuotedIdentifier 1) ∷ Read SUFFIXES ∷ Read ERROR_UNION ∷ Read INIT ∷ Read PRODUCT ∷ Read SUM ∷ Read SHIFT ∷ Read BITS ∷ Read COMPARE ∷ Read CONJUNCTION ∷ Read DISJUNCTION ∷ Build Leave ∷ Read ASSIGN_REST ∷ []) } ∷
      [];
  steps = 37;
  may_be_empty = true;
}

-- the rule LABELLED_STATEMENT
abbrev pub labelled_statement : PlainRule
labelled_statement = record {
  alternatives =
      record { first = (L_BRACE ∷ []); symbols = (Read LABELLED_BLOCK ∷ []) } ∷
      record { first = (WHILE ∷ []); symbols = (Build (Wrap While 1) ∷ Read WHILE_HEAD ∷ Read BODY ∷ Build Close ∷ []) } ∷
      record { first = (FOR ∷ []); symbols = (Build (Wrap For 1) ∷ Read FOR_HEAD ∷ Read BODY ∷ Build Close ∷ []) } ∷
      record { first = []; symbols = (Take INLINE ∷ Read LABELLED_INLINE_STATEMENT ∷ []) } ∷
      [];
  steps = 4;
  may_be_empty = false;
}

-- the rule LABELLED_INLINE_STATEMENT
abbrev pub labelled_inline_statement : PlainRule
labelled_inline_statement = record {
  alternatives =
      record { first = (WHILE ∷ []); symbols = (Build (Wrap While 1) ∷ Build (Leaf InlineWord 1) ∷ Read WHILE_HEAD ∷ Read BODY ∷ Build Close ∷ []) } ∷
      record { first = []; symbols = (Build (Wrap For 1) ∷ Build (Leaf InlineWord 1) ∷ Read FOR_HEAD ∷ Read BODY ∷ Build Close ∷ []) } ∷
      [];
  steps = 5;
  may_be_empty = false;
}

-- the rule INLINE_LOOP_STATEMENT
abbrev pub inline_loop_statement : PlainRule
inline_loop_statement = record {
  alternatives =
      record { first = (WHILE ∷ []); symbols = (Build (Open While 1) ∷ Build (Leaf InlineWord 1) ∷ Read WHILE_HEAD ∷ Read BODY ∷ Build Close ∷ []) } ∷
      record { first = []; symbols = (Build (Open For 1) ∷ Build (Leaf InlineWord 1) ∷ Read FOR_HEAD ∷ Read BODY ∷ Build Close ∷ []) } ∷
      [];
  steps = 5;
  may_be_empty = false;
}

-- the rule COMPTIME_STATEMENT
abbrev pub comptime_statement : PlainRule
comptime_statement = record {
  alternatives =
      record { first = (CONST ∷ []); symbols = (Build (Open Const 1) ∷ Build (Leaf ComptimeWord 1) ∷ Take CONST ∷ Read VARIABLE ∷ Build Close ∷ Take SEMICOLON ∷ []) } ∷
      record { first = (VAR ∷ []); symbols = (Build (Open Var 1) ∷ Build (Leaf ComptimeWord 1) ∷ Take VAR ∷ Read VARIABLE ∷ Build Close ∷ Take SEMICOLON ∷ []) } ∷
      record { first = []; symbols = (Build (Open Comptime 1) ∷ Read BODIED ∷ Build Close ∷ []) } ∷
      [];
  steps = 13;
  may_be_empty = false;
}

-- these rules, in the order of their numbers
abbrev pub named_statements_rules : List PlainRule
named_statements_rules = statement_name ∷ name_assign ∷ labelled_statement ∷ labelled_inline_statement ∷ inline_loop_statement ∷ comptime_statement ∷ []
