-- The rules of primaries.
use Rattle.std.specs.Prelude.{List, [], ◌∷◌, true, false}
use Rattle.zw_tree.specs.declared.kind.NodeKind.TheVariants.{ArrayType, Blank, Break, Comptime, Continue, For, Identifier, If, Label, Name, QuotedIdentifier, QuotedName, Return, While}
use Rattle.zw_grammar.specs.declared.grammar.Mark.TheVariants.{Close, Enter, Leaf, Leave, Open, Word}
use Rattle.zw_grammar.specs.declared.grammar.Symbol.TheVariants.{Build, Read, Take}
use Rattle.zw_grammar.specs.Plain.{PlainRule}
use Rattle.zw_parse_expr.specs.declared.rule.TheConstants.{ANY_NAME, BLOCK, BRACED, BRACKET, BREAK_LABEL, ELSE_EXPR, ERROR_UNION, EXPR, FOR_HEAD, FRONT_BRACKET, IF_HEAD, INIT, INLINE_LOOP, LABELLED, LABELLED_C, LABEL_COLON, OPERAND, PRIMARY_NAME, SENTINEL, SUFFIXES, TYPE_BODY, WHILE_HEAD}
use Rattle.zw_parse_expr.specs.declared.terminal.TheConstants.{BLANK, BREAK, COLON_TARGET, COMPTIME, CONTINUE, FOR, IF, INLINE, L_BRACE, L_BRACKET, NAME, QUOTED, RETURN, R_BRACKET, WHILE}
use Rattle.zw_parse_expr.specs.Classes.{colons}

-- the rule PRIMARY
abbrev pub primary : PlainRule
primary = record {
  alternatives =
      record { first = (NAME ∷ QUOTED ∷ []); symbols = (Read ANY_NAME ∷ Read PRIMARY_NAME ∷ []) } ∷
      record { first = (IF ∷ []); symbols = (Build (Open If 0) ∷ Read IF_HEAD ∷ Read EXPR ∷ Read ELSE_EXPR ∷ Build Close ∷ []) } ∷
      record { first = (BREAK ∷ []); symbols = (Build (Open Break 0) ∷ Take BREAK ∷ Read BREAK_LABEL ∷ Read OPERAND ∷ Build Close ∷ []) } ∷
      record { first = (CONTINUE ∷ []); symbols = (Build (Open Continue 0) ∷ Take CONTINUE ∷ Read BREAK_LABEL ∷ Build Close ∷ []) } ∷
      record { first = (RETURN ∷ []); symbols = (Build (Open Return 0) ∷ Take RETURN ∷ Read OPERAND ∷ Build Close ∷ []) } ∷
      record { first = (COMPTIME ∷ []); symbols = (Build (Open Comptime 0) ∷ Take COMPTIME ∷ Read EXPR ∷ Build Close ∷ []) } ∷
      record { first = (WHILE ∷ []); symbols = (Build (Open While 0) ∷ Read WHILE_HEAD ∷ Read EXPR ∷ Read ELSE_EXPR ∷ Build Close ∷ []) } ∷
      record { first = (FOR ∷ []); symbols = (Build (Open For 0) ∷ Read FOR_HEAD ∷ Read EXPR ∷ Read ELSE_EXPR ∷ Build Close ∷ []) } ∷
      record { first = (INLINE ∷ []); symbols = (Take INLINE ∷ Read INLINE_LOOP ∷ []) } ∷
      record { first = (L_BRACE ∷ []); symbols = (Read BLOCK ∷ []) } ∷
      record { first = (L_BRACKET ∷ []); symbols = (Take L_BRACKET ∷ Read FRONT_BRACKET ∷ []) } ∷
      record { first = []; symbols = (Read TYPE_BODY ∷ Read INIT ∷ []) } ∷
      [];
  steps = 6;
  may_be_empty = false;
}

-- the rule FRONT_BRACKET
abbrev pub front_bracket : PlainRule
front_bracket = record {
  alternatives =
      record { first = (BLANK ∷ []); symbols = (Build (Open ArrayType 1) ∷ Build (Enter 0) ∷ Build (Leaf Blank 0) ∷ Take BLANK ∷ Build Leave ∷ Read SENTINEL ∷ Take R_BRACKET ∷ Read TYPE_BODY ∷ Build Close ∷ Read BRACED ∷ []) } ∷
      record { first = []; symbols = (Read BRACKET ∷ Read INIT ∷ []) } ∷
      [];
  steps = 12;
  may_be_empty = false;
}

-- the rule PRIMARY_NAME
abbrev pub primary_name : PlainRule
primary_name = record {
  alternatives =
      record { first = colons; symbols = (Build (Open Label 1) ∷ Build (Word NAME Name QuotedName 1) ∷ Read LABEL_COLON ∷ Build Close ∷ Read LABELLED ∷ []) } ∷
      record { first = []; symbols = (Build (Word NAME Identifier QuotedIdentifier 1) ∷ Read SUFFIXES ∷ Read ERROR_UNION ∷ Read INIT ∷ []) } ∷
      [];
  steps = 11;
  may_be_empty = true;
}

-- the rule PRIMARY_NAME_C
abbrev pub primary_name_c : PlainRule
primary_name_c = record {
  alternatives =
      record { first = (COLON_TARGET ∷ []); symbols = (Build (Open Label 1) ∷ Build (Word NAME Name QuotedName 1) ∷ Take COLON_TARGET ∷ Build Close ∷ Read LABELLED_C ∷ []) } ∷
      record { first = []; symbols = (Build (Word NAME Identifier QuotedIdentifier 1) ∷ Read SUFFIXES ∷ Read ERROR_UNION ∷ Read INIT ∷ []) } ∷
      [];
  steps = 11;
  may_be_empty = true;
}

-- these rules, in the order of their numbers
abbrev pub primaries_rules : List PlainRule
primaries_rules = primary ∷ front_bracket ∷ primary_name ∷ primary_name_c ∷ []
