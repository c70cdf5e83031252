-- The rules of labels.
use Rattle.std.specs.Prelude.{List, [], ◌∷◌, true, false}
use Rattle.zw_tree.specs.declared.kind.NodeKind.TheVariants.{Else, For, InlineWord, Label, While}
use Rattle.zw_grammar.specs.declared.grammar.Mark.TheVariants.{Close, Leaf, Open, Wrap}
use Rattle.zw_grammar.specs.declared.grammar.Symbol.TheVariants.{Build, Read, Take}
use Rattle.zw_grammar.specs.Plain.{PlainRule}
use Rattle.zw_parse_expr.specs.declared.rule.TheConstants.{A_NAME, BREAK_COLON, ELSE_EXPR, EXPR, FOR_HEAD, LABELLED_BLOCK, LABELLED_INLINE_LOOP, LABELLED_LOOP, PLAIN_CAPTURE, WHILE_HEAD}
use Rattle.zw_parse_expr.specs.declared.terminal.TheConstants.{COLON_NAME, ELSE, FOR, INLINE, L_BRACE, WHILE}
use Rattle.zw_parse_expr.specs.Classes.{colons, operand_first}

-- the rule LABELLED
abbrev pub labelled : PlainRule
labelled = record {
  alternatives =
      record { first = (L_BRACE ∷ []); symbols = (Read LABELLED_BLOCK ∷ []) } ∷
      record { first = []; symbols = (Read LABELLED_LOOP ∷ []) } ∷
      [];
  steps = 5;
  may_be_empty = false;
}

-- the rule LABELLED_LOOP
abbrev pub labelled_loop : PlainRule
labelled_loop = record {
  alternatives =
      record { first = (WHILE ∷ []); symbols = (Build (Wrap While 1) ∷ Read WHILE_HEAD ∷ Read EXPR ∷ Read ELSE_EXPR ∷ Build Close ∷ []) } ∷
      record { first = (FOR ∷ []); symbols = (Build (Wrap For 1) ∷ Read FOR_HEAD ∷ Read EXPR ∷ Read ELSE_EXPR ∷ Build Close ∷ []) } ∷
      record { first = []; symbols = (Take INLINE ∷ Read LABELLED_INLINE_LOOP ∷ []) } ∷
      [];
  steps = 4;
  may_be_empty = false;
}

-- the rule LABELLED_INLINE_LOOP
abbrev pub labelled_inline_loop : PlainRule
labelled_inline_loop = record {
  alternatives =
      record { first = (WHILE ∷ []); symbols = (Build (Wrap While 1) ∷ Build (Leaf InlineWord 1) ∷ Read WHILE_HEAD ∷ Read EXPR ∷ Read ELSE_EXPR ∷ Build Close ∷ []) } ∷
      record { first = []; symbols = (Build (Wrap For 1) ∷ Build (Leaf InlineWord 1) ∷ Read FOR_HEAD ∷ Read EXPR ∷ Read ELSE_EXPR ∷ Build Close ∷ []) } ∷
      [];
  steps = 5;
  may_be_empty = false;
}

-- the rule INLINE_LOOP
abbrev pub inline_loop : PlainRule
inline_loop = record {
  alternatives =
      record { first = (WHILE ∷ []); symbols = (Build (Open While 1) ∷ Build (Leaf InlineWord 1) ∷ Read WHILE_HEAD ∷ Read EXPR ∷ Read ELSE_EXPR ∷ Build Close ∷ []) } ∷
      record { first = []; symbols = (Build (Open For 1) ∷ Build (Leaf InlineWord 1) ∷ Read FOR_HEAD ∷ Read EXPR ∷ Read ELSE_EXPR ∷ Build Close ∷ []) } ∷
      [];
  steps = 5;
  may_be_empty = false;
}

-- the rule ELSE_EXPR
abbrev pub else_expr : PlainRule
else_expr = record {
  alternatives =
      record { first = (ELSE ∷ []); symbols = (Build (Open Else 0) ∷ Take ELSE ∷ Read PLAIN_CAPTURE ∷ Read EXPR ∷ Build Close ∷ []) } ∷
      record { first = []; symbols = [] } ∷
      [];
  steps = 3;
  may_be_empty = true;
}

-- the rule BREAK_LABEL
abbrev pub break_label : PlainRule
break_label = record {
  alternatives =
      record { first = colons; symbols = (Build (Open Label 0) ∷ Read BREAK_COLON ∷ Read A_NAME ∷ Build Close ∷ []) } ∷
      record { first = []; symbols = [] } ∷
      [];
  steps = 4;
  may_be_empty = true;
}

-- the rule BREAK_LABEL_C
abbrev pub break_label_c : PlainRule
break_label_c = record {
  alternatives =
      record { first = (COLON_NAME ∷ []); symbols = (Build (Open Label 0) ∷ Take COLON_NAME ∷ Read A_NAME ∷ Build Close ∷ []) } ∷
      record { first = []; symbols = [] } ∷
      [];
  steps = 3;
  may_be_empty = true;
}

-- the rule OPERAND
abbrev pub operand : PlainRule
operand = record {
  alternatives =
      record { first = operand_first; symbols = (Read EXPR ∷ []) } ∷
      record { first = []; symbols = [] } ∷
      [];
  steps = 10;
  may_be_empty = true;
}

-- these rules, in the order of their numbers
abbrev pub labels_rules : List PlainRule
labels_rules = labelled ∷ labelled_loop ∷ labelled_inline_loop ∷ inline_loop ∷ else_expr ∷ break_label ∷ break_label_c ∷ operand ∷ []
