-- The rules of labels c.
use Rattle.std.specs.Prelude.{List, [], ◌∷◌, true, false}
use Rattle.zw_tree.specs.declared.kind.NodeKind.TheVariants.{Else, For, InlineWord, While}
use Rattle.zw_grammar.specs.declared.grammar.Mark.TheVariants.{Close, Leaf, Open, Wrap}
use Rattle.zw_grammar.specs.declared.grammar.Symbol.TheVariants.{Build, Read, Take}
use Rattle.zw_grammar.specs.Plain.{PlainRule}
use Rattle.zw_parse_expr.specs.declared.rule.TheConstants.{ELSE_EXPR_C, EXPR_C, FOR_HEAD, LABELLED_BLOCK, LABELLED_INLINE_LOOP_C, LABELLED_LOOP_C, PLAIN_CAPTURE, WHILE_HEAD}
use Rattle.zw_parse_expr.specs.declared.terminal.TheConstants.{ELSE, FOR, INLINE, L_BRACE, WHILE}
use Rattle.zw_parse_expr.specs.Classes.{operand_first}

-- the rule LABELLED_C
abbrev pub labelled_c : PlainRule
labelled_c = record {
  alternatives =
      record { first = (L_BRACE ∷ []); symbols = (Read LABELLED_BLOCK ∷ []) } ∷
      record { first = []; symbols = (Read LABELLED_LOOP_C ∷ []) } ∷
      [];
  steps = 5;
  may_be_empty = false;
}

-- the rule LABELLED_LOOP_C
abbrev pub labelled_loop_c : PlainRule
labelled_loop_c = record {
  alternatives =
      record { first = (WHILE ∷ []); symbols = (Build (Wrap While 1) ∷ Read WHILE_HEAD ∷ Read EXPR_C ∷ Read ELSE_EXPR_C ∷ Build Close ∷ []) } ∷
      record { first = (FOR ∷ []); symbols = (Build (Wrap For 1) ∷ Read FOR_HEAD ∷ Read EXPR_C ∷ Read ELSE_EXPR_C ∷ Build Close ∷ []) } ∷
      record { first = []; symbols = (Take INLINE ∷ Read LABELLED_INLINE_LOOP_C ∷ []) } ∷
      [];
  steps = 4;
  may_be_empty = false;
}

-- the rule LABELLED_INLINE_LOOP_C
abbrev pub labelled_inline_loop_c : PlainRule
labelled_inline_loop_c = record {
  alternatives =
      record { first = (WHILE ∷ []); symbols = (Build (Wrap While 1) ∷ Build (Leaf InlineWord 1) ∷ Read WHILE_HEAD ∷ Read EXPR_C ∷ Read ELSE_EXPR_C ∷ Build Close ∷ []) } ∷
      record { first = []; symbols = (Build (Wrap For 1) ∷ Build (Leaf InlineWord 1) ∷ Read FOR_HEAD ∷ Read EXPR_C ∷ Read ELSE_EXPR_C ∷ Build Close ∷ []) } ∷
      [];
  steps = 5;
  may_be_empty = false;
}

-- the rule INLINE_LOOP_C
abbrev pub inline_loop_c : PlainRule
inline_loop_c = record {
  alternatives =
      record { first = (WHILE ∷ []); symbols = (Build (Open While 1) ∷ Build (Leaf InlineWord 1) ∷ Read WHILE_HEAD ∷ Read EXPR_C ∷ Read ELSE_EXPR_C ∷ Build Close ∷ []) } ∷
      record { first = []; symbols = (Build (Open For 1) ∷ Build (Leaf InlineWord 1) ∷ Read FOR_HEAD ∷ Read EXPR_C ∷ Read ELSE_EXPR_C ∷ Build Close ∷ []) } ∷
      [];
  steps = 5;
  may_be_empty = false;
}

-- the rule ELSE_EXPR_C
abbrev pub else_expr_c : PlainRule
else_expr_c = record {
  alternatives =
      record { first = (ELSE ∷ []); symbols = (Build (Open Else 0) ∷ Take ELSE ∷ Read PLAIN_CAPTURE ∷ Read EXPR_C ∷ Build Close ∷ []) } ∷
      record { first = []; symbols = [] } ∷
      [];
  steps = 3;
  may_be_empty = true;
}

-- the rule OPERAND_C
abbrev pub operand_c : PlainRule
operand_c = record {
  alternatives =
      record { first = operand_first; symbols = (Read EXPR_C ∷ []) } ∷
      record { first = []; symbols = [] } ∷
      [];
  steps = 10;
  may_be_empty = true;
}

-- these rules, in the order of their numbers
abbrev pub labels_c_rules : List PlainRule
labels_c_rules = labelled_c ∷ labelled_loop_c ∷ labelled_inline_loop_c ∷ inline_loop_c ∷ else_expr_c ∷ operand_c ∷ []
