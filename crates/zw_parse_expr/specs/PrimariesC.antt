-- The rules of primaries c.
use Rattle.std.specs.Prelude.{List, [], ◌∷◌, false}
use Rattle.zw_tree.specs.declared.kind.NodeKind.TheVariants.{Break, Comptime, Continue, For, If, Return, While}
use Rattle.zw_grammar.specs.declared.grammar.Mark.TheVariants.{Close, Open}
use Rattle.zw_grammar.specs.declared.grammar.Symbol.TheVariants.{Build, Read, Take}
use Rattle.zw_grammar.specs.Plain.{PlainRule}
use Rattle.zw_parse_expr.specs.declared.rule.TheConstants.{ANY_NAME, BLOCK, BREAK_LABEL_C, ELSE_EXPR_C, EXPR_C, FOR_HEAD, FRONT_BRACKET, IF_HEAD, INIT, INLINE_LOOP_C, OPERAND_C, PRIMARY_NAME_C, TYPE_BODY, WHILE_HEAD}
use Rattle.zw_parse_expr.specs.declared.terminal.TheConstants.{BREAK, COMPTIME, CONTINUE, FOR, IF, INLINE, L_BRACE, L_BRACKET, NAME, QUOTED, RETURN, WHILE}

-- the rule PRIMARY_C
abbrev pub primary_c : PlainRule
primary_c = record {
  alternatives =
      record { first = (NAME ∷ QUOTED ∷ []); symbols = (Read ANY_NAME ∷ Read PRIMARY_NAME_C ∷ []) } ∷
      record { first = (IF ∷ []); symbols = (Build (Open If 0) ∷ Read IF_HEAD ∷ Read EXPR_C ∷ Read ELSE_EXPR_C ∷ Build Close ∷ []) } ∷
      record { first = (BREAK ∷ []); symbols = (Build (Open Break 0) ∷ Take BREAK ∷ Read BREAK_LABEL_C ∷ Read OPERAND_C ∷ Build Close ∷ []) } ∷
      record { first = (CONTINUE ∷ []); symbols = (Build (Open Continue 0) ∷ Take CONTINUE ∷ Read BREAK_LABEL_C ∷ Build Close ∷ []) } ∷
      record { first = (RETURN ∷ []); symbols = (Build (Open Return 0) ∷ Take RETURN ∷ Read OPERAND_C ∷ Build Close ∷ []) } ∷
      record { first = (COMPTIME ∷ []); symbols = (Build (Open Comptime 0) ∷ Take COMPTIME ∷ Read EXPR_C ∷ Build Close ∷ []) } ∷
      record { first = (WHILE ∷ []); symbols = (Build (Open While 0) ∷ Read WHILE_HEAD ∷ Read EXPR_C ∷ Read ELSE_EXPR_C ∷ Build Close ∷ []) } ∷
      record { first = (FOR ∷ []); symbols = (Build (Open For 0) ∷ Read FOR_HEAD ∷ Read EXPR_C ∷ Read ELSE_EXPR_C ∷ Build Close ∷ []) } ∷
      record { first = (INLINE ∷ []); symbols = (Take INLINE ∷ Read INLINE_LOOP_C ∷ []) } ∷
      record { first = (L_BRACE ∷ []); symbols = (Read BLOCK ∷ []) } ∷
      record { first = (L_BRACKET ∷ []); symbols = (Take L_BRACKET ∷ Read FRONT_BRACKET ∷ []) } ∷
      record { first = []; symbols = (Read TYPE_BODY ∷ Read INIT ∷ []) } ∷
      [];
  steps = 6;
  may_be_empty = false;
}

-- these rules, in the order of their numbers
abbrev pub primaries_c_rules : List PlainRule
primaries_c_rules = primary_c ∷ []
