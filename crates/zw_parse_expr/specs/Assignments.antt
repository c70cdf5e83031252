-- The rules of assignments.
use Rattle.std.specs.Prelude.{List, [], ◌∷◌, true, false}
use Rattle.zw_tree.specs.declared.kind.NodeKind.TheVariants.{AddAssign, AddSaturateAssign, AddWrapAssign, Assign, BitAndAssign, BitOrAssign, BitXorAssign, Blank, DivideAssign, MultiplyAssign, MultiplySaturateAssign, MultiplyWrapAssign, RemainderAssign, ShiftLeftAssign, ShiftLeftSaturateAssign, ShiftRightAssign, SubtractAssign, SubtractSaturateAssign, SubtractWrapAssign}
use Rattle.zw_grammar.specs.declared.grammar.Mark.TheVariants.{Close, Enter, Leaf, Leave, Open, Wrap}
use Rattle.zw_grammar.specs.declared.grammar.Symbol.TheVariants.{Build, Read, Take}
use Rattle.zw_grammar.specs.Plain.{PlainRule}
use Rattle.zw_parse_expr.specs.declared.rule.TheConstants.{ASSIGN_REST, EXPR}
use Rattle.zw_parse_expr.specs.declared.terminal.TheConstants.{AMPERSAND_EQUAL, BLANK, CARET_EQUAL, EQUAL, GREATER_GREATER_EQUAL, LESS_LESS_EQUAL, LESS_LESS_PIPE_EQUAL, MINUS_EQUAL, MINUS_PERCENT_EQUAL, MINUS_PIPE_EQUAL, PERCENT_EQUAL, PIPE_EQUAL, PLUS_EQUAL, PLUS_PERCENT_EQUAL, PLUS_PIPE_EQUAL, SLASH_EQUAL, STAR_EQUAL, STAR_PERCENT_EQUAL, STAR_PIPE_EQUAL}

-- the rule ASSIGN
abbrev pub assign : PlainRule
assign = record {
  alternatives =
      record { first = (BLANK ∷ []); symbols = (Build (Open Assign 0) ∷ Build (Enter 0) ∷ Build (Leaf Blank 0) ∷ Take BLANK ∷ Build Leave ∷ Take EQUAL ∷ Read EXPR ∷ Build Close ∷ []) } ∷
      record { first = []; symbols = (Read EXPR ∷ Read ASSIGN_REST ∷ []) } ∷
      [];
  steps = 10;
  may_be_empty = false;
}

-- the rule ASSIGN_REST
abbrev pub assign_rest : PlainRule
assign_rest = record {
  alternatives =
      record { first = (EQUAL ∷ []); symbols = (Build (Wrap Assign 1) ∷ Take EQUAL ∷ Read EXPR ∷ Build Close ∷ []) } ∷
      record { first = (PLUS_EQUAL ∷ []); symbols = (Build (Wrap AddAssign 1) ∷ Take PLUS_EQUAL ∷ Read EXPR ∷ Build Close ∷ []) } ∷
      record { first = (PLUS_PERCENT_EQUAL ∷ []); symbols = (Build (Wrap AddWrapAssign 1) ∷ Take PLUS_PERCENT_EQUAL ∷ Read EXPR ∷ Build Close ∷ []) } ∷
      record { first = (PLUS_PIPE_EQUAL ∷ []); symbols = (Build (Wrap AddSaturateAssign 1) ∷ Take PLUS_PIPE_EQUAL ∷ Read EXPR ∷ Build Close ∷ []) } ∷
      record { first = (MINUS_EQUAL ∷ []); symbols = (Build (Wrap SubtractAssign 1) ∷ Take MINUS_EQUAL ∷ Read EXPR ∷ Build Close ∷ []) } ∷
      record { first = (MINUS_PERCENT_EQUAL ∷ []); symbols = (Build (Wrap SubtractWrapAssign 1) ∷ Take MINUS_PERCENT_EQUAL ∷ Read EXPR ∷ Build Close ∷ []) } ∷
      record { first = (MINUS_PIPE_EQUAL ∷ []); symbols = (Build (Wrap SubtractSaturateAssign 1) ∷ Take MINUS_PIPE_EQUAL ∷ Read EXPR ∷ Build Close ∷ []) } ∷
      record { first = (STAR_EQUAL ∷ []); symbols = (Build (Wrap MultiplyAssign 1) ∷ Take STAR_EQUAL ∷ Read EXPR ∷ Build Close ∷ []) } ∷
      record { first = (STAR_PERCENT_EQUAL ∷ []); symbols = (Build (Wrap MultiplyWrapAssign 1) ∷ Take STAR_PERCENT_EQUAL ∷ Read EXPR ∷ Build Close ∷ []) } ∷
      record { first = (STAR_PIPE_EQUAL ∷ []); symbols = (Build (Wrap MultiplySaturateAssign 1) ∷ Take STAR_PIPE_EQUAL ∷ Read EXPR ∷ Build Close ∷ []) } ∷
      record { first = (SLASH_EQUAL ∷ []); symbols = (Build (Wrap DivideAssign 1) ∷ Take SLASH_EQUAL ∷ Read EXPR ∷ Build Close ∷ []) } ∷
      record { first = (PERCENT_EQUAL ∷ []); symbols = (Build (Wrap RemainderAssign 1) ∷ Take PERCENT_EQUAL ∷ Read EXPR ∷ Build Close ∷ []) } ∷
      record { first = (AMPERSAND_EQUAL ∷ []); symbols = (Build (Wrap BitAndAssign 1) ∷ Take AMPERSAND_EQUAL ∷ Read EXPR ∷ Build Close ∷ []) } ∷
      record { first = (CARET_EQUAL ∷ []); symbols = (Build (Wrap BitXorAssign 1) ∷ Take CARET_EQUAL ∷ Read EXPR ∷ Build Close ∷ []) } ∷
      record { first = (PIPE_EQUAL ∷ []); symbols = (Build (Wrap BitOrAssign 1) ∷ Take PIPE_EQUAL ∷ Read EXPR ∷ Build Close ∷ []) } ∷
      record { first = (LESS_LESS_EQUAL ∷ []); symbols = (Build (Wrap ShiftLeftAssign 1) ∷ Take LESS_LESS_EQUAL ∷ Read EXPR ∷ Build Close ∷ []) } ∷
      record { first = (LESS_LESS_PIPE_EQUAL ∷ []); symbols = (Build (Wrap ShiftLeftSaturateAssign 1) ∷ Take LESS_LESS_PIPE_EQUAL ∷ Read EXPR ∷ Build Close ∷ []) } ∷
      record { first = (GREATER_GREATER_EQUAL ∷ []); symbols = (Build (Wrap ShiftRightAssign 1) ∷ Take GREATER_GREATER_EQUAL ∷ Read EXPR ∷ Build Close ∷ []) } ∷
      record { first = []; symbols = [] } ∷
      [];
  steps = 3;
  may_be_empty = true;
}

-- these rules, in the order of their numbers
abbrev pub assignments_rules : List PlainRule
assignments_rules = assign ∷ assign_rest ∷ []
