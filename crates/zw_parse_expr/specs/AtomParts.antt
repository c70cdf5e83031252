-- The rules of atom parts.
use Rattle.std.specs.Prelude.{List, [], ◌∷◌, true, false}
use Rattle.zw_tree.specs.declared.kind.NodeKind.TheVariants.{EnumLiteral, EnumWord, ErrorSet, ErrorValue, Text}
use Rattle.zw_grammar.specs.declared.grammar.Mark.TheVariants.{Close, Enter, Leaf, Leave, Open}
use Rattle.zw_grammar.specs.declared.grammar.Symbol.TheVariants.{Build, Read, Take}
use Rattle.zw_grammar.specs.Plain.{PlainRule}
use Rattle.zw_parse_expr.specs.declared.rule.TheConstants.{ANONYMOUS, A_NAME, EXPR, MORE_LINES, NAMES, UNION_TAG_TYPE}
use Rattle.zw_parse_expr.specs.declared.terminal.TheConstants.{COMMA, DOT, ENUM, LINE_TEXT, L_BRACE, L_PAREN, R_BRACE, R_PAREN, TEXT}

-- the rule MORE_LINES
abbrev pub more_lines : PlainRule
more_lines = record {
  alternatives =
      record { first = (LINE_TEXT ∷ []); symbols = (Take LINE_TEXT ∷ Read MORE_LINES ∷ []) } ∷
      record { first = []; symbols = [] } ∷
      [];
  steps = 2;
  may_be_empty = true;
}

-- the rule IMPORT_PATH
abbrev pub import_path : PlainRule
import_path = record {
  alternatives =
      record { first = []; symbols = (Build (Enter 0) ∷ Build (Leaf Text 0) ∷ Take TEXT ∷ Build Leave ∷ []) } ∷
      [];
  steps = 4;
  may_be_empty = false;
}

-- the rule LAST_COMMA
abbrev pub last_comma : PlainRule
last_comma = record {
  alternatives =
      record { first = (COMMA ∷ []); symbols = (Take COMMA ∷ []) } ∷
      record { first = []; symbols = [] } ∷
      [];
  steps = 2;
  may_be_empty = true;
}

-- the rule ERROR_FORM
abbrev pub error_form : PlainRule
error_form = record {
  alternatives =
      record { first = (DOT ∷ []); symbols = (Build (Open ErrorValue 1) ∷ Take DOT ∷ Read A_NAME ∷ Build Close ∷ []) } ∷
      record { first = []; symbols = (Build (Open ErrorSet 1) ∷ Take L_BRACE ∷ Read NAMES ∷ Take R_BRACE ∷ Build Close ∷ []) } ∷
      [];
  steps = 3;
  may_be_empty = false;
}

-- the rule ENUM_TAG
abbrev pub enum_tag : PlainRule
enum_tag = record {
  alternatives =
      record { first = (L_PAREN ∷ []); symbols = (Take L_PAREN ∷ Read EXPR ∷ Take R_PAREN ∷ []) } ∷
      record { first = []; symbols = [] } ∷
      [];
  steps = 2;
  may_be_empty = true;
}

-- the rule UNION_TAG
abbrev pub union_tag : PlainRule
union_tag = record {
  alternatives =
      record { first = (L_PAREN ∷ []); symbols = (Take L_PAREN ∷ Read UNION_TAG_TYPE ∷ Take R_PAREN ∷ []) } ∷
      record { first = []; symbols = [] } ∷
      [];
  steps = 2;
  may_be_empty = true;
}

-- the rule UNION_TAG_TYPE
abbrev pub union_tag_type : PlainRule
union_tag_type = record {
  alternatives =
      record { first = (ENUM ∷ []); symbols = (Build (Leaf EnumWord 0) ∷ Take ENUM ∷ []) } ∷
      record { first = []; symbols = (Read EXPR ∷ []) } ∷
      [];
  steps = 10;
  may_be_empty = false;
}

-- the rule BEHIND_DOT
abbrev pub behind_dot : PlainRule
behind_dot = record {
  alternatives =
      record { first = (L_BRACE ∷ []); symbols = (Read ANONYMOUS ∷ []) } ∷
      record { first = []; symbols = (Build (Open EnumLiteral 1) ∷ Read A_NAME ∷ Build Close ∷ []) } ∷
      [];
  steps = 5;
  may_be_empty = false;
}

-- these rules, in the order of their numbers
abbrev pub atom_parts_rules : List PlainRule
atom_parts_rules = more_lines ∷ import_path ∷ last_comma ∷ error_form ∷ enum_tag ∷ union_tag ∷ union_tag_type ∷ behind_dot ∷ []
