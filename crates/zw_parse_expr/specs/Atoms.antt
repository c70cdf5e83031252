-- The rules of atoms.
use Rattle.std.specs.Prelude.{List, [], ◌∷◌, false}
use Rattle.zw_tree.specs.declared.kind.NodeKind.TheVariants.{Builtin, Character, Enum, Identifier, Number, Parentheses, QuotedIdentifier, Struct, Text, Union, Unreachable}
use Rattle.zw_grammar.specs.declared.grammar.Mark.TheVariants.{Close, Leaf, Open}
use Rattle.zw_grammar.specs.declared.grammar.Symbol.TheVariants.{Build, Read, Take}
use Rattle.zw_grammar.specs.Plain.{PlainRule}
use Rattle.zw_parse_expr.specs.declared.rule.TheConstants.{ARGUMENTS, BEHIND_DOT, BLOCK, ENUM_MEMBERS, ENUM_TAG, ERROR_FORM, EXPR, IMPORT_PATH, LAST_COMMA, MORE_LINES, STRUCT_MEMBERS, SWITCH_FORM, UNION_MEMBERS, UNION_TAG}
use Rattle.zw_parse_expr.specs.declared.terminal.TheConstants.{BUILTIN, CHARACTER, DOT, ENUM, ERROR, IMPORT, LINE_TEXT, L_BRACE, L_PAREN, NAME, NUMBER, QUOTED, R_BRACE, R_PAREN, STRUCT, SWITCH, TEXT, UNION, UNREACHABLE}

-- the rule ATOM
abbrev pub atom : PlainRule
atom = record {
  alternatives =
      record { first = (NAME ∷ []); symbols = (Build (Leaf Identifier 0) ∷ Take NAME ∷ []) } ∷
      record { first = (NUMBER ∷ []); symbols = (Build (Leaf Number 0) ∷ Take NUMBER ∷ []) } ∷
      record { first = (DOT ∷ []); symbols = (Take DOT ∷ Read BEHIND_DOT ∷ []) } ∷
      record { first = (L_PAREN ∷ []); symbols = (Build (Open Parentheses 0) ∷ Take L_PAREN ∷ Read EXPR ∷ Take R_PAREN ∷ Build Close ∷ []) } ∷
      record { first = (BUILTIN ∷ []); symbols = (Build (Open Builtin 0) ∷ Take BUILTIN ∷ Take L_PAREN ∷ Read ARGUMENTS ∷ Take R_PAREN ∷ Build Close ∷ []) } ∷
      record { first = (TEXT ∷ []); symbols = (Build (Leaf Text 0) ∷ Take TEXT ∷ []) } ∷
      record { first = (CHARACTER ∷ []); symbols = (Build (Leaf Character 0) ∷ Take CHARACTER ∷ []) } ∷
      record { first = (QUOTED ∷ []); symbols = (Build (Leaf QuotedIdentifier 0) ∷ Take QUOTED ∷ []) } ∷
      record { first = (ERROR ∷ []); symbols = (Take ERROR ∷ Read ERROR_FORM ∷ []) } ∷
      record { first = (L_BRACE ∷ []); symbols = (Read BLOCK ∷ []) } ∷
      record { first = (SWITCH ∷ []); symbols = (Read SWITCH_FORM ∷ []) } ∷
      record { first = (LINE_TEXT ∷ []); symbols = (Build (Open Text 0) ∷ Take LINE_TEXT ∷ Read MORE_LINES ∷ Build Close ∷ []) } ∷
      record { first = (UNREACHABLE ∷ []); symbols = (Build (Leaf Unreachable 0) ∷ Take UNREACHABLE ∷ []) } ∷
      record { first = (IMPORT ∷ []); symbols = (Build (Open Builtin 0) ∷ Take IMPORT ∷ Take L_PAREN ∷ Read IMPORT_PATH ∷ Read LAST_COMMA ∷ Take R_PAREN ∷ Build Close ∷ []) } ∷
      record { first = (STRUCT ∷ []); symbols = (Build (Open Struct 0) ∷ Take STRUCT ∷ Take L_BRACE ∷ Read STRUCT_MEMBERS ∷ Take R_BRACE ∷ Build Close ∷ []) } ∷
      record { first = (ENUM ∷ []); symbols = (Build (Open Enum 0) ∷ Take ENUM ∷ Read ENUM_TAG ∷ Take L_BRACE ∷ Read ENUM_MEMBERS ∷ Take R_BRACE ∷ Build Close ∷ []) } ∷
      record { first = (UNION ∷ []); symbols = (Build (Open Union 0) ∷ Take UNION ∷ Read UNION_TAG ∷ Take L_BRACE ∷ Read UNION_MEMBERS ∷ Take R_BRACE ∷ Build Close ∷ []) } ∷
      [];
  steps = 4;
  may_be_empty = false;
}

-- these rules, in the order of their numbers
abbrev pub atoms_rules : List PlainRule
atoms_rules = atom ∷ []
