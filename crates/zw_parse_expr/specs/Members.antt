-- The rules of members.
use Rattle.std.specs.Prelude.{List, [], ◌∷◌, true}
use Rattle.zw_tree.specs.declared.kind.NodeKind.TheVariants.{Field, FieldValue}
use Rattle.zw_grammar.specs.declared.grammar.Mark.TheVariants.{Close, Open}
use Rattle.zw_grammar.specs.declared.grammar.Symbol.TheVariants.{Build, Read, Take}
use Rattle.zw_grammar.specs.Plain.{PlainRule}
use Rattle.zw_parse_expr.specs.declared.rule.TheConstants.{ANY_COLON, A_NAME, DECLARATION, ENUM_MEMBERS, EXPR, FIELD_VALUE, MORE_ENUM_MEMBERS, MORE_STRUCT_MEMBERS, MORE_UNION_MEMBERS, STRUCT_MEMBERS, TYPE, UNION_MEMBERS, VARIABLE_TYPE}
use Rattle.zw_parse_expr.specs.declared.terminal.TheConstants.{COMMA, EQUAL, NAME, QUOTED}
use Rattle.zw_parse_expr.specs.Classes.{declaration_first}

-- the rule STRUCT_MEMBERS
abbrev pub struct_members : PlainRule
struct_members = record {
  alternatives =
      record { first = (NAME ∷ QUOTED ∷ []); symbols = (Build (Open Field 0) ∷ Read A_NAME ∷ Read ANY_COLON ∷ Read TYPE ∷ Read FIELD_VALUE ∷ Build Close ∷ Read MORE_STRUCT_MEMBERS ∷ []) } ∷
      record { first = declaration_first; symbols = (Read DECLARATION ∷ Read STRUCT_MEMBERS ∷ []) } ∷
      record { first = []; symbols = [] } ∷
      [];
  steps = 8;
  may_be_empty = true;
}

-- the rule MORE_STRUCT_MEMBERS
abbrev pub more_struct_members : PlainRule
more_struct_members = record {
  alternatives =
      record { first = (COMMA ∷ []); symbols = (Take COMMA ∷ Read STRUCT_MEMBERS ∷ []) } ∷
      record { first = []; symbols = [] } ∷
      [];
  steps = 2;
  may_be_empty = true;
}

-- the rule ENUM_MEMBERS
abbrev pub enum_members : PlainRule
enum_members = record {
  alternatives =
      record { first = (NAME ∷ QUOTED ∷ []); symbols = (Build (Open Field 0) ∷ Read A_NAME ∷ Read FIELD_VALUE ∷ Build Close ∷ Read MORE_ENUM_MEMBERS ∷ []) } ∷
      record { first = declaration_first; symbols = (Read DECLARATION ∷ Read ENUM_MEMBERS ∷ []) } ∷
      record { first = []; symbols = [] } ∷
      [];
  steps = 8;
  may_be_empty = true;
}

-- the rule MORE_ENUM_MEMBERS
abbrev pub more_enum_members : PlainRule
more_enum_members = record {
  alternatives =
      record { first = (COMMA ∷ []); symbols = (Take COMMA ∷ Read ENUM_MEMBERS ∷ []) } ∷
      record { first = []; symbols = [] } ∷
      [];
  steps = 2;
  may_be_empty = true;
}

-- the rule UNION_MEMBERS
abbrev pub union_members : PlainRule
union_members = record {
  alternatives =
      record { first = (NAME ∷ QUOTED ∷ []); symbols = (Build (Open Field 0) ∷ Read A_NAME ∷ Read VARIABLE_TYPE ∷ Build Close ∷ Read MORE_UNION_MEMBERS ∷ []) } ∷
      record { first = declaration_first; symbols = (Read DECLARATION ∷ Read UNION_MEMBERS ∷ []) } ∷
      record { first = []; symbols = [] } ∷
      [];
  steps = 8;
  may_be_empty = true;
}

-- the rule MORE_UNION_MEMBERS
abbrev pub more_union_members : PlainRule
more_union_members = record {
  alternatives =
      record { first = (COMMA ∷ []); symbols = (Take COMMA ∷ Read UNION_MEMBERS ∷ []) } ∷
      record { first = []; symbols = [] } ∷
      [];
  steps = 2;
  may_be_empty = true;
}

-- the rule FIELD_VALUE
abbrev pub field_value : PlainRule
field_value = record {
  alternatives =
      record { first = (EQUAL ∷ []); symbols = (Build (Open FieldValue 0) ∷ Take EQUAL ∷ Read EXPR ∷ Build Close ∷ []) } ∷
      record { first = []; symbols = [] } ∷
      [];
  steps = 3;
  may_be_empty = true;
}

-- these rules, in the order of their numbers
abbrev pub members_rules : List PlainRule
members_rules = struct_members ∷ more_struct_members ∷ enum_members ∷ more_enum_members ∷ union_members ∷ more_union_members ∷ field_value ∷ []
