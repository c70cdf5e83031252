-- The rules of functions.
use Rattle.std.specs.Prelude.{List, [], ◌∷◌, true, false}
use Rattle.zw_tree.specs.declared.kind.NodeKind.TheVariants.{AnyType, Blank, ComptimeWord, ExportWord, ExternWord, Identifier, InferredErrorsWord, Name, NoinlineWord, Parameter, QuotedIdentifier, QuotedName, Text}
use Rattle.zw_grammar.specs.declared.grammar.Mark.TheVariants.{Close, Enter, Leaf, Leave, Open, Word}
use Rattle.zw_grammar.specs.declared.grammar.Symbol.TheVariants.{Build, Read, Take}
use Rattle.zw_grammar.specs.Plain.{PlainRule}
use Rattle.zw_parse_expr.specs.declared.rule.TheConstants.{ANY_COLON, ANY_NAME, A_NAME, BLOCK, ERROR_UNION, EXPR, FUNCTION, MORE_PARAMETERS, PARAMETER, PARAMETERS, PARAMETER_NAME, PARAMETER_REST, PARAMETER_TYPE, RESULT_TYPE, SIGNATURE, SUFFIXES, TYPE, VARIABLE_TYPE}
use Rattle.zw_parse_expr.specs.declared.terminal.TheConstants.{ANYTYPE, BANG, BLANK, COMMA, COMPTIME, EQUAL, EXPORT, EXTERN, FN, L_PAREN, NAME, NOINLINE, QUOTED, R_PAREN, TEXT}
use Rattle.zw_parse_expr.specs.Classes.{colons}

-- the rule VARIABLE
abbrev pub variable : PlainRule
variable = record {
  alternatives =
      record { first = []; symbols = (Read A_NAME ∷ Read VARIABLE_TYPE ∷ Take EQUAL ∷ Read EXPR ∷ []) } ∷
      [];
  steps = 4;
  may_be_empty = false;
}

-- the rule VARIABLE_TYPE
abbrev pub variable_type : PlainRule
variable_type = record {
  alternatives =
      record { first = colons; symbols = (Read ANY_COLON ∷ Read TYPE ∷ []) } ∷
      record { first = []; symbols = [] } ∷
      [];
  steps = 3;
  may_be_empty = true;
}

-- the rule TEST_NAME
abbrev pub test_name : PlainRule
test_name = record {
  alternatives =
      record { first = (TEXT ∷ []); symbols = (Build (Leaf Text 0) ∷ Take TEXT ∷ []) } ∷
      record { first = (NAME ∷ []); symbols = (Build (Leaf Identifier 0) ∷ Take NAME ∷ []) } ∷
      record { first = (QUOTED ∷ []); symbols = (Build (Leaf QuotedIdentifier 0) ∷ Take QUOTED ∷ []) } ∷
      record { first = []; symbols = [] } ∷
      [];
  steps = 3;
  may_be_empty = true;
}

-- the rule EXPORTED
abbrev pub exported : PlainRule
exported = record {
  alternatives =
      record { first = []; symbols = (Build (Leaf ExportWord 0) ∷ Take EXPORT ∷ Read FUNCTION ∷ []) } ∷
      [];
  steps = 3;
  may_be_empty = false;
}

-- the rule NOINLINED
abbrev pub noinlined : PlainRule
noinlined = record {
  alternatives =
      record { first = []; symbols = (Build (Leaf NoinlineWord 0) ∷ Take NOINLINE ∷ Read FUNCTION ∷ []) } ∷
      [];
  steps = 3;
  may_be_empty = false;
}

-- the rule OUTSIDE
abbrev pub outside : PlainRule
outside = record {
  alternatives =
      record { first = []; symbols = (Build (Leaf ExternWord 0) ∷ Take EXTERN ∷ Read SIGNATURE ∷ []) } ∷
      [];
  steps = 3;
  may_be_empty = false;
}

-- the rule FUNCTION
abbrev pub function : PlainRule
function = record {
  alternatives =
      record { first = []; symbols = (Read SIGNATURE ∷ Read BLOCK ∷ []) } ∷
      [];
  steps = 3;
  may_be_empty = false;
}

-- the rule SIGNATURE
abbrev pub signature : PlainRule
signature = record {
  alternatives =
      record { first = []; symbols = (Take FN ∷ Read A_NAME ∷ Take L_PAREN ∷ Read PARAMETERS ∷ Take R_PAREN ∷ Read RESULT_TYPE ∷ []) } ∷
      [];
  steps = 2;
  may_be_empty = false;
}

-- the rule RESULT_TYPE
abbrev pub result_type : PlainRule
result_type = record {
  alternatives =
      record { first = (BANG ∷ []); symbols = (Build (Leaf InferredErrorsWord 0) ∷ Take BANG ∷ Read TYPE ∷ []) } ∷
      record { first = []; symbols = (Read TYPE ∷ []) } ∷
      [];
  steps = 8;
  may_be_empty = false;
}

-- the rule PARAMETERS
abbrev pub parameters : PlainRule
parameters = record {
  alternatives =
      record { first = (R_PAREN ∷ []); symbols = [] } ∷
      record { first = []; symbols = (Read PARAMETER ∷ Read MORE_PARAMETERS ∷ []) } ∷
      [];
  steps = 12;
  may_be_empty = true;
}

-- the rule MORE_PARAMETERS
abbrev pub more_parameters : PlainRule
more_parameters = record {
  alternatives =
      record { first = (COMMA ∷ []); symbols = (Take COMMA ∷ Read PARAMETERS ∷ []) } ∷
      record { first = []; symbols = [] } ∷
      [];
  steps = 2;
  may_be_empty = true;
}

-- the rule PARAMETER
abbrev pub parameter : PlainRule
parameter = record {
  alternatives =
      record { first = (COMPTIME ∷ []); symbols = (Build (Open Parameter 0) ∷ Build (Leaf ComptimeWord 0) ∷ Take COMPTIME ∷ Read PARAMETER_REST ∷ Build Close ∷ []) } ∷
      record { first = []; symbols = (Build (Open Parameter 0) ∷ Read PARAMETER_REST ∷ Build Close ∷ []) } ∷
      [];
  steps = 11;
  may_be_empty = false;
}

-- the rule PARAMETER_REST
abbrev pub parameter_rest : PlainRule
parameter_rest = record {
  alternatives =
      record { first = (BLANK ∷ []); symbols = (Build (Leaf Blank 0) ∷ Take BLANK ∷ Read ANY_COLON ∷ Read PARAMETER_TYPE ∷ []) } ∷
      record { first = (NAME ∷ QUOTED ∷ []); symbols = (Read ANY_NAME ∷ Read PARAMETER_NAME ∷ []) } ∷
      record { first = []; symbols = (Read PARAMETER_TYPE ∷ []) } ∷
      [];
  steps = 9;
  may_be_empty = false;
}

-- the rule PARAMETER_NAME
abbrev pub parameter_name : PlainRule
parameter_name = record {
  alternatives =
      record { first = colons; symbols = (Build (Word NAME Name QuotedName 1) ∷ Read ANY_COLON ∷ Read PARAMETER_TYPE ∷ []) } ∷
      record { first = []; symbols = (Build (Enter 1) ∷ Build (Word NAME Identifier QuotedIdentifier 1) ∷ Read SUFFIXES ∷ Read ERROR_UNION ∷ Build Leave ∷ []) } ∷
      [];
  steps = 10;
  may_be_empty = true;
}

-- the rule PARAMETER_TYPE
abbrev pub parameter_type : PlainRule
parameter_type = record {
  alternatives =
      record { first = (ANYTYPE ∷ []); symbols = (Build (Leaf AnyType 0) ∷ Take ANYTYPE ∷ []) } ∷
      record { first = []; symbols = (Read TYPE ∷ []) } ∷
      [];
  steps = 8;
  may_be_empty = false;
}

-- these rules, in the order of their numbers
abbrev pub functions_rules : List PlainRule
functions_rules = variable ∷ variable_type ∷ test_name ∷ exported ∷ noinlined ∷ outside ∷ function ∷ signature ∷ result_type ∷ parameters ∷ more_parameters ∷ parameter ∷ parameter_rest ∷ parameter_name ∷ parameter_type ∷ []
