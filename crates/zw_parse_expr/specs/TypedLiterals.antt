-- The rules of typed literals.
use Rattle.std.specs.Prelude.{List, [], ◌∷◌, true, false}
use Rattle.zw_tree.specs.declared.kind.NodeKind.TheVariants.{ArrayLiteral, EnumLiteral, FieldInit, Name, QuotedName, StructLiteral}
use Rattle.zw_grammar.specs.declared.grammar.Mark.TheVariants.{Close, Enter, Leave, Open, Word, Wrap}
use Rattle.zw_grammar.specs.declared.grammar.Symbol.TheVariants.{Build, Read, Take}
use Rattle.zw_grammar.specs.Plain.{PlainRule}
use Rattle.zw_parse_expr.specs.declared.rule.TheConstants.{ANONYMOUS, ANY_NAME, A_NAME, BITS, BRACED, COMPARE, CONJUNCTION, DISJUNCTION, ERROR_UNION, EXPR, FIELDS, INIT, INIT_DOT, INIT_FIRST, INIT_NAME, MORE_FIELDS, MORE_VALUES, PRODUCT, SHIFT, SUFFIXES, SUM, VALUES}
use Rattle.zw_parse_expr.specs.declared.terminal.TheConstants.{COMMA, DOT, EQUAL, L_BRACE, NAME, R_BRACE}

-- the rule INIT
abbrev pub init : PlainRule
init = record {
  alternatives =
      record { first = (L_BRACE ∷ []); symbols = (Read BRACED ∷ []) } ∷
      record { first = []; symbols = [] } ∷
      [];
  steps = 3;
  may_be_empty = true;
}

-- the rule BRACED
abbrev pub braced : PlainRule
braced = record {
  alternatives =
      record { first = []; symbols = (Take L_BRACE ∷ Read INIT_FIRST ∷ []) } ∷
      [];
  steps = 2;
  may_be_empty = false;
}

-- the rule INIT_FIRST
abbrev pub init_first : PlainRule
init_first = record {
  alternatives =
      record { first = (R_BRACE ∷ []); symbols = (Build (Wrap StructLiteral 1) ∷ Take R_BRACE ∷ Build Close ∷ []) } ∷
      record { first = (DOT ∷ []); symbols = (Take DOT ∷ Read INIT_DOT ∷ []) } ∷
      record { first = []; symbols = (Build (Wrap ArrayLiteral 1) ∷ Read EXPR ∷ Read MORE_VALUES ∷ Take R_BRACE ∷ Build Close ∷ []) } ∷
      [];
  steps = 11;
  may_be_empty = false;
}

-- the rule INIT_DOT
abbrev pub init_dot : PlainRule
init_dot = record {
  alternatives =
      record { first = (L_BRACE ∷ []); symbols = (Build (Wrap ArrayLiteral 1) ∷ Build (Enter 1) ∷ Read ANONYMOUS ∷ Read SUFFIXES ∷ Read ERROR_UNION ∷ Read INIT ∷ Read PRODUCT ∷ Read SUM ∷ Read SHIFT ∷ Read BITS ∷ Read COMPARE ∷ Read CONJUNCTION ∷ Read DISJUNCTION ∷ Build Leave ∷ Read MORE_VALUES ∷ Take R_BRACE ∷ Build Close ∷ []) } ∷
      record { first = []; symbols = (Read ANY_NAME ∷ Read INIT_NAME ∷ []) } ∷
      [];
  steps = 5;
  may_be_empty = false;
}

-- the rule INIT_NAME
abbrev pub init_name : PlainRule
init_name = record {
  alternatives =
      record { first = (EQUAL ∷ []); symbols = (Build (Wrap StructLiteral 1) ∷ Build (Open FieldInit 2) ∷ Build (Word NAME Name QuotedName 1) ∷ Take EQUAL ∷ Read EXPR ∷ Build Close ∷ Read MORE_FIELDS ∷ Take R_BRACE ∷ Build Close ∷ []) } ∷
      record { first = []; symbols = (Build (Wrap ArrayLiteral 1) ∷ Build (Enter 2) ∷ Build (Open EnumLiteral 2) ∷ Build (Word NAME Name QuotedName 1) ∷ Build Close ∷ Read SUFFIXES ∷ Read ERROR_UNION ∷ Read INIT ∷ Read PRODUCT ∷ Read SUM ∷ Read SHIFT ∷ Read BITS ∷ Read COMPARE ∷ Read CONJUNCTION ∷ Read DISJUNCTION ∷ Build Leave ∷ Read MORE_VALUES ∷ Take R_BRACE ∷ Build Close ∷ []) } ∷
      [];
  steps = 40;
  may_be_empty = false;
}

-- the rule MORE_VALUES
abbrev pub more_values : PlainRule
more_values = record {
  alternatives =
      record { first = (COMMA ∷ []); symbols = (Take COMMA ∷ Read VALUES ∷ []) } ∷
      record { first = []; symbols = [] } ∷
      [];
  steps = 2;
  may_be_empty = true;
}

-- the rule VALUES
abbrev pub values : PlainRule
values = record {
  alternatives =
      record { first = (R_BRACE ∷ []); symbols = [] } ∷
      record { first = []; symbols = (Read EXPR ∷ Read MORE_VALUES ∷ []) } ∷
      [];
  steps = 10;
  may_be_empty = true;
}

-- the rule MORE_FIELDS
abbrev pub more_fields : PlainRule
more_fields = record {
  alternatives =
      record { first = (COMMA ∷ []); symbols = (Take COMMA ∷ Read FIELDS ∷ []) } ∷
      record { first = []; symbols = [] } ∷
      [];
  steps = 2;
  may_be_empty = true;
}

-- the rule FIELDS
abbrev pub fields : PlainRule
fields = record {
  alternatives =
      record { first = (R_BRACE ∷ []); symbols = [] } ∷
      record { first = []; symbols = (Build (Open FieldInit 0) ∷ Take DOT ∷ Read A_NAME ∷ Take EQUAL ∷ Read EXPR ∷ Build Close ∷ Read MORE_FIELDS ∷ []) } ∷
      [];
  steps = 3;
  may_be_empty = true;
}

-- these rules, in the order of their numbers
abbrev pub typed_literals_rules : List PlainRule
typed_literals_rules = init ∷ braced ∷ init_first ∷ init_dot ∷ init_name ∷ more_values ∷ values ∷ more_fields ∷ fields ∷ []
