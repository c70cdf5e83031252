-- The rules of anonymous literals.
use Rattle.std.specs.Prelude.{List, [], ◌∷◌, false}
use Rattle.zw_tree.specs.declared.kind.NodeKind.TheVariants.{AnonymousArray, AnonymousStruct, EnumLiteral, FieldInit, Name, QuotedName}
use Rattle.zw_grammar.specs.declared.grammar.Mark.TheVariants.{Close, Enter, Leave, Open, Word}
use Rattle.zw_grammar.specs.declared.grammar.Symbol.TheVariants.{Build, Read, Take}
use Rattle.zw_grammar.specs.Plain.{PlainRule}
use Rattle.zw_parse_expr.specs.declared.rule.TheConstants.{ANONYMOUS, ANONYMOUS_DOT, ANONYMOUS_FIRST, ANONYMOUS_NAME, ANY_NAME, BITS, COMPARE, CONJUNCTION, DISJUNCTION, ERROR_UNION, EXPR, INIT, MORE_FIELDS, MORE_VALUES, PRODUCT, SHIFT, SUFFIXES, SUM}
use Rattle.zw_parse_expr.specs.declared.terminal.TheConstants.{DOT, EQUAL, L_BRACE, NAME, R_BRACE}

-- the rule ANONYMOUS
abbrev pub anonymous : PlainRule
anonymous = record {
  alternatives =
      record { first = []; symbols = (Take L_BRACE ∷ Read ANONYMOUS_FIRST ∷ []) } ∷
      [];
  steps = 2;
  may_be_empty = false;
}

-- the rule ANONYMOUS_FIRST
abbrev pub anonymous_first : PlainRule
anonymous_first = record {
  alternatives =
      record { first = (R_BRACE ∷ []); symbols = (Build (Open AnonymousStruct 2) ∷ Take R_BRACE ∷ Build Close ∷ []) } ∷
      record { first = (DOT ∷ []); symbols = (Take DOT ∷ Read ANONYMOUS_DOT ∷ []) } ∷
      record { first = []; symbols = (Build (Open AnonymousArray 2) ∷ Read EXPR ∷ Read MORE_VALUES ∷ Take R_BRACE ∷ Build Close ∷ []) } ∷
      [];
  steps = 11;
  may_be_empty = false;
}

-- the rule ANONYMOUS_DOT
abbrev pub anonymous_dot : PlainRule
anonymous_dot = record {
  alternatives =
      record { first = (L_BRACE ∷ []); symbols = (Build (Open AnonymousArray 3) ∷ Build (Enter 1) ∷ Read ANONYMOUS ∷ Read SUFFIXES ∷ Read ERROR_UNION ∷ Read INIT ∷ Read PRODUCT ∷ Read SUM ∷ Read SHIFT ∷ Read BITS ∷ Read COMPARE ∷ Read CONJUNCTION ∷ Read DISJUNCTION ∷ Build Leave ∷ Read MORE_VALUES ∷ Take R_BRACE ∷ Build Close ∷ []) } ∷
      record { first = []; symbols = (Read ANY_NAME ∷ Read ANONYMOUS_NAME ∷ []) } ∷
      [];
  steps = 5;
  may_be_empty = false;
}

-- the rule ANONYMOUS_NAME
abbrev pub anonymous_name : PlainRule
anonymous_name = record {
  alternatives =
      record { first = (EQUAL ∷ []); symbols = (Build (Open AnonymousStruct 4) ∷ Build (Open FieldInit 2) ∷ Build (Word NAME Name QuotedName 1) ∷ Take EQUAL ∷ Read EXPR ∷ Build Close ∷ Read MORE_FIELDS ∷ Take R_BRACE ∷ Build Close ∷ []) } ∷
      record { first = []; symbols = (Build (Open AnonymousArray 4) ∷ Build (Enter 2) ∷ Build (Open EnumLiteral 2) ∷ Build (Word NAME Name QuotedName 1) ∷ Build Close ∷ Read SUFFIXES ∷ Read ERROR_UNION ∷ Read INIT ∷ Read PRODUCT ∷ Read SUM ∷ Read SHIFT ∷ Read BITS ∷ Read COMPARE ∷ Read CONJUNCTION ∷ Read DISJUNCTION ∷ Build Leave ∷ Read MORE_VALUES ∷ Take R_BRACE ∷ Build Close ∷ []) } ∷
      [];
  steps = 40;
  may_be_empty = false;
}

-- these rules, in the order of their numbers
abbrev pub anonymous_literals_rules : List PlainRule
anonymous_literals_rules = anonymous ∷ anonymous_first ∷ anonymous_dot ∷ anonymous_name ∷ []
