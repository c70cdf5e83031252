-- The rules of types.
use Rattle.std.specs.Prelude.{List, [], ◌∷◌, true, false}
use Rattle.zw_tree.specs.declared.kind.NodeKind.TheVariants.{ArrayType, ManyPointerType, OptionalType, PointerType, SliceType}
use Rattle.zw_grammar.specs.declared.grammar.Mark.TheVariants.{Close, Enter, Leave, Open}
use Rattle.zw_grammar.specs.declared.grammar.Symbol.TheVariants.{Build, Read, Take}
use Rattle.zw_grammar.specs.Plain.{PlainRule}
use Rattle.zw_parse_expr.specs.declared.rule.TheConstants.{ANY_COLON, ATOM, BITS_C, BRACKET, BRACKET_STAR, COMPARE_C, CONJUNCTION_C, CONST_WORD, DISJUNCTION_C, ERROR_UNION, EXPR, EXPR_C, INIT, PRODUCT_C, SENTINEL, SHIFT_C, SUFFIXES, SUM_C, TYPE_BODY}
use Rattle.zw_parse_expr.specs.declared.terminal.TheConstants.{L_BRACKET, QUESTION, R_BRACKET, STAR, STAR_STAR}
use Rattle.zw_parse_expr.specs.Classes.{colons}

-- the rule TYPE
abbrev pub type : PlainRule
type = record {
  alternatives =
      record { first = []; symbols = (Build (Enter 0) ∷ Read TYPE_BODY ∷ Build Leave ∷ []) } ∷
      [];
  steps = 7;
  may_be_empty = false;
}

-- the rule TYPE_BODY
abbrev pub type_body : PlainRule
type_body = record {
  alternatives =
      record { first = (QUESTION ∷ []); symbols = (Build (Open OptionalType 0) ∷ Take QUESTION ∷ Read TYPE_BODY ∷ Build Close ∷ []) } ∷
      record { first = (STAR ∷ []); symbols = (Build (Open PointerType 0) ∷ Take STAR ∷ Read CONST_WORD ∷ Read TYPE_BODY ∷ Build Close ∷ []) } ∷
      record { first = (STAR_STAR ∷ []); symbols = (Build (Open PointerType 0) ∷ Build (Open PointerType 0) ∷ Take STAR_STAR ∷ Read CONST_WORD ∷ Read TYPE_BODY ∷ Build Close ∷ Build Close ∷ []) } ∷
      record { first = (L_BRACKET ∷ []); symbols = (Take L_BRACKET ∷ Read BRACKET ∷ []) } ∷
      record { first = []; symbols = (Read ATOM ∷ Read SUFFIXES ∷ Read ERROR_UNION ∷ []) } ∷
      [];
  steps = 5;
  may_be_empty = false;
}

-- the rule BRACKET
abbrev pub bracket : PlainRule
bracket = record {
  alternatives =
      record { first = (STAR ∷ []); symbols = (Take STAR ∷ Read BRACKET_STAR ∷ []) } ∷
      record { first = (R_BRACKET ∷ []); symbols = (Build (Open SliceType 1) ∷ Take R_BRACKET ∷ Read CONST_WORD ∷ Read TYPE_BODY ∷ Build Close ∷ []) } ∷
      record { first = colons; symbols = (Build (Open SliceType 1) ∷ Read ANY_COLON ∷ Read EXPR ∷ Take R_BRACKET ∷ Read CONST_WORD ∷ Read TYPE_BODY ∷ Build Close ∷ []) } ∷
      record { first = []; symbols = (Build (Open ArrayType 1) ∷ Read EXPR_C ∷ Read SENTINEL ∷ Take R_BRACKET ∷ Read TYPE_BODY ∷ Build Close ∷ []) } ∷
      [];
  steps = 11;
  may_be_empty = false;
}

-- the rule BRACKET_STAR
abbrev pub bracket_star : PlainRule
bracket_star = record {
  alternatives =
      record { first = (R_BRACKET ∷ []); symbols = (Build (Open ManyPointerType 2) ∷ Take R_BRACKET ∷ Read CONST_WORD ∷ Read TYPE_BODY ∷ Build Close ∷ []) } ∷
      record { first = []; symbols = (Build (Open ArrayType 2) ∷ Build (Enter 1) ∷ Build (Open PointerType 1) ∷ Read CONST_WORD ∷ Read TYPE_BODY ∷ Build Close ∷ Read INIT ∷ Read PRODUCT_C ∷ Read SUM_C ∷ Read SHIFT_C ∷ Read BITS_C ∷ Read COMPARE_C ∷ Read CONJUNCTION_C ∷ Read DISJUNCTION_C ∷ Build Leave ∷ Read SENTINEL ∷ Take R_BRACKET ∷ Read TYPE_BODY ∷ Build Close ∷ []) } ∷
      [];
  steps = 12;
  may_be_empty = false;
}

-- the rule SENTINEL
abbrev pub sentinel : PlainRule
sentinel = record {
  alternatives =
      record { first = colons; symbols = (Read ANY_COLON ∷ Read EXPR ∷ []) } ∷
      record { first = []; symbols = [] } ∷
      [];
  steps = 3;
  may_be_empty = true;
}

-- these rules, in the order of their numbers
abbrev pub types_rules : List PlainRule
types_rules = type ∷ type_body ∷ bracket ∷ bracket_star ∷ sentinel ∷ []
