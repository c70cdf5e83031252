-- The rules of suffixes.
use Rattle.std.specs.Prelude.{List, [], ◌∷◌, true, false}
use Rattle.zw_tree.specs.declared.kind.NodeKind.TheVariants.{Call, Dereference, ErrorUnionType, FieldAccess, Index, Slicing, Unwrap}
use Rattle.zw_grammar.specs.declared.grammar.Mark.TheVariants.{Close, Wrap}
use Rattle.zw_grammar.specs.declared.grammar.Symbol.TheVariants.{Build, Read, Take}
use Rattle.zw_grammar.specs.Plain.{PlainRule}
use Rattle.zw_parse_expr.specs.declared.rule.TheConstants.{ARGUMENTS, A_NAME, EXPR, INDEX_END, MORE_ARGUMENTS, SLICE_END, SUFFIXES, TYPE}
use Rattle.zw_parse_expr.specs.declared.terminal.TheConstants.{BANG, COMMA, DOT, DOT_DOT, DOT_QUESTION, DOT_STAR, L_BRACKET, L_PAREN, R_BRACKET, R_PAREN}

-- the rule ERROR_UNION
abbrev pub error_union : PlainRule
error_union = record {
  alternatives =
      record { first = (BANG ∷ []); symbols = (Build (Wrap ErrorUnionType 1) ∷ Take BANG ∷ Read TYPE ∷ Build Close ∷ []) } ∷
      record { first = []; symbols = [] } ∷
      [];
  steps = 3;
  may_be_empty = true;
}

-- the rule SUFFIXES
abbrev pub suffixes : PlainRule
suffixes = record {
  alternatives =
      record { first = (L_BRACKET ∷ []); symbols = (Take L_BRACKET ∷ Read EXPR ∷ Read INDEX_END ∷ Read SUFFIXES ∷ []) } ∷
      record { first = (DOT ∷ []); symbols = (Build (Wrap FieldAccess 1) ∷ Take DOT ∷ Read A_NAME ∷ Build Close ∷ Read SUFFIXES ∷ []) } ∷
      record { first = (DOT_STAR ∷ []); symbols = (Build (Wrap Dereference 1) ∷ Take DOT_STAR ∷ Build Close ∷ Read SUFFIXES ∷ []) } ∷
      record { first = (DOT_QUESTION ∷ []); symbols = (Build (Wrap Unwrap 1) ∷ Take DOT_QUESTION ∷ Build Close ∷ Read SUFFIXES ∷ []) } ∷
      record { first = (L_PAREN ∷ []); symbols = (Build (Wrap Call 1) ∷ Take L_PAREN ∷ Read ARGUMENTS ∷ Take R_PAREN ∷ Build Close ∷ Read SUFFIXES ∷ []) } ∷
      record { first = []; symbols = [] } ∷
      [];
  steps = 3;
  may_be_empty = true;
}

-- the rule INDEX_END
abbrev pub index_end : PlainRule
index_end = record {
  alternatives =
      record { first = (DOT_DOT ∷ []); symbols = (Build (Wrap Slicing 2) ∷ Take DOT_DOT ∷ Read SLICE_END ∷ Take R_BRACKET ∷ Build Close ∷ []) } ∷
      record { first = []; symbols = (Build (Wrap Index 2) ∷ Take R_BRACKET ∷ Build Close ∷ []) } ∷
      [];
  steps = 3;
  may_be_empty = false;
}

-- the rule SLICE_END
abbrev pub slice_end : PlainRule
slice_end = record {
  alternatives =
      record { first = (R_BRACKET ∷ []); symbols = [] } ∷
      record { first = []; symbols = (Read EXPR ∷ []) } ∷
      [];
  steps = 10;
  may_be_empty = true;
}

-- the rule ARGUMENTS
abbrev pub arguments : PlainRule
arguments = record {
  alternatives =
      record { first = (R_PAREN ∷ []); symbols = [] } ∷
      record { first = []; symbols = (Read EXPR ∷ Read MORE_ARGUMENTS ∷ []) } ∷
      [];
  steps = 10;
  may_be_empty = true;
}

-- the rule MORE_ARGUMENTS
abbrev pub more_arguments : PlainRule
more_arguments = record {
  alternatives =
      record { first = (COMMA ∷ []); symbols = (Take COMMA ∷ Read ARGUMENTS ∷ []) } ∷
      record { first = []; symbols = [] } ∷
      [];
  steps = 2;
  may_be_empty = true;
}

-- these rules, in the order of their numbers
abbrev pub suffixes_rules : List PlainRule
suffixes_rules = error_union ∷ suffixes ∷ index_end ∷ slice_end ∷ arguments ∷ more_arguments ∷ []
