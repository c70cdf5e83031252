-- The rules of bits.
use Rattle.std.specs.Prelude.{List, [], ◌∷◌, true}
use Rattle.zw_tree.specs.declared.kind.NodeKind.TheVariants.{Add, AddSaturate, AddWrap, BitAnd, BitOr, BitXor, Catch, Concatenate, OrElse, ShiftLeft, ShiftLeftSaturate, ShiftRight, Subtract, SubtractSaturate, SubtractWrap}
use Rattle.zw_grammar.specs.declared.grammar.Mark.TheVariants.{Close, Wrap}
use Rattle.zw_grammar.specs.declared.grammar.Symbol.TheVariants.{Build, Read, Take}
use Rattle.zw_grammar.specs.Plain.{PlainRule}
use Rattle.zw_parse_expr.specs.declared.rule.TheConstants.{BITS, PLAIN_CAPTURE, PREFIX, PRODUCT, SHIFT, SUM}
use Rattle.zw_parse_expr.specs.declared.terminal.TheConstants.{AMPERSAND, CARET, CATCH, GREATER_GREATER, LESS_LESS, LESS_LESS_PIPE, MINUS, MINUS_PERCENT, MINUS_PIPE, ORELSE, PIPE, PLUS, PLUS_PERCENT, PLUS_PIPE, PLUS_PLUS}

-- the rule BITS
abbrev pub bits : PlainRule
bits = record {
  alternatives =
      record { first = (AMPERSAND ∷ []); symbols = (Build (Wrap BitAnd 1) ∷ Take AMPERSAND ∷ Read PREFIX ∷ Read PRODUCT ∷ Read SUM ∷ Read SHIFT ∷ Build Close ∷ Read BITS ∷ []) } ∷
      record { first = (CARET ∷ []); symbols = (Build (Wrap BitXor 1) ∷ Take CARET ∷ Read PREFIX ∷ Read PRODUCT ∷ Read SUM ∷ Read SHIFT ∷ Build Close ∷ Read BITS ∷ []) } ∷
      record { first = (PIPE ∷ []); symbols = (Build (Wrap BitOr 1) ∷ Take PIPE ∷ Read PREFIX ∷ Read PRODUCT ∷ Read SUM ∷ Read SHIFT ∷ Build Close ∷ Read BITS ∷ []) } ∷
      record { first = (ORELSE ∷ []); symbols = (Build (Wrap OrElse 1) ∷ Take ORELSE ∷ Read PREFIX ∷ Read PRODUCT ∷ Read SUM ∷ Read SHIFT ∷ Build Close ∷ Read BITS ∷ []) } ∷
      record { first = (CATCH ∷ []); symbols = (Build (Wrap Catch 1) ∷ Take CATCH ∷ Read PLAIN_CAPTURE ∷ Read PREFIX ∷ Read PRODUCT ∷ Read SUM ∷ Read SHIFT ∷ Build Close ∷ Read BITS ∷ []) } ∷
      record { first = []; symbols = [] } ∷
      [];
  steps = 3;
  may_be_empty = true;
}

-- the rule SHIFT
abbrev pub shift : PlainRule
shift = record {
  alternatives =
      record { first = (LESS_LESS ∷ []); symbols = (Build (Wrap ShiftLeft 1) ∷ Take LESS_LESS ∷ Read PREFIX ∷ Read PRODUCT ∷ Read SUM ∷ Build Close ∷ Read SHIFT ∷ []) } ∷
      record { first = (GREATER_GREATER ∷ []); symbols = (Build (Wrap ShiftRight 1) ∷ Take GREATER_GREATER ∷ Read PREFIX ∷ Read PRODUCT ∷ Read SUM ∷ Build Close ∷ Read SHIFT ∷ []) } ∷
      record { first = (LESS_LESS_PIPE ∷ []); symbols = (Build (Wrap ShiftLeftSaturate 1) ∷ Take LESS_LESS_PIPE ∷ Read PREFIX ∷ Read PRODUCT ∷ Read SUM ∷ Build Close ∷ Read SHIFT ∷ []) } ∷
      record { first = []; symbols = [] } ∷
      [];
  steps = 3;
  may_be_empty = true;
}

-- the rule SUM
abbrev pub sum : PlainRule
sum = record {
  alternatives =
      record { first = (PLUS ∷ []); symbols = (Build (Wrap Add 1) ∷ Take PLUS ∷ Read PREFIX ∷ Read PRODUCT ∷ Build Close ∷ Read SUM ∷ []) } ∷
      record { first = (MINUS ∷ []); symbols = (Build (Wrap Subtract 1) ∷ Take MINUS ∷ Read PREFIX ∷ Read PRODUCT ∷ Build Close ∷ Read SUM ∷ []) } ∷
      record { first = (PLUS_PLUS ∷ []); symbols = (Build (Wrap Concatenate 1) ∷ Take PLUS_PLUS ∷ Read PREFIX ∷ Read PRODUCT ∷ Build Close ∷ Read SUM ∷ []) } ∷
      record { first = (PLUS_PERCENT ∷ []); symbols = (Build (Wrap AddWrap 1) ∷ Take PLUS_PERCENT ∷ Read PREFIX ∷ Read PRODUCT ∷ Build Close ∷ Read SUM ∷ []) } ∷
      record { first = (MINUS_PERCENT ∷ []); symbols = (Build (Wrap SubtractWrap 1) ∷ Take MINUS_PERCENT ∷ Read PREFIX ∷ Read PRODUCT ∷ Build Close ∷ Read SUM ∷ []) } ∷
      record { first = (PLUS_PIPE ∷ []); symbols = (Build (Wrap AddSaturate 1) ∷ Take PLUS_PIPE ∷ Read PREFIX ∷ Read PRODUCT ∷ Build Close ∷ Read SUM ∷ []) } ∷
      record { first = (MINUS_PIPE ∷ []); symbols = (Build (Wrap SubtractSaturate 1) ∷ Take MINUS_PIPE ∷ Read PREFIX ∷ Read PRODUCT ∷ Build Close ∷ Read SUM ∷ []) } ∷
      record { first = []; symbols = [] } ∷
      [];
  steps = 3;
  may_be_empty = true;
}

-- these rules, in the order of their numbers
abbrev pub bits_rules : List PlainRule
bits_rules = bits ∷ shift ∷ sum ∷ []
