-- The rules of products.
use Rattle.std.specs.Prelude.{List, [], ◌∷◌, true, false}
use Rattle.zw_tree.specs.declared.kind.NodeKind.TheVariants.{AddressOf, BitNot, Divide, MergeErrors, Multiply, MultiplySaturate, MultiplyWrap, Negate, NegateWrap, Not, Remainder, Repeat, Try}
use Rattle.zw_grammar.specs.declared.grammar.Mark.TheVariants.{Close, Open, Wrap}
use Rattle.zw_grammar.specs.declared.grammar.Symbol.TheVariants.{Build, Read, Take}
use Rattle.zw_grammar.specs.Plain.{PlainRule}
use Rattle.zw_parse_expr.specs.declared.rule.TheConstants.{PREFIX, PRIMARY, PRODUCT}
use Rattle.zw_parse_expr.specs.declared.terminal.TheConstants.{AMPERSAND, BANG, MINUS, MINUS_PERCENT, PERCENT, PIPE_PIPE, SLASH, STAR, STAR_PERCENT, STAR_PIPE, STAR_STAR, TILDE, TRY}

-- the rule PRODUCT
abbrev pub product : PlainRule
product = record {
  alternatives =
      record { first = (STAR ∷ []); symbols = (Build (Wrap Multiply 1) ∷ Take STAR ∷ Read PREFIX ∷ Build Close ∷ Read PRODUCT ∷ []) } ∷
      record { first = (SLASH ∷ []); symbols = (Build (Wrap Divide 1) ∷ Take SLASH ∷ Read PREFIX ∷ Build Close ∷ Read PRODUCT ∷ []) } ∷
      record { first = (PERCENT ∷ []); symbols = (Build (Wrap Remainder 1) ∷ Take PERCENT ∷ Read PREFIX ∷ Build Close ∷ Read PRODUCT ∷ []) } ∷
      record { first = (STAR_STAR ∷ []); symbols = (Build (Wrap Repeat 1) ∷ Take STAR_STAR ∷ Read PREFIX ∷ Build Close ∷ Read PRODUCT ∷ []) } ∷
      record { first = (STAR_PERCENT ∷ []); symbols = (Build (Wrap MultiplyWrap 1) ∷ Take STAR_PERCENT ∷ Read PREFIX ∷ Build Close ∷ Read PRODUCT ∷ []) } ∷
      record { first = (STAR_PIPE ∷ []); symbols = (Build (Wrap MultiplySaturate 1) ∷ Take STAR_PIPE ∷ Read PREFIX ∷ Build Close ∷ Read PRODUCT ∷ []) } ∷
      record { first = (PIPE_PIPE ∷ []); symbols = (Build (Wrap MergeErrors 1) ∷ Take PIPE_PIPE ∷ Read PREFIX ∷ Build Close ∷ Read PRODUCT ∷ []) } ∷
      record { first = []; symbols = [] } ∷
      [];
  steps = 3;
  may_be_empty = true;
}

-- the rule PREFIX
abbrev pub prefix : PlainRule
prefix = record {
  alternatives =
      record { first = (BANG ∷ []); symbols = (Build (Open Not 0) ∷ Take BANG ∷ Read PREFIX ∷ Build Close ∷ []) } ∷
      record { first = (MINUS ∷ []); symbols = (Build (Open Negate 0) ∷ Take MINUS ∷ Read PREFIX ∷ Build Close ∷ []) } ∷
      record { first = (TILDE ∷ []); symbols = (Build (Open BitNot 0) ∷ Take TILDE ∷ Read PREFIX ∷ Build Close ∷ []) } ∷
      record { first = (MINUS_PERCENT ∷ []); symbols = (Build (Open NegateWrap 0) ∷ Take MINUS_PERCENT ∷ Read PREFIX ∷ Build Close ∷ []) } ∷
      record { first = (AMPERSAND ∷ []); symbols = (Build (Open AddressOf 0) ∷ Take AMPERSAND ∷ Read PREFIX ∷ Build Close ∷ []) } ∷
      record { first = (TRY ∷ []); symbols = (Build (Open Try 0) ∷ Take TRY ∷ Read PREFIX ∷ Build Close ∷ []) } ∷
      record { first = []; symbols = (Read PRIMARY ∷ []) } ∷
      [];
  steps = 7;
  may_be_empty = false;
}

-- these rules, in the order of their numbers
abbrev pub products_rules : List PlainRule
products_rules = product ∷ prefix ∷ []
