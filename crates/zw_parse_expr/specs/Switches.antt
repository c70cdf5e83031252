-- The rules of switches.
use Rattle.std.specs.Prelude.{List, [], ◌∷◌, true, false}
use Rattle.zw_tree.specs.declared.kind.NodeKind.TheVariants.{CaseRange, ElseProng, Prong, Switch}
use Rattle.zw_grammar.specs.declared.grammar.Mark.TheVariants.{Close, Open, Wrap}
use Rattle.zw_grammar.specs.declared.grammar.Symbol.TheVariants.{Build, Read, Take}
use Rattle.zw_grammar.specs.Plain.{PlainRule}
use Rattle.zw_parse_expr.specs.declared.rule.TheConstants.{ASSIGN, CAPTURE, CASE, CASE_END, EXPR, MORE_CASES, MORE_PRONGS, NEXT_CASE, PRONG, PRONGS}
use Rattle.zw_parse_expr.specs.declared.terminal.TheConstants.{ARROW, COMMA, DOT_DOT_DOT, ELSE, L_BRACE, L_PAREN, R_BRACE, R_PAREN, SWITCH}

-- the rule SWITCH_FORM
abbrev pub switch_form : PlainRule
switch_form = record {
  alternatives =
      record { first = []; symbols = (Build (Open Switch 0) ∷ Take SWITCH ∷ Take L_PAREN ∷ Read EXPR ∷ Take R_PAREN ∷ Take L_BRACE ∷ Read PRONGS ∷ Take R_BRACE ∷ Build Close ∷ []) } ∷
      [];
  steps = 3;
  may_be_empty = false;
}

-- the rule PRONGS
abbrev pub prongs : PlainRule
prongs = record {
  alternatives =
      record { first = (R_BRACE ∷ []); symbols = [] } ∷
      record { first = []; symbols = (Read PRONG ∷ Read MORE_PRONGS ∷ []) } ∷
      [];
  steps = 13;
  may_be_empty = true;
}

-- the rule MORE_PRONGS
abbrev pub more_prongs : PlainRule
more_prongs = record {
  alternatives =
      record { first = (COMMA ∷ []); symbols = (Take COMMA ∷ Read PRONGS ∷ []) } ∷
      record { first = []; symbols = [] } ∷
      [];
  steps = 2;
  may_be_empty = true;
}

-- the rule PRONG
abbrev pub prong : PlainRule
prong = record {
  alternatives =
      record { first = (ELSE ∷ []); symbols = (Build (Open ElseProng 0) ∷ Take ELSE ∷ Take ARROW ∷ Read CAPTURE ∷ Read ASSIGN ∷ Build Close ∷ []) } ∷
      record { first = []; symbols = (Build (Open Prong 0) ∷ Read CASE ∷ Read MORE_CASES ∷ Take ARROW ∷ Read CAPTURE ∷ Read ASSIGN ∷ Build Close ∷ []) } ∷
      [];
  steps = 12;
  may_be_empty = false;
}

-- the rule CASE
abbrev pub case : PlainRule
case = record {
  alternatives =
      record { first = []; symbols = (Read EXPR ∷ Read CASE_END ∷ []) } ∷
      [];
  steps = 10;
  may_be_empty = false;
}

-- the rule CASE_END
abbrev pub case_end : PlainRule
case_end = record {
  alternatives =
      record { first = (DOT_DOT_DOT ∷ []); symbols = (Build (Wrap CaseRange 1) ∷ Take DOT_DOT_DOT ∷ Read EXPR ∷ Build Close ∷ []) } ∷
      record { first = []; symbols = [] } ∷
      [];
  steps = 3;
  may_be_empty = true;
}

-- the rule MORE_CASES
abbrev pub more_cases : PlainRule
more_cases = record {
  alternatives =
      record { first = (COMMA ∷ []); symbols = (Take COMMA ∷ Read NEXT_CASE ∷ []) } ∷
      record { first = []; symbols = [] } ∷
      [];
  steps = 2;
  may_be_empty = true;
}

-- the rule NEXT_CASE
abbrev pub next_case : PlainRule
next_case = record {
  alternatives =
      record { first = (ARROW ∷ []); symbols = [] } ∷
      record { first = []; symbols = (Read CASE ∷ Read MORE_CASES ∷ []) } ∷
      [];
  steps = 11;
  may_be_empty = true;
}

-- these rules, in the order of their numbers
abbrev pub switches_rules : List PlainRule
switches_rules = switch_form ∷ prongs ∷ more_prongs ∷ prong ∷ case ∷ case_end ∷ more_cases ∷ next_case ∷ []
