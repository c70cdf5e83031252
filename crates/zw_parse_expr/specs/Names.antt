-- The rules of names.
use Rattle.std.specs.Prelude.{List, [], ◌∷◌, true, false}
use Rattle.zw_tree.specs.declared.kind.NodeKind.TheVariants.{Blank, Capture, ConstWord, Name, PointerCapture, QuotedName}
use Rattle.zw_grammar.specs.declared.grammar.Mark.TheVariants.{Close, Leaf, Open}
use Rattle.zw_grammar.specs.declared.grammar.Symbol.TheVariants.{Build, Read, Take}
use Rattle.zw_grammar.specs.Plain.{PlainRule}
use Rattle.zw_parse_expr.specs.declared.rule.TheConstants.{A_NAME, BARRED, BINDING, MORE_NAMES, NAMES}
use Rattle.zw_parse_expr.specs.declared.terminal.TheConstants.{BLANK, COLON, COLON_NAME, COLON_TARGET, COMMA, CONST, NAME, PIPE, QUOTED, R_BRACE, STAR}

-- the rule ANY_NAME
abbrev pub any_name : PlainRule
any_name = record {
  alternatives =
      record { first = (NAME ∷ []); symbols = (Take NAME ∷ []) } ∷
      record { first = (QUOTED ∷ []); symbols = (Take QUOTED ∷ []) } ∷
      [];
  steps = 2;
  may_be_empty = false;
}

-- the rule A_NAME
abbrev pub a_name : PlainRule
a_name = record {
  alternatives =
      record { first = (QUOTED ∷ []); symbols = (Build (Leaf QuotedName 0) ∷ Take QUOTED ∷ []) } ∷
      record { first = []; symbols = (Build (Leaf Name 0) ∷ Take NAME ∷ []) } ∷
      [];
  steps = 3;
  may_be_empty = false;
}

-- the rule BINDING
abbrev pub binding : PlainRule
binding = record {
  alternatives =
      record { first = (BLANK ∷ []); symbols = (Build (Leaf Blank 0) ∷ Take BLANK ∷ []) } ∷
      record { first = []; symbols = (Read A_NAME ∷ []) } ∷
      [];
  steps = 4;
  may_be_empty = false;
}

-- the rule ANY_COLON
abbrev pub any_colon : PlainRule
any_colon = record {
  alternatives =
      record { first = (COLON_TARGET ∷ []); symbols = (Take COLON_TARGET ∷ []) } ∷
      record { first = (COLON_NAME ∷ []); symbols = (Take COLON_NAME ∷ []) } ∷
      record { first = []; symbols = (Take COLON ∷ []) } ∷
      [];
  steps = 2;
  may_be_empty = false;
}

-- the rule NAMES
abbrev pub names : PlainRule
names = record {
  alternatives =
      record { first = (R_BRACE ∷ []); symbols = [] } ∷
      record { first = []; symbols = (Read A_NAME ∷ Read MORE_NAMES ∷ []) } ∷
      [];
  steps = 4;
  may_be_empty = true;
}

-- the rule MORE_NAMES
abbrev pub more_names : PlainRule
more_names = record {
  alternatives =
      record { first = (COMMA ∷ []); symbols = (Take COMMA ∷ Read NAMES ∷ []) } ∷
      record { first = []; symbols = [] } ∷
      [];
  steps = 2;
  may_be_empty = true;
}

-- the rule CONST_WORD
abbrev pub const_word : PlainRule
const_word = record {
  alternatives =
      record { first = (CONST ∷ []); symbols = (Build (Leaf ConstWord 0) ∷ Take CONST ∷ []) } ∷
      record { first = []; symbols = [] } ∷
      [];
  steps = 3;
  may_be_empty = true;
}

-- the rule CAPTURE
abbrev pub capture : PlainRule
capture = record {
  alternatives =
      record { first = (PIPE ∷ []); symbols = (Take PIPE ∷ Read BARRED ∷ []) } ∷
      record { first = []; symbols = [] } ∷
      [];
  steps = 2;
  may_be_empty = true;
}

-- the rule BARRED
abbrev pub barred : PlainRule
barred = record {
  alternatives =
      record { first = (STAR ∷ []); symbols = (Build (Open PointerCapture 1) ∷ Take STAR ∷ Read BINDING ∷ Take PIPE ∷ Build Close ∷ []) } ∷
      record { first = []; symbols = (Build (Open Capture 1) ∷ Read BINDING ∷ Take PIPE ∷ Build Close ∷ []) } ∷
      [];
  steps = 6;
  may_be_empty = false;
}

-- the rule PLAIN_CAPTURE
abbrev pub plain_capture : PlainRule
plain_capture = record {
  alternatives =
      record { first = (PIPE ∷ []); symbols = (Build (Open Capture 0) ∷ Take PIPE ∷ Read BINDING ∷ Take PIPE ∷ Build Close ∷ []) } ∷
      record { first = []; symbols = [] } ∷
      [];
  steps = 3;
  may_be_empty = true;
}

-- these rules, in the order of their numbers
abbrev pub names_rules : List PlainRule
names_rules = any_name ∷ a_name ∷ binding ∷ any_colon ∷ names ∷ more_names ∷ const_word ∷ capture ∷ barred ∷ plain_capture ∷ []
