-- The rules of declarations.
use Rattle.std.specs.Prelude.{List, [], ◌∷◌, false}
use Rattle.zw_tree.specs.declared.kind.NodeKind.TheVariants.{ComptimeBlock, Const, Function, Test, Var}
use Rattle.zw_grammar.specs.declared.grammar.Mark.TheVariants.{Close, Enter, Leave, Open}
use Rattle.zw_grammar.specs.declared.grammar.Symbol.TheVariants.{Build, Read, Take}
use Rattle.zw_grammar.specs.Plain.{PlainRule}
use Rattle.zw_parse_expr.specs.declared.rule.TheConstants.{ANY_DECLARATION, BLOCK, EXPORTED, FUNCTION, NOINLINED, OUTSIDE, PUBLIC, TEST_NAME, VARIABLE}
use Rattle.zw_parse_expr.specs.declared.terminal.TheConstants.{COMPTIME, CONST, EXPORT, EXTERN, FN, NOINLINE, PUB, SEMICOLON, TEST, VAR}

-- the rule DECLARATION
abbrev pub declaration : PlainRule
declaration = record {
  alternatives =
      record { first = []; symbols = (Build (Enter 0) ∷ Read ANY_DECLARATION ∷ Build Leave ∷ []) } ∷
      [];
  steps = 7;
  may_be_empty = false;
}

-- the rule ANY_DECLARATION
abbrev pub any_declaration : PlainRule
any_declaration = record {
  alternatives =
      record { first = (CONST ∷ []); symbols = (Build (Open Const 0) ∷ Take CONST ∷ Read VARIABLE ∷ Build Close ∷ Take SEMICOLON ∷ []) } ∷
      record { first = (VAR ∷ []); symbols = (Build (Open Var 0) ∷ Take VAR ∷ Read VARIABLE ∷ Build Close ∷ Take SEMICOLON ∷ []) } ∷
      record { first = (FN ∷ []); symbols = (Build (Open Function 0) ∷ Read FUNCTION ∷ Build Close ∷ []) } ∷
      record { first = (EXPORT ∷ []); symbols = (Build (Open Function 0) ∷ Read EXPORTED ∷ Build Close ∷ []) } ∷
      record { first = (NOINLINE ∷ []); symbols = (Build (Open Function 0) ∷ Read NOINLINED ∷ Build Close ∷ []) } ∷
      record { first = (EXTERN ∷ []); symbols = (Build (Open Function 0) ∷ Read OUTSIDE ∷ Take SEMICOLON ∷ Build Close ∷ []) } ∷
      record { first = (PUB ∷ []); symbols = (Take PUB ∷ Read PUBLIC ∷ []) } ∷
      record { first = (TEST ∷ []); symbols = (Build (Open Test 0) ∷ Take TEST ∷ Read TEST_NAME ∷ Read BLOCK ∷ Build Close ∷ []) } ∷
      record { first = []; symbols = (Build (Open ComptimeBlock 0) ∷ Take COMPTIME ∷ Read BLOCK ∷ Build Close ∷ []) } ∷
      [];
  steps = 5;
  may_be_empty = false;
}

-- these rules, in the order of their numbers
abbrev pub declarations_rules : List PlainRule
declarations_rules = declaration ∷ any_declaration ∷ []
