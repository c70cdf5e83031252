-- The rules of public declarations.
use Rattle.std.specs.Prelude.{List, [], ◌∷◌, false}
use Rattle.zw_tree.specs.declared.kind.NodeKind.TheVariants.{Const, Function, PubWord, Var}
use Rattle.zw_grammar.specs.declared.grammar.Mark.TheVariants.{Close, Leaf, Open}
use Rattle.zw_grammar.specs.declared.grammar.Symbol.TheVariants.{Build, Read, Take}
use Rattle.zw_grammar.specs.Plain.{PlainRule}
use Rattle.zw_parse_expr.specs.declared.rule.TheConstants.{EXPORTED, FUNCTION, NOINLINED, OUTSIDE, VARIABLE}
use Rattle.zw_parse_expr.specs.declared.terminal.TheConstants.{CONST, EXPORT, FN, NOINLINE, SEMICOLON, VAR}

-- the rule PUBLIC
abbrev pub public : PlainRule
public = record {
  alternatives =
      record { first = (CONST ∷ []); symbols = (Build (Open Const 1) ∷ Build (Leaf PubWord 1) ∷ Take CONST ∷ Read VARIABLE ∷ Build Close ∷ Take SEMICOLON ∷ []) } ∷
      record { first = (VAR ∷ []); symbols = (Build (Open Var 1) ∷ Build (Leaf PubWord 1) ∷ Take VAR ∷ Read VARIABLE ∷ Build Close ∷ Take SEMICOLON ∷ []) } ∷
      record { first = (FN ∷ []); symbols = (Build (Open Function 1) ∷ Build (Leaf PubWord 1) ∷ Read FUNCTION ∷ Build Close ∷ []) } ∷
      record { first = (EXPORT ∷ []); symbols = (Build (Open Function 1) ∷ Build (Leaf PubWord 1) ∷ Read EXPORTED ∷ Build Close ∷ []) } ∷
      record { first = (NOINLINE ∷ []); symbols = (Build (Open Function 1) ∷ Build (Leaf PubWord 1) ∷ Read NOINLINED ∷ Build Close ∷ []) } ∷
      record { first = []; symbols = (Build (Open Function 1) ∷ Build (Leaf PubWord 1) ∷ Read OUTSIDE ∷ Take SEMICOLON ∷ Build Close ∷ []) } ∷
      [];
  steps = 6;
  may_be_empty = false;
}

-- these rules, in the order of their numbers
abbrev pub public_declarations_rules : List PlainRule
public_declarations_rules = public ∷ []
