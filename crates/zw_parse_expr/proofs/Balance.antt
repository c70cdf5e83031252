-- The marks of the grammar balance.
use Rattle.std.proofs.Common.{◌≡◌, true, [], ◌∷◌, refl}
use Rattle.zw_grammar.specs.declared.grammar.Symbol.TheVariants.{Read}
use Rattle.zw_grammar.specs.Balances.{Balances, all_balance}
use Rattle.zw_parse_expr.specs.declared.rule.TheConstants.{STRUCT_MEMBERS}
use Rattle.zw_parse_expr.specs.Rules.{rules}
use Rattle.zw_parse_expr.proofs.Courses.{courses}

all_rules_balance : all_balance courses rules courses ≡ true
all_rules_balance = refl

-- and so do those of a file
pub file_balances : Balances rules (Read STRUCT_MEMBERS ∷ [])
file_balances = record { courses = courses; all = all_rules_balance; whole = refl }
