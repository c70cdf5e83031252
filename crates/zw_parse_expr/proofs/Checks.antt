-- The grammar passes the tests of what is proved of all grammars.
use Rattle.std.proofs.Common.{◌≡◌, true, refl}
use Rattle.zw_grammar.specs.Completions.{all_complete}
use Rattle.zw_grammar.specs.Grammars.{all_end}
use Rattle.zw_parse_expr.specs.declared.terminal.TheConstants.{END}
use Rattle.zw_parse_expr.specs.Rules.{rules}
use Rattle.zw_parse_expr.specs.Terminals.{colon_before}
use Rattle.zw_parse_expr.proofs.Completions.{completions}
use Rattle.zw_parse_expr.proofs.LexemeLemmas.{colon_variants, one_before}
use Rattle.zw_grammar.proofs.Variants.{Vary, all_spelled}

pub all_rules_end : all_end rules rules ≡ true
all_rules_end = refl

pub all_rules_complete : all_complete completions END rules completions ≡ true
all_rules_complete = refl

all_rules_spelled : all_spelled colon_variants completions 0 rules completions ≡ true
unfolding colon_before
all_rules_spelled = refl

pub all_rules_vary : Vary rules completions colon_variants
all_rules_vary = record { all = refl; taking = refl; passing = refl; spelled = all_rules_spelled; one_before = one_before; plain_one = refl }
