-- A file has at most two nodes for each token before its end.
use Rattle.std.proofs.Common.{◌≡◌, ◌-◌, ◌*◌, ◌≤◌, true, List, length, refl, arith}
use Rattle.zw_grammar.specs.Building.{Building}
use Rattle.zw_grammar.specs.Nodes.{all_nodes}
use Rattle.zw_grammar.specs.Sizes.{AreSmall, all_small}
use Rattle.zw_grammar.proofs.SizeLemmas.{read_small}
use Rattle.zw_parse_expr.specs.Files.{file_start, IsFile}
use Rattle.zw_parse_expr.specs.Lexemes.{Lexeme, terminals_of}
use Rattle.zw_parse_expr.specs.Rules.{rules}
use Rattle.zw_parse_expr.proofs.Excesses.{excesses}

all_rules_small : all_small 2 excesses rules excesses ≡ true
all_rules_small = refl

file_small : AreSmall rules file_start 2
file_small = record { excesses = excesses; all = all_rules_small; whole = refl }

pub few_nodes : (list : List Lexeme) (b : Building) → IsFile list b → length (all_nodes b.begun b.ended) ≤ 2 * (length list - 1)
few_nodes list b f =
    let few = read_small rules file_start (terminals_of list) 0 (length list - 1) 2 b file_small f.reads in
    omega (arith, few)
