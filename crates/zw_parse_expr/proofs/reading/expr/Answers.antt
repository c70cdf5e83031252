use Rattle.std.proofs.Common.{◌≡◌, [], ◌∷◌, length, refl, arith}
use Rattle.std.proofs.lemmas.List.{length-map}
use Rattle.zw_grammar.specs.declared.grammar.Symbol.TheVariants.{Read}
use Rattle.zw_grammar.specs.Nodes.{nodes_of}
use Rattle.zw_parse_expr.specs.declared.rule.TheConstants.{EXPR}
use Rattle.zw_parse_expr.specs.Lexemes.{lexeme_of, lexemes}
use Rattle.zw_parse_expr.proofs.Checks.{all_rules_complete}
use Rattle.zw_parse_expr.proofs.Completions.{completions}
use Rattle.zw_parse_expr.proofs.PartLemmas.{if_part_ends}
use Rattle.zw_parse_expr.proofs.TokenLemmas.{ends_once}
use Rattle.zw_parse_expr.proofs.reading.expr.Goals as goal

pub read_rule-requires-clause-complete : goal.read_rule-requires-clause-complete
read_rule-requires-clause-complete c = record { completions = completions; all = all_rules_complete; begins = refl }

pub read_rule-requires-clause-tokens : goal.read_rule-requires-clause-tokens
read_rule-requires-clause-tokens c = record {
  lie = c.tokens_in_order.ensures.within c.args.text.now c.args.tokens.now c.requires.tokens;
  ends = ends_once c.requires.tokens.list;
}

pub returns-clause-tokens : goal.returns-clause-tokens
returns-clause-tokens c =
    let list = lexemes c.args.text.now c.args.tokens.now in
    let long : length list ≡ length c.args.tokens.now = length-map c.args.tokens.now (lexeme_of c.args.text.now) in
    let from = c.requires.from in
    if_part_ends (Read EXPR ∷ []) list c.args.from (nodes_of c.args.into.now) c.read_rule.new.into c.read_rule.result (record { fitting = refl; spelled = refl; kept = refl })
    (ends_once c.requires.tokens.list) (omega arith) c.read_rule.ensures
