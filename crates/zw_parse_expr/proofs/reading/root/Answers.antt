use Rattle.std.proofs.Common.{◌≡◌, List, length, refl, subst, arith}
use Rattle.std.proofs.lemmas.List.{length-map}
use Rattle.zw_grammar.specs.declared.builder.Built.{Built}
use Rattle.zw_grammar.specs.Ends.{Ends, IsRead}
use Rattle.zw_grammar.specs.Nodes.{nodes_of}
use Rattle.zw_parse_expr.specs.Files.{file_start}
use Rattle.zw_parse_expr.specs.Lexemes.{lexeme_of, lexemes, terminals_of}
use Rattle.zw_parse_expr.specs.Rules.{rules}
use Rattle.zw_parse_expr.proofs.Checks.{all_rules_complete}
use Rattle.zw_parse_expr.proofs.Completions.{completions}
use Rattle.zw_parse_expr.proofs.FileLemmas.{read_to_end, read_before_end, stops_file}
use Rattle.zw_parse_expr.proofs.TokenLemmas.{ends_once}
use Rattle.zw_parse_expr.proofs.reading.root.Goals as goal

pub read_rule-requires-clause-complete : goal.read_rule-requires-clause-complete
read_rule-requires-clause-complete c = record { completions = completions; all = all_rules_complete; begins = refl }

pub read_rule-requires-clause-tokens : goal.read_rule-requires-clause-tokens
read_rule-requires-clause-tokens c = record {
  lie = c.tokens_in_order.ensures.within c.args.text.now c.args.tokens.now c.requires.tokens;
  ends = ends_once c.requires.tokens.list;
}

pub returns-in-Read : goal.returns-in-Read
returns-in-Read c =
    let list = lexemes c.args.text.now c.args.tokens.now in
    let long : length list ≡ length c.args.tokens.now = length-map c.args.tokens.now (lexeme_of c.args.text.now) in
    let behind = subst (Ends rules file_start (terminals_of list) 0 (nodes_of c.args.into.now) c.read_rule.new.into) c.in-Read.is c.in_ok-to.ensures in
    let read = subst (λ (older : List Built). IsRead rules file_start (terminals_of list) 0 c.in-Read.to older c.read_rule.new.into) c.requires.fresh.nodes behind in
    let test = c.if-to-tokens.true in
    read_to_end list c.read_rule.new.into c.in-Read.to (ends_once c.requires.tokens.list) read (omega arith)

pub returns-in-Read-2 : goal.returns-in-Read-2
returns-in-Read-2 c =
    let list = lexemes c.args.text.now c.args.tokens.now in
    let long : length list ≡ length c.args.tokens.now = length-map c.args.tokens.now (lexeme_of c.args.text.now) in
    let behind = subst (Ends rules file_start (terminals_of list) 0 (nodes_of c.args.into.now) c.read_rule.new.into) c.in-Read.is c.in_ok-to.ensures in
    let read = subst (λ (older : List Built). IsRead rules file_start (terminals_of list) 0 c.in-Read.to older c.read_rule.new.into) c.requires.fresh.nodes behind in
    let test = c.if-to-tokens.false in
    read_before_end list c.read_rule.new.into c.in-Read.to (ends_once c.requires.tokens.list) read (λ e. omega (arith, test))

pub returns-in-Wrong : goal.returns-in-Wrong
returns-in-Wrong c =
    let list = lexemes c.args.text.now c.args.tokens.now in
    let stops = subst (Ends rules file_start (terminals_of list) 0 (nodes_of c.args.into.now) c.read_rule.new.into) c.in-Wrong.is c.in_ok-to.ensures in
    stops_file list c.read_rule.new.into c.in-Wrong.place (ends_once c.requires.tokens.list) stops
