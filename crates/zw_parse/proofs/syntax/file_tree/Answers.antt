use Rattle.std.proofs.Common.{[], ◌∙◌, arith}
use Rattle.zw_token.proofs.Alone.{characters_alone}
use Rattle.zw_token.proofs.Lists.{lies_at, apart}
use Rattle.zw_parse_expr.specs.Lexemes.{lexemes}
use Rattle.zw_parse.specs.Syntax.{tree_of_file}
use Rattle.zw_parse.proofs.SyntaxLemmas.{listed, few_listed, few_tokens}
use Rattle.zw_parse.proofs.syntax.file_tree.Goals as goal

pub tree_of-requires-clause-tokens : goal.tree_of-requires-clause-tokens
tree_of-requires-clause-tokens c = lies_at c.requires.tokens.list

pub tree_of-requires-clause-characters : goal.tree_of-requires-clause-characters
tree_of-requires-clause-characters c = characters_alone c.requires.tokens

pub tree_of-requires-clause-apart : goal.tree_of-requires-clause-apart
tree_of-requires-clause-apart c = apart c.requires.tokens.list

pub tree_of-requires-clause-tree : goal.tree_of-requires-clause-tree
tree_of-requires-clause-tree c =
    let b = c.requires.read.building in
    let l = listed c.args.text.now c.args.tokens.now c.nodes-nodes.result.now c.args.last c.enclose.new.self b c.requires.read.file c.requires.read.at_end
    (c.in_ok-enclose.ensures [] b c.requires.read.holds) (λ d h. c.nodes-nodes.ensures ∙ h.nodes) in
    (tree_of_file (lexemes c.args.text.now c.args.tokens.now) b, l.tree)

pub tree_of-requires-clause-nodes : goal.tree_of-requires-clause-nodes
tree_of-requires-clause-nodes c =
    let b = c.requires.read.building in
    let l = listed c.args.text.now c.args.tokens.now c.nodes-nodes.result.now c.args.last c.enclose.new.self b c.requires.read.file c.requires.read.at_end
    (c.in_ok-enclose.ensures [] b c.requires.read.holds) (λ d h. c.nodes-nodes.ensures ∙ h.nodes) in
    let few = few_tokens c.args.text.now c.args.tokens.now c.requires.tokens in
    omega (arith, few_listed c.args.text.now c.args.tokens.now c.nodes-nodes.result.now b c.requires.read.file l.tree, few.1, c.requires.short)

pub tree_of-requires-clause-within : goal.tree_of-requires-clause-within
tree_of-requires-clause-within c =
    let b = c.requires.read.building in
    (listed c.args.text.now c.args.tokens.now c.nodes-nodes.result.now c.args.last c.enclose.new.self b c.requires.read.file c.requires.read.at_end
    (c.in_ok-enclose.ensures [] b c.requires.read.holds) (λ d h. c.nodes-nodes.ensures ∙ h.nodes)).within

pub returns : goal.returns
returns c =
    let b = c.requires.read.building in
    let l = listed c.args.text.now c.args.tokens.now c.nodes-nodes.result.now c.args.last c.enclose.new.self b c.requires.read.file c.requires.read.at_end
    (c.in_ok-enclose.ensures [] b c.requires.read.holds) (λ d h. c.nodes-nodes.ensures ∙ h.nodes) in
    record {
      building = b;
      reads = c.requires.read.file;
      flat = c.requires.read.flat;
      is = c.in_ok-ast.ensures (tree_of_file (lexemes c.args.text.now c.args.tokens.now) b) l.tree;
    }
