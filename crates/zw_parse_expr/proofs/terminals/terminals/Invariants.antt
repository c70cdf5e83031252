use Rattle.std.proofs.Common.{◌≡◌, ◌++◌, length}
use Rattle.std.specs.Prelude.{All}
use Rattle.zw_token.specs.Tokens.{LiesIn}
use Rattle.zw_parse_expr.specs.Lexemes.{lexemes, terminals_of}
use Rattle.zw_parse_expr.proofs.terminals.terminals.Given as goal

abbrev pub invariant-loop-token : goal.invariant-loop-token
invariant-loop-token l = record {
  lie : All (LiesIn l.text) l.left;
  so_far : l.list.items ++ terminals_of (lexemes l.text l.left) ≡ terminals_of (lexemes l.text l.tokens);
}

abbrev pub decreases-loop-token : goal.decreases-loop-token
decreases-loop-token l = length l.left
