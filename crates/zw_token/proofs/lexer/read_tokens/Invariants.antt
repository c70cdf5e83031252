use Rattle.std.proofs.Common.{◌-◌, length}
use Rattle.zw_token.specs.Reading.{IsGoodUpTo}
use Rattle.zw_token.proofs.Lists.{TokensUpTo}
use Rattle.zw_token.proofs.lexer.read_tokens.Given as goal

abbrev pub invariant-loop-token : goal.invariant-loop-token
invariant-loop-token l = record {
  good : IsGoodUpTo l.text l.at l.valid;
  so_far : TokensUpTo l.text l.at l.list.items;
}

abbrev pub decreases-loop-token : goal.decreases-loop-token
decreases-loop-token l = length l.text - l.at
