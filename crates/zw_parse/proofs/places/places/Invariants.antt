use Rattle.std.proofs.Common.{◌≡◌, ℕ, ◌≤◌, ◌<◌, length, take, map, get_or}
use Rattle.zw_token.specs.Tokens.{place_at}
use Rattle.zw_token.specs.declared.token.Token.{Token}
use Rattle.zw_parse.proofs.places.places.Given as goal

abbrev pub invariant-loop-token : goal.invariant-loop-token
invariant-loop-token l = record {
  within : l.at ≤ length l.text;
  ahead : (k : ℕ) (d : Token) → l.token-index ≤ k → k < length l.tokens → l.at ≤ (get_or l.tokens k d).start;
  place : l.place ≡ place_at l.file l.text l.at;
  list : l.list.items ≡ map (λ (t : Token). place_at l.file l.text t.start) (take l.token-index l.tokens);
}
