-- The last token of a text is its end, and no other is.
use Rattle.std.proofs.Common.{◌≡◌, ℕ, List, drop, subst}
use Rattle.zw_token.specs.declared.token.Token.{Token}
use Rattle.zw_token.specs.declared.token.TokenKind.TheVariants as kinds
use Rattle.zw_token.specs.Tokens.{TokensFrom, StandsIn}
use Rattle.zw_token.specs.Tokens.TokensFrom.{last, more}
use Rattle.zw_token.proofs.Fronts.{NotEnd, front_not_end}
use Rattle.zw_parse_expr.specs.Lexemes.{lexemes, EndsOnce}

-- what stands in a text is no end
stands_no_end : (text : List ℕ) (t : Token) → StandsIn text t → t.kind ≡ kinds.End → ⊥
stands_no_end text t stands = subst NotEnd stands.2.is_front (front_not_end (drop t.start text))

-- the last token of a text and no other is its end
pub ends_once : {text : List ℕ} {from : ℕ} {tokens : List Token} → TokensFrom text from tokens → EndsOnce (lexemes text tokens)
ends_once (last gap end) = end.kind
ends_once {text} (more {t = t} gap stands (last gap2 end)) = (stands_no_end text t stands, end.kind)
ends_once {text} (more {t = t} gap stands (more gap2 stands2 others)) = (stands_no_end text t stands, ends_once (more gap2 stands2 others))
