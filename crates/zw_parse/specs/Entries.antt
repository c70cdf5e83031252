-- What the nodes of a tree say: their kinds, places and tokens, and what these stand for.
use Rattle.std.specs.Prelude.{◌≡◌, ℕ, ◌+◌, ◌-◌, ◌<◌, ◌≤◌, List, [], ◌∷◌, length, map, take, drop}
use Rattle.zw_base.specs.declared.stop.Place.{Place}
use Rattle.zw_token.specs.Tokens.{place_at}
use Rattle.zw_token.specs.declared.token.Token.{Token}
use Rattle.zw_token.specs.declared.token.TokenKind.{TokenKind}
use Rattle.zw_token.specs.declared.token.TokenKind.TheVariants as token
use Rattle.zw_tree.specs.declared.ast.Entry.{Entry}
use Rattle.zw_grammar.specs.Building.{Span}
use Rattle.zw_grammar.specs.declared.builder.Built.{Built}
use Rattle.zw_parse.specs.Spellings.{spelling_of, first_bytes, name_spelled, number_spelled}
use Rattle.zw_parse.specs.declared.tree.Said.{Said}

-- the tokens of a node
abbrev pub own : List Token → Span → List Token
own tokens span = take (span.last + 1 - span.first) (drop span.first tokens)

-- where the first token begins
abbrev pub first_start : List Token → ℕ
first_start [] = 0
first_start (first ∷ tokens) = first.start

-- of which kind it is
abbrev pub first_kind : List Token → TokenKind
first_kind [] = token.End
first_kind (first ∷ tokens) = first.kind

-- what the node with these tokens says
abbrev pub entry_at : ℕ → List ℕ → List Token → Span → Entry
entry_at file text tokens span = record {
  node = record { kind = span.kind; place = place_at file text (first_start (own tokens span)); first = span.first; last = span.last };
  name = name_spelled (spelling_of span.kind) text (own tokens span);
  number = number_spelled (spelling_of span.kind) (first_kind (own tokens span)) (first_bytes text (own tokens span));
}

abbrev pub span_of : Built → Span
span_of built = record { kind = built.kind; first = built.first; last = built.last }

-- the node's tokens are in the list
pub record IsWithin (tokens : List Token) (built : Built) : Type 0 where
  pub ordered : built.first ≤ built.last
  pub within : built.last < length tokens

-- the places of the tokens
abbrev pub ArePlaces : ℕ → List ℕ → List Token → List Place → Type 0
ArePlaces file text tokens places = places ≡ map (λ (t : Token). place_at file text t.start) tokens

abbrev pub entry_of : Said → Entry
entry_of said = record { node = said.node; name = said.name.items; number = said.number }
