-- Tokens without where they lie, and their terminals.
use Rattle.std.specs.Prelude.{◌≡◌, ℕ, ◌==◌, All, List, [], ◌∷◌, map, slice_range, if◌then◌else◌}
use Rattle.zw_token.specs.declared.token.Token.{Token}
use Rattle.zw_token.specs.declared.token.TokenKind.{TokenKind}
use Rattle.zw_token.specs.declared.token.TokenKind.TheVariants as kinds
use Rattle.zw_token.specs.Tokens.{LiesIn}
use Rattle.zw_parse_expr.specs.declared.terminal.TheConstants.{COLON}
use Rattle.zw_parse_expr.specs.Terminals.{terminal_by, colon_before}

-- a token: its kind and its bytes
pub record Lexeme : Type 0 where
  pub kind : TokenKind
  pub bytes : List ℕ

abbrev pub lexeme_of : List ℕ → Token → Lexeme
lexeme_of text token = record { kind = token.kind; bytes = slice_range text token.start token.end }

-- the tokens of a text
abbrev pub lexemes : List ℕ → List Token → List Lexeme
lexemes text tokens = map (lexeme_of text) tokens

-- the terminal of a token by itself
abbrev pub own_terminal : Lexeme → ℕ
own_terminal lexeme = terminal_by lexeme.kind lexeme.bytes

-- a `:` before these tokens
abbrev pub colon_behind : List Lexeme → ℕ
colon_behind [] = COLON
colon_behind (next ∷ others) = colon_before (own_terminal next)

-- the terminal of a token before others
abbrev pub terminal_before : Lexeme → List Lexeme → ℕ
terminal_before lexeme others = if own_terminal lexeme == COLON then colon_behind others else own_terminal lexeme

-- the terminals of a list of tokens
abbrev pub terminals_of : List Lexeme → List ℕ
terminals_of [] = []
terminals_of (lexeme ∷ others) = terminal_before lexeme others ∷ terminals_of others

-- the last token and no other is the end of a text
abbrev pub EndsOnce : List Lexeme → Type 0
EndsOnce [] = ⊥
EndsOnce (lexeme ∷ []) = lexeme.kind ≡ kinds.End
EndsOnce (lexeme ∷ next ∷ others) = (lexeme.kind ≡ kinds.End → ⊥) × EndsOnce (next ∷ others)

-- tokens of the text, up to its end
pub record AreTokens (text : List ℕ) (tokens : List Token) : Type 0 where
  pub lie : All (LiesIn text) tokens
  pub ends : EndsOnce (lexemes text tokens)
