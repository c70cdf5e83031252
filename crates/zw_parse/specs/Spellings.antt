-- What the tokens of a node stand for: the bytes of a name, a builtin or a text, and the value of a number or a character.
use Rattle.std.specs.Prelude.{◌≡◌, ℕ, ℤ, pos, ◌^◌, nat_lt, List, [], ◌∷◌, ◌++◌, drop, Option, Some, None, if◌then◌else◌}
use Rattle.std.specs.List.{flat_map}
use Rattle.zw_token.specs.Numbers.{number_of}
use Rattle.zw_token.specs.Values.{text_of, character_of}
use Rattle.zw_token.specs.Tokens.{IsOfKind, bytes_of}
use Rattle.zw_token.specs.declared.token.Token.{Token}
use Rattle.zw_token.specs.declared.token.TokenKind.{TokenKind}
use Rattle.zw_token.specs.declared.token.TokenKind.TheVariants as token
use Rattle.zw_tree.specs.declared.kind.NodeKind.{NodeKind}
use Rattle.zw_tree.specs.declared.kind.NodeKind.TheVariants as kind
use Rattle.zw_parse.specs.declared.spelling.Spelling.{Spelling}
use Rattle.zw_parse.specs.declared.spelling.Spelling.TheVariants.{Word, Quoted, Builtin, Text, Number, Character, Nothing}

abbrev pub spelling_of : NodeKind → Spelling
spelling_of kind.Name = Word
spelling_of kind.Blank = Word
spelling_of kind.Identifier = Word
spelling_of kind.QuotedName = Quoted
spelling_of kind.QuotedIdentifier = Quoted
spelling_of kind.Builtin = Builtin
spelling_of kind.Text = Text
spelling_of kind.Number = Number
spelling_of kind.Character = Character
spelling_of _ = Nothing

-- what lines stand for behind others, each behind a line feed
abbrev pub lines_behind : List ℕ → List Token → List ℕ
lines_behind text lines = flat_map (λ (line : Token). 10 ∷ text_of (bytes_of text line)) lines

-- what the lines of a text stand for, with a line feed between two of them
abbrev pub lines_of : List ℕ → List Token → List ℕ
lines_of text [] = []
lines_of text (line ∷ lines) = text_of (bytes_of text line) ++ lines_behind text lines

-- the bytes of the first token
abbrev pub first_bytes : List ℕ → List Token → List ℕ
first_bytes text [] = []
first_bytes text (first ∷ tokens) = bytes_of text first

abbrev pub name_spelled : Spelling → List ℕ → List Token → List ℕ
name_spelled Word text tokens = first_bytes text tokens
name_spelled Quoted text tokens = text_of (first_bytes text tokens)
name_spelled Builtin text tokens = drop 1 (first_bytes text tokens)
name_spelled Text text tokens = lines_of text tokens
name_spelled Number text tokens = []
name_spelled Character text tokens = []
name_spelled Nothing text tokens = []

-- the number of a character; another token has none
abbrev pub character_spelled : TokenKind → List ℕ → Option ℤ
character_spelled token.Character bytes = Some (pos (character_of bytes))
character_spelled _ bytes = None

abbrev pub number_spelled : Spelling → TokenKind → List ℕ → Option ℤ
number_spelled Number first bytes = if nat_lt (number_of bytes) (2 ^ 127) then Some (pos (number_of bytes)) else None
number_spelled Character first bytes = character_spelled first bytes
number_spelled Word first bytes = None
number_spelled Quoted first bytes = None
number_spelled Builtin first bytes = None
number_spelled Text first bytes = None
number_spelled Nothing first bytes = None

-- the token of a character is one when it stands alone
abbrev pub IsOneCharacter : List ℕ → Token → Type 0
IsOneCharacter text t = t.kind ≡ token.Character → IsOfKind token.Character (bytes_of text t)
