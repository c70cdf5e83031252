-- The terminal of a token by its kind and its bytes.
use Rattle.std.specs.Prelude.{ℕ, ◌+◌, ◌&&◌, ◌||◌, ◌==◌, nat_lt, nat_eq, List, [], ◌∷◌, length, if◌then◌else◌}
use Rattle.std.specs.List.{starts_with}
use Rattle.zw_token.specs.declared.token.TokenKind.{TokenKind}
use Rattle.zw_token.specs.declared.token.TokenKind.TheVariants as kinds
use Rattle.zw_parse_expr.specs.declared.terminal.TheConstants.{BLANK, BUILTIN, CHARACTER, COLON, COLON_NAME, COLON_TARGET, END, FOR, IMPORT, INLINE, LINE_TEXT, L_BRACE, NAME, NUMBER, QUOTED, TEXT, WHILE}

-- `_` is no name
abbrev pub name_terminal : List ℕ → ℕ
name_terminal [] = NAME
name_terminal (byte ∷ []) = if byte == 95 then BLANK else NAME
name_terminal (byte ∷ other ∷ bytes) = NAME

-- `@import` is a terminal of its own
abbrev pub builtin_terminal : List ℕ → ℕ
builtin_terminal bytes =
    if starts_with nat_eq bytes (64 ∷ 105 ∷ 109 ∷ 112 ∷ 111 ∷ 114 ∷ 116 ∷ []) && length bytes == 7 then IMPORT else BUILTIN

-- the signs come behind the 32 keywords; there are 62
abbrev pub sign_terminal : ℕ → ℕ
sign_terminal number = if nat_lt number 62 then number + 32 else END

-- the terminal of a token by itself
abbrev pub terminal_by : TokenKind → List ℕ → ℕ
terminal_by kinds.Name bytes = name_terminal bytes
terminal_by kinds.Quoted bytes = QUOTED
terminal_by kinds.Builtin bytes = builtin_terminal bytes
terminal_by kinds.Number bytes = NUMBER
terminal_by kinds.Character bytes = CHARACTER
terminal_by kinds.Text bytes = TEXT
terminal_by kinds.LineText bytes = LINE_TEXT
terminal_by (kinds.Keyword number) bytes = number
terminal_by (kinds.Sign number) bytes = sign_terminal number
terminal_by kinds.End bytes = END

-- a `:` before what can have a label, before a name, or before something else
unfoldable pub colon_before : ℕ → ℕ
colon_before next =
    if next == L_BRACE || next == FOR || next == WHILE || next == INLINE then COLON_TARGET
    else if next == NAME || next == QUOTED then COLON_NAME
    else COLON
