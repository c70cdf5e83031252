-- Kinds of terminals.
use Rattle.std.specs.Prelude.{ℕ, List, [], ◌∷◌}
use Rattle.zw_parse_expr.specs.declared.terminal.TheConstants.{AMPERSAND, BANG, BREAK, BUILTIN, CHARACTER, COLON, COLON_NAME, COLON_TARGET, COMPTIME, CONST, CONTINUE, DOT, ENUM, ERROR, EXPORT, EXTERN, FN, FOR, IF, IMPORT, INLINE, LINE_TEXT, L_BRACE, L_BRACKET, L_PAREN, MINUS, MINUS_PERCENT, NAME, NOINLINE, NUMBER, PUB, QUESTION, QUOTED, RETURN, STAR, STAR_STAR, STRUCT, SWITCH, TEST, TEXT, TILDE, TRY, UNION, UNREACHABLE, VAR, WHILE}

-- a `:`, whatever stands behind it
abbrev pub colons : List ℕ
colons = (COLON ∷ COLON_TARGET ∷ COLON_NAME ∷ [])

-- what an operand begins with
abbrev pub operand_first : List ℕ
operand_first = (BANG ∷ MINUS ∷ TILDE ∷ MINUS_PERCENT ∷ AMPERSAND ∷ TRY ∷ NAME ∷ QUOTED ∷ IF ∷ BREAK ∷ CONTINUE ∷ RETURN ∷ COMPTIME ∷ WHILE ∷ FOR ∷ INLINE ∷ L_BRACE ∷ L_BRACKET ∷ QUESTION ∷ STAR ∷ STAR_STAR ∷ NUMBER ∷ DOT ∷ L_PAREN ∷ BUILTIN ∷ TEXT ∷ CHARACTER ∷ ERROR ∷ SWITCH ∷ LINE_TEXT ∷ UNREACHABLE ∷ IMPORT ∷ STRUCT ∷ ENUM ∷ UNION ∷ [])

-- what a declaration begins with
abbrev pub declaration_first : List ℕ
declaration_first = (CONST ∷ VAR ∷ FN ∷ EXPORT ∷ NOINLINE ∷ EXTERN ∷ PUB ∷ TEST ∷ COMPTIME ∷ [])
