-- The tables of words and signs, spelled out (Zig Language Reference 0.13.0, Keyword Reference, Primitive Types, Primitive Values, Builtin
-- Functions, Operators and Grammar), and the words and signs that kinds of tokens stand for.
use Rattle.std.specs.Prelude.{◌≡◌, ℕ, ◌==◌, List, ◌++◌, codes, Option, Some, None, slice_get}
use Rattle.std.specs.List.{slice_split}
use Rattle.zw_token.specs.Names.{primitive_names}
use Rattle.zw_token.specs.Tables.{builtins, keywords, refused_keywords, refused_names, signs}
use Rattle.zw_token.specs.declared.token.TheConstants.TokenKind.{COLON, COMMA, EXPORT, EXTERN, FN, L_BRACE, L_PAREN, MINUS, PLUS, PLUS_PERCENT, RETURN, R_BRACE, R_PAREN, SEMICOLON}
use Rattle.zw_token.specs.declared.token.TokenKind.{TokenKind}
use Rattle.zw_token.specs.declared.token.TokenKind.TheVariants.{Keyword, Sign}

-- the words of a text, with one blank between two
abbrev pub spelled : List ℕ → List (List ℕ)
spelled text = slice_split (λ b. b == 32) text

pub record AreTablesSpelled : Type 0 where
  -- the keywords, of which `packed` is refused
  pub keywords_are :
      keywords ≡ spelled (codes "and anytype break catch comptime const continue defer else enum errdefer error export extern fn for if "
      ++ codes "inline noinline or orelse packed pub return struct switch test try union unreachable var while")
  -- keywords of Zig that are no part of the profile
  pub refused_keywords_are :
      refused_keywords ≡ spelled (codes "addrspace align allowzero anyframe asm async await callconv linksection noalias nosuspend opaque packed "
      ++ codes "resume suspend threadlocal usingnamespace volatile")
  -- names of types of Zig that are no part of the profile
  pub refused_names_are :
      refused_names ≡ spelled (codes "anyopaque c_char c_short c_ushort c_int c_uint c_long c_ulong c_longlong c_ulonglong c_longdouble "
      ++ codes "comptime_float f16 f32 f64 f80 f128")
  -- names of primitive types and values, beside `u8`, `i32` and their like
  pub primitive_names_are :
      primitive_names ≡ spelled (codes "usize isize bool void noreturn type anyerror comptime_int true false null undefined")
  -- builtin functions, without their `@`
  pub builtins_are :
      builtins ≡ spelled (codes "This TypeOf abs alignOf as bitCast bitReverse bitSizeOf byteSwap clz compileError ctz divExact divFloor "
      ++ codes "divTrunc enumFromInt errorName field hasDecl hasField import intCast intFromBool intFromEnum max memcpy "
      ++ codes "memset min mod panic popCount rem setEvalBranchQuota shlExact shrExact sizeOf tagName truncate unionInit")
  -- operators and punctuation
  pub signs_are :
      signs ≡ spelled (codes "! != | || |= & &= * ** *% *| *= *%= *|= + ++ +% +| += +%= +|= - -% -| -= -%= -|= / /= % %= ^ ^= ~ < << "
      ++ codes "<<| <<= <<|= <= > >> >>= >= = == => . .. ... .* .? , ; : ? ( ) [ ] { }")

-- the word or sign of a kind of tokens
abbrev pub word_of : TokenKind → Option (List ℕ)
word_of (Keyword k) = slice_get keywords k
word_of (Sign k) = slice_get signs k
word_of _ = None

pub record AreKindsSpelled : Type 0 where
  pub export : word_of EXPORT ≡ Some (codes "export")
  pub extern : word_of EXTERN ≡ Some (codes "extern")
  pub fn_word : word_of FN ≡ Some (codes "fn")
  pub return_word : word_of RETURN ≡ Some (codes "return")
  pub plus : word_of PLUS ≡ Some (codes "+")
  pub plus_percent : word_of PLUS_PERCENT ≡ Some (codes "+%")
  pub minus : word_of MINUS ≡ Some (codes "-")
  pub comma : word_of COMMA ≡ Some (codes ",")
  pub semicolon : word_of SEMICOLON ≡ Some (codes ";")
  pub colon : word_of COLON ≡ Some (codes ":")
  pub l_paren : word_of L_PAREN ≡ Some (codes "(")
  pub r_paren : word_of R_PAREN ≡ Some (codes ")")
  pub l_brace : word_of L_BRACE ≡ Some (codes "{")
  pub r_brace : word_of R_BRACE ≡ Some (codes "}")
