-- The terminals of a list of tokens, of its fronts, and of tokens that stand for terminals.
use Rattle.std.specs.Prelude.{if◌then◌else◌}
use Rattle.std.proofs.Common.{◌≡◌, ℕ, zero, suc, ◌+◌, ◌-◌, ◌<◌, ◌≤◌, Bool, true, false, cond, ◌&&◌, ◌||◌, not, ◌==◌, nat_lt, List, [], ◌∷◌, ◌++◌, length, take, map, Some, slice_get, refl, sym, ap, ◌∙◌, subst, arith, ◌⊎◌, inl, inr}
use Rattle.std.proofs.lemmas.Bool.{eqb-true, eq-eqb}
use Rattle.std.proofs.lemmas.List.{length-map}
use Rattle.zw_token.specs.declared.token.Token.{Token}
use Rattle.zw_token.specs.declared.token.TokenKind.{TokenKind}
use Rattle.zw_token.specs.declared.token.TokenKind.TheVariants as kinds
use Rattle.zw_grammar.specs.Completions.{first_of}
use Rattle.zw_grammar.proofs.CompletionLemmas.{IsFrom}
use Rattle.zw_grammar.proofs.LeadLemmas.{Agree}
use Rattle.zw_grammar.proofs.ReadingLemmas.{differ}
use Rattle.zw_grammar.proofs.StepLemmas.{and-both}
use Rattle.zw_grammar.proofs.Variants.{Variants, is_in, may_precede, is_spelled}
use Rattle.zw_grammar.proofs.VariantLemmas.{either}
use Rattle.zw_parse_expr.specs.declared.rule.TheConstants.{ANY_COLON, BITS_C, BREAK_COLON, BREAK_LABEL_C, COMPARE_C, CONJUNCTION_C, DISJUNCTION_C, ELSE_EXPR_C, ERROR_UNION, EXPR_C, INIT, INLINE_LOOP_C, LABELLED_C, LABELLED_INLINE_LOOP_C, LABELLED_LOOP_C, LABEL_COLON, OPERAND_C, PREFIX_C, PRIMARY_C, PRIMARY_NAME_C, PRODUCT_C, SENTINEL, SHIFT_C, SUFFIXES, SUM_C}
use Rattle.zw_parse_expr.specs.declared.terminal.TheConstants.{BLANK, BUILTIN, CHARACTER, COLON, COLON_NAME, COLON_TARGET, END, FOR, IMPORT, INLINE, LINE_TEXT, L_BRACE, NAME, NUMBER, QUOTED, TEXT, WHILE}
use Rattle.zw_parse_expr.specs.Terminals.{terminal_by, colon_before}
use Rattle.zw_parse_expr.specs.Lexemes.{Lexeme, lexeme_of, lexemes, own_terminal, colon_behind, terminal_before, terminals_of, EndsOnce}

pub length-terminals : (list : List Lexeme) → length (terminals_of list) ≡ length list
length-terminals [] = refl
length-terminals (lexeme ∷ others) = ap suc (length-terminals others)

pub length-of-tokens : (text : List ℕ) (tokens : List Token) → length (terminals_of (lexemes text tokens)) ≡ length tokens
length-of-tokens text tokens = length-terminals (lexemes text tokens) ∙ length-map tokens (lexeme_of text)

end_terminal : (lexeme : Lexeme) (others : List Lexeme) → lexeme.kind ≡ kinds.End → terminal_before lexeme others ≡ END
end_terminal lexeme others e =
    let own : own_terminal lexeme ≡ END = ap (λ (kind : TokenKind). terminal_by kind lexeme.bytes) e in
    ap (λ (t : ℕ). cond (t == COLON) (colon_behind others) t) own

-- the last terminal is the end
pub last_terminal : (list : List Lexeme) → EndsOnce list → slice_get (terminals_of list) (length (terminals_of list) - 1) ≡ Some END
last_terminal [] e = absurd e
last_terminal (lexeme ∷ []) e = ap (λ (t : ℕ). Some t) (end_terminal lexeme [] e)
last_terminal (lexeme ∷ next ∷ others) e =
    let behind = terminals_of (next ∷ others) in
    let place : suc (length behind) - 1 ≡ suc (length behind - 1) = omega arith in
    ap (λ (k : ℕ). slice_get (terminal_before lexeme (next ∷ others) ∷ behind) k) place ∙ last_terminal (next ∷ others) e.1

ends_cons : (lexeme : Lexeme) (others : List Lexeme) → (lexeme.kind ≡ kinds.End → ⊥) → EndsOnce others → EndsOnce (lexeme ∷ others)
ends_cons lexeme [] other e = absurd e
ends_cons lexeme (next ∷ others) other e = (other, e)

-- before the last token of a text no other is its end, so another text can follow there
pub ends_front : (place : ℕ) (list more : List Lexeme) → EndsOnce list → place < length list → EndsOnce more → EndsOnce (take place list ++ more)
ends_front zero list more e less f = f
ends_front (suc place) [] more e less f = absurd e
ends_front (suc place) (lexeme ∷ []) more e less f = absurd (omega arith)
ends_front (suc place) (lexeme ∷ next ∷ others) more e less f =
    ends_cons lexeme (take place (next ∷ others) ++ more) e.0 (ends_front place (next ∷ others) more e.1 (omega arith) f)

-- behind a token that isn't the last of one text, another text goes on
pub goes_behind : (place : ℕ) (list more : List Lexeme) → EndsOnce list → suc place < length list → EndsOnce (take (suc place) list ++ more) →
    suc place < length (take (suc place) list ++ more)
goes_behind place [] more e less f = absurd e
goes_behind place (lexeme ∷ []) more e less f = absurd (omega arith)
goes_behind zero (lexeme ∷ next ∷ others) [] e less f = absurd (e.0 f)
goes_behind zero (lexeme ∷ next ∷ others) (first ∷ more) e less f = omega arith
goes_behind (suc place) (lexeme ∷ next ∷ others) more e less f =
    let tail = goes_behind place (next ∷ others) more e.1 (omega arith) f.1 in omega arith

-- and behind the last one nothing does
pub ends_there : (place : ℕ) (list more : List Lexeme) → EndsOnce list → length list ≡ suc place → EndsOnce (take (suc place) list ++ more) → take (suc place) list ++ more ≡ list
ends_there place [] more e long f = absurd e
ends_there zero (lexeme ∷ []) [] e long f = refl
ends_there zero (lexeme ∷ []) (first ∷ more) e long f = absurd (f.0 e)
ends_there zero (lexeme ∷ next ∷ others) more e long f = absurd (omega arith)
ends_there (suc place) (lexeme ∷ []) more e long f = absurd (omega arith)
ends_there (suc place) (lexeme ∷ next ∷ others) more e long f =
    ap (λ (l : List Lexeme). lexeme ∷ l) (ends_there place (next ∷ others) more e.1 (omega arith) f.1)

-- what follows a token changes no terminal before it
pub front_same : (place : ℕ) (list more : List Lexeme) → suc place ≤ length list → Agree place (terminals_of list) (terminals_of (take (suc place) list ++ more))
front_same zero list more le k less = absurd (omega arith)
front_same (suc place) [] more le k less = absurd (omega arith)
front_same (suc place) (lexeme ∷ []) more le k less = absurd (omega arith)
front_same (suc place) (lexeme ∷ next ∷ others) more le zero less = refl
front_same (suc place) (lexeme ∷ next ∷ others) more le (suc k) less = front_same place (next ∷ others) more (omega arith) k (omega arith)

-- the token at a place, and its terminal by what follows
pub record AtPlace (list : List Lexeme) (place : ℕ) : Type 0 where
  pub lexeme : Lexeme
  pub others : List Lexeme
  pub there : slice_get (terminals_of list) place ≡ Some (terminal_before lexeme others)
  pub before : (more : List Lexeme) → slice_get (terminals_of (take (suc place) list ++ more)) place ≡ Some (terminal_before lexeme more)

pub at_place : (place : ℕ) (list : List Lexeme) → place < length list → AtPlace list place
at_place place [] less = absurd (omega arith)
at_place zero (lexeme ∷ others) less = record { lexeme = lexeme; others = others; there = refl; before = λ more. refl }
at_place (suc place) (lexeme ∷ others) less =
    let a = at_place place others (omega arith) in
    record { lexeme = a.lexeme; others = a.others; there = a.there; before = a.before }

-- the terminals of what follows a front are those of what follows
pub rest_from : (place : ℕ) (list more : List Lexeme) → place ≤ length list → IsFrom (terminals_of (take place list ++ more)) place (terminals_of more)
rest_from zero list more le = λ k. let same : 0 + k ≡ k = omega arith in ap (λ (j : ℕ). slice_get (terminals_of more) j) same
rest_from (suc place) [] more le = absurd (omega arith)
rest_from (suc place) (lexeme ∷ others) more le = λ k.
    let same : suc place + k ≡ suc (place + k) = omega arith in
    ap (λ (j : ℕ). slice_get (terminals_of (lexeme ∷ (take place others ++ more))) j) same ∙ rest_from place others more (omega arith) k

pub front_length : (place : ℕ) (list more : List Lexeme) → place ≤ length list → length (take place list ++ more) ≡ place + length more
front_length zero list more le = omega arith
front_length (suc place) [] more le = absurd (omega arith)
front_length (suc place) (lexeme ∷ others) more le = let tail = front_length place others more (omega arith) in omega arith

-- tokens that stand for terminals: a word or a sign by its number, and one of each other kind
abbrev pub lexeme_for : ℕ → Lexeme
lexeme_for t =
    if nat_lt t 32 then record { kind = kinds.Keyword t; bytes = [] }
    else if nat_lt t 94 then record { kind = kinds.Sign (t - 32); bytes = [] }
    else if t == NAME then record { kind = kinds.Name; bytes = 97 ∷ [] }
    else if t == BLANK then record { kind = kinds.Name; bytes = 95 ∷ [] }
    else if t == QUOTED then record { kind = kinds.Quoted; bytes = [] }
    else if t == IMPORT then record { kind = kinds.Builtin; bytes = 64 ∷ 105 ∷ 109 ∷ 112 ∷ 111 ∷ 114 ∷ 116 ∷ [] }
    else if t == BUILTIN then record { kind = kinds.Builtin; bytes = [] }
    else if t == NUMBER then record { kind = kinds.Number; bytes = 48 ∷ [] }
    else if t == CHARACTER then record { kind = kinds.Character; bytes = [] }
    else if t == TEXT then record { kind = kinds.Text; bytes = [] }
    else if t == LINE_TEXT then record { kind = kinds.LineText; bytes = [] }
    else record { kind = kinds.Sign 54; bytes = 58 ∷ [] }

-- the terminal is that of a token by itself, and no end
abbrev pub is_single : ℕ → Bool
is_single t = own_terminal (lexeme_for t) == t && not (t == END)

-- a `:` is three terminals
abbrev pub colon_variants : Variants
colon_variants = record {
  of_token = COLON ∷ COLON_TARGET ∷ COLON_NAME ∷ [];
  plain = COLON;
  before = colon_before;
  single = is_single;
  alone = ANY_COLON ∷ LABEL_COLON ∷ BREAK_COLON ∷ [];
  takes = ANY_COLON ∷ LABEL_COLON ∷ BREAK_COLON ∷ SENTINEL ∷ [];
  passes = SUFFIXES ∷ ERROR_UNION ∷ INIT ∷ PRODUCT_C ∷ SUM_C ∷ SHIFT_C ∷ BITS_C ∷ COMPARE_C ∷ CONJUNCTION_C ∷ DISJUNCTION_C ∷ ELSE_EXPR_C ∷ OPERAND_C ∷ BREAK_LABEL_C ∷ PRIMARY_NAME_C ∷ [];
  wants = PRIMARY_NAME_C ∷ BREAK_LABEL_C ∷ PRIMARY_C ∷ PREFIX_C ∷ PRODUCT_C ∷ SUM_C ∷ SHIFT_C ∷ BITS_C ∷ COMPARE_C ∷ CONJUNCTION_C ∷ DISJUNCTION_C ∷ EXPR_C ∷ LABELLED_C ∷ LABELLED_LOOP_C ∷ LABELLED_INLINE_LOOP_C ∷ INLINE_LOOP_C ∷ ELSE_EXPR_C ∷ OPERAND_C ∷ [];
}

two_choices : (a b : Bool) → is_in (cond a COLON_TARGET (cond b COLON_NAME COLON)) colon_variants.of_token ≡ true
two_choices true b = refl
two_choices false true = refl
two_choices false false = refl

pub one_before : (next : ℕ) → is_in (colon_before next) colon_variants.of_token ≡ true
unfolding colon_before
one_before next = two_choices (next == L_BRACE || next == FOR || next == WHILE || next == INLINE) (next == NAME || next == QUOTED)

-- one of the three, in each of three ways
each_colon : (P : ℕ → Type 0) (t : ℕ) → P COLON → P COLON_TARGET → P COLON_NAME → is_in t colon_variants.of_token ≡ true → P t
each_colon P t a b c e =
    either (COLON == t) ((COLON_TARGET == t) || ((COLON_NAME == t) || false)) e
    (λ f. subst P (eqb-true COLON t f) a)
    (λ f. either (COLON_TARGET == t) ((COLON_NAME == t) || false) f
    (λ g. subst P (eqb-true COLON_TARGET t g) b)
    (λ g. either (COLON_NAME == t) false g (λ h. subst P (eqb-true COLON_NAME t h) c) (λ h. absurd (cc))))

own_colon : (t : ℕ) → is_in t colon_variants.of_token ≡ true → own_terminal (lexeme_for t) ≡ COLON
own_colon t e = each_colon (λ t. own_terminal (lexeme_for t) ≡ COLON) t refl refl refl e

before_colon : (t : ℕ) → is_in t colon_variants.of_token ≡ true → colon_before COLON ≡ colon_before t
unfolding colon_before
before_colon t e = each_colon (λ t. colon_before COLON ≡ colon_before t) t refl refl refl e

colon_no_end : (t : ℕ) → is_in t colon_variants.of_token ≡ true → (lexeme_for t).kind ≡ kinds.End → ⊥
colon_no_end t e = each_colon (λ t. (lexeme_for t).kind ≡ kinds.End → ⊥) t (λ f. cc) (λ f. cc) (λ f. cc) e

-- a terminal that may stand before another is one of the three and fits it, or the terminal of a token by itself
pub record IsSingle (t : ℕ) : Type 0 where
  pub own : own_terminal (lexeme_for t) ≡ t
  pub no_end : (t == END) ≡ false
  pub no_colon : (t == COLON) ≡ false

abbrev IsTokenBefore : ℕ → ℕ → Type 0
IsTokenBefore t next = ((is_in t colon_variants.of_token ≡ true) × (colon_before next ≡ t)) ⊎ IsSingle t

not-true : (b : Bool) → not b ≡ true → b ≡ false
not-true true e = absurd (cc)
not-true false e = refl

is_token : (t next : ℕ) → may_precede colon_variants t next ≡ true → IsTokenBefore t next
is_token t next e = go (is_in t colon_variants.of_token) refl e
  where
    go : (b : Bool) → is_in t colon_variants.of_token ≡ b → cond b (colon_before next == t) (is_single t) ≡ true → IsTokenBefore t next
    go true f e = inl (f, eqb-true (colon_before next) t e)
    go false f e =
        let both = and-both (own_terminal (lexeme_for t) == t) (not (t == END)) e in
        inr (record {
          own = eqb-true (own_terminal (lexeme_for t)) t both.0;
          no_end = not-true (t == END) both.1;
          no_colon = differ t COLON (λ same. let is : is_in t colon_variants.of_token ≡ true = ap (λ (x : ℕ). is_in x colon_variants.of_token) same in let no : false ≡ true = sym f ∙ is in cc);
        })

-- the tokens for these terminals, and the end of a text
abbrev pub lexemes_for : List ℕ → List Lexeme
lexemes_for text = map lexeme_for text ++ (record { kind = kinds.End; bytes = [] } ∷ [])

token_no_end : (t next : ℕ) → IsTokenBefore t next → (lexeme_for t).kind ≡ kinds.End → ⊥
token_no_end t next (inl p) e = colon_no_end t p.0 e
token_no_end t next (inr p) e =
    let own : own_terminal (lexeme_for t) ≡ END = ap (λ (kind : TokenKind). terminal_by kind (lexeme_for t).bytes) e in
    let is_end : (t == END) ≡ true = eq-eqb t END (sym p.own ∙ own) in
    let no : false ≡ true = sym p.no_end ∙ is_end in
    absurd (cc)

-- a token for a terminal changes a `:` before it as the terminal does
before_token : (t next : ℕ) → IsTokenBefore t next → colon_before (own_terminal (lexeme_for t)) ≡ colon_before t
before_token t next (inl p) = ap colon_before (own_colon t p.0) ∙ before_colon t p.0
before_token t next (inr p) = ap colon_before p.own

terminal_for : (t next : ℕ) (others : List Lexeme) → IsTokenBefore t next → colon_behind others ≡ colon_before next → terminal_before (lexeme_for t) others ≡ t
terminal_for t next others (inl p) e =
    ap (λ (o : ℕ). cond (o == COLON) (colon_behind others) o) (own_colon t p.0) ∙ (e ∙ p.1)
terminal_for t next others (inr p) e =
    ap (λ (o : ℕ). cond (o == COLON) (colon_behind others) o) p.own ∙ ap (λ (b : Bool). cond b (colon_behind others) t) p.no_colon

pub colon_behind_for : (text : List ℕ) → is_spelled colon_variants text END ≡ true → colon_behind (lexemes_for text) ≡ colon_before (first_of text END)
colon_behind_for [] e = refl
colon_behind_for (t ∷ text) e =
    let next = first_of text END in
    before_token t next (is_token t next (and-both (may_precede colon_variants t next) (is_spelled colon_variants text END) e).0)

-- tokens for terminals that can be tokens have these terminals
pub terminals_for : (text : List ℕ) → is_spelled colon_variants text END ≡ true → terminals_of (lexemes_for text) ≡ text ++ (END ∷ [])
terminals_for [] e = refl
terminals_for (t ∷ text) e =
    let next = first_of text END in
    let both = and-both (may_precede colon_variants t next) (is_spelled colon_variants text END) e in
    ap (λ (x : ℕ). x ∷ terminals_of (lexemes_for text)) (terminal_for t next (lexemes_for text) (is_token t next both.0) (colon_behind_for text both.1))
    ∙ ap (λ (l : List ℕ). t ∷ l) (terminals_for text both.1)

pub ends_for : (text : List ℕ) → is_spelled colon_variants text END ≡ true → EndsOnce (lexemes_for text)
ends_for [] e = refl
ends_for (t ∷ text) e =
    let next = first_of text END in
    let both = and-both (may_precede colon_variants t next) (is_spelled colon_variants text END) e in
    ends_cons (lexeme_for t) (lexemes_for text) (token_no_end t next (is_token t next both.0)) (ends_for text both.1)

pub length-for : (text : List ℕ) → length (lexemes_for text) ≡ suc (length text)
length-for [] = refl
length-for (t ∷ text) = ap suc (length-for text)

token_is_no_end : (t next : ℕ) → IsTokenBefore t next → t ≡ END → ⊥
token_is_no_end t next (inl p) e =
    let is : is_in END colon_variants.of_token ≡ true = sym (ap (λ (x : ℕ). is_in x colon_variants.of_token) e) ∙ p.0 in
    let no : false ≡ true = is in
    absurd (cc)
token_is_no_end t next (inr p) e = let no : false ≡ true = sym p.no_end ∙ eq-eqb t END e in absurd (cc)

-- the end stands behind them alone
pub end_place : (text : List ℕ) (k : ℕ) → is_spelled colon_variants text END ≡ true → slice_get (text ++ (END ∷ [])) k ≡ Some END → k ≡ length text
end_place [] zero e there = refl
end_place [] (suc k) e there = absurd (cc)
end_place (t ∷ text) zero e there =
    let next = first_of text END in
    let both = and-both (may_precede colon_variants t next) (is_spelled colon_variants text END) e in
    let same : t ≡ END = cc in
    absurd (token_is_no_end t next (is_token t next both.0) same)
end_place (t ∷ text) (suc k) e there =
    let both = and-both (may_precede colon_variants t (first_of text END)) (is_spelled colon_variants text END) e in
    ap suc (end_place text k both.1 there)
