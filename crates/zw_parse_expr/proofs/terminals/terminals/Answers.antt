use Rattle.std.proofs.Common.{◌≡◌, ℕ, suc, List, [], ◌∷◌, ◌++◌, length, get_or, sym, ap, ◌∙◌, subst, append_assoc, arith}
use Rattle.std.specs.Prelude.{All}
use Rattle.zw_token.specs.declared.token.Token.{Token}
use Rattle.zw_token.specs.Tokens.{LiesIn}
use Rattle.zw_parse_expr.specs.Lexemes.{lexeme_of, lexemes, terminal_before, terminals_of}
use Rattle.zw_parse_expr.proofs.terminals.terminals.Goals as goal

-- what holds of all tokens holds of those behind the first
others_lie : (text : List ℕ) (all others : List Token) (token : Token) → all ≡ token ∷ others → All (LiesIn text) all → All (LiesIn text) others
others_lie text all others token e lie = λ k d less.
    let P : List Token → Type 0 = λ l. LiesIn text (get_or l (suc k) d) in
    let long : length all ≡ suc (length others) = ap length e in
    subst P e (lie (suc k) d (omega arith))

one_more : (text before after whole : List ℕ) (all others : List Token) (token : Token) (terminal : ℕ) → all ≡ token ∷ others →
    terminal ≡ terminal_before (lexeme_of text token) (lexemes text others) → after ≡ before ++ (terminal ∷ []) → before ++ terminals_of (lexemes text all) ≡ whole → after ++ terminals_of (lexemes text others) ≡ whole
one_more text before after whole all others token terminal e t pushed so_far =
    ap (λ (l : List ℕ). l ++ terminals_of (lexemes text others)) pushed
    ∙ (append_assoc before (terminal ∷ []) (terminals_of (lexemes text others))
    ∙ (ap (λ (x : ℕ). before ++ (x ∷ terminals_of (lexemes text others))) t
    ∙ (sym (ap (λ (l : List Token). before ++ terminals_of (lexemes text l)) e) ∙ so_far)))

pub loop-token-preserved : goal.loop-token-preserved
loop-token-preserved c = record {
  lie = others_lie c.args.text.now c.loop-token.left.now c.in-Some.others.now c.in-Some.token.now c.in-Some.ensures.cases.0 c.loop-token.invariant.lie;
  so_far = one_more c.args.text.now c.loop-token.list.items c.push.new.self.items (terminals_of (lexemes c.args.text.now c.args.tokens.now)) c.loop-token.left.now c.in-Some.others.now
      c.in-Some.token.now c.terminal_before.result c.in-Some.ensures.cases.0 c.terminal_before.ensures c.in_ok-push.ensures.items c.loop-token.invariant.so_far;
}
