use Rattle.std.proofs.Common.{◌≡◌, ℕ, ◌-◌, List, [], ◌∷◌, length, slice_get, sym, ap, ◌∙◌, subst, arith}
use Rattle.zw_grammar.specs.declared.grammar.Symbol.TheVariants.{Read}
use Rattle.zw_grammar.specs.Completions.{CanComplete}
use Rattle.zw_grammar.specs.Plain.{PlainRule, plain}
use Rattle.zw_parse_expr.specs.declared.terminal.TheConstants.{END}
use Rattle.zw_parse_expr.specs.Rules.{rules}
use Rattle.zw_parse_expr.specs.Lexemes.{lexemes, terminals_of}
use Rattle.zw_parse_expr.proofs.LexemeLemmas.{length-of-tokens, last_terminal}
use Rattle.zw_parse_expr.proofs.reading.read_rule.Goals as goal

pub read-requires-clause-complete : goal.read-requires-clause-complete
read-requires-clause-complete c =
    let all : plain c.as_slice.result.now ≡ rules = ap plain c.as_slice.ensures.value ∙ c.in_ok-rules.ensures in
    let list : c.as_slice-2.result.now ≡ terminals_of (lexemes c.args.text.now c.args.tokens.now) = c.as_slice-2.ensures.value ∙ c.in_ok-terminals.ensures in
    record {
      end = END;
      last = ap (λ (l : List ℕ). slice_get l (length l - 1)) list ∙ last_terminal (lexemes c.args.text.now c.args.tokens.now) c.requires.tokens.ends;
      complete = subst (λ (r : List PlainRule). CanComplete r (Read c.args.number ∷ []) END) (sym all) c.requires.complete;
    }

pub read-requires-clause-length : goal.read-requires-clause-length
read-requires-clause-length c =
    let list : c.as_slice-2.result.now ≡ terminals_of (lexemes c.args.text.now c.args.tokens.now) = c.as_slice-2.ensures.value ∙ c.in_ok-terminals.ensures in
    let long : length c.as_slice-2.result.now ≡ length c.args.tokens.now = ap length list ∙ length-of-tokens c.args.text.now c.args.tokens.now in
    omega arith

pub read-requires-clause-from : goal.read-requires-clause-from
read-requires-clause-from c =
    let list : c.as_slice-2.result.now ≡ terminals_of (lexemes c.args.text.now c.args.tokens.now) = c.as_slice-2.ensures.value ∙ c.in_ok-terminals.ensures in
    let long : length c.as_slice-2.result.now ≡ length c.args.tokens.now = ap length list ∙ length-of-tokens c.args.text.now c.args.tokens.now in
    omega arith
