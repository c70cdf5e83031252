use Rattle.std.proofs.Common.{◌≡◌, ◌+◌, ◌≤◌, length, drop, true, sym, ap, ◌∙◌, refl, arith, length-drop}
use Rattle.std.proofs.lemmas.List.{take_rest}
use Rattle.zw_token.specs.Bytes.{starts_blank, blank_len}
use Rattle.zw_token.specs.Tokens.{empty}
use Rattle.zw_token.proofs.Lists.{gap_more}
use Rattle.zw_token.proofs.lexer.gap_end.Goals as goal
use Rattle.zw_token.proofs.lexer.gap_end.Goals.{After-blank_len-at}

-- the blank ends in the text
within : (c : After-blank_len-at) → c.loop-at.at + c.blank_len-at.result ≤ length c.args.text.now
within c =
    let rest = ap length (take_rest c.args.text.now c.loop-at.at) in
    omega (arith, c.blank_len-at.ensures.within, rest, length-drop c.loop-at.at c.args.text.now, c.loop-at.invariant.within)

pub overflow_add-at : goal.overflow_add-at
overflow_add-at c = let le = within (goal.at.overflow_add-at c).After-blank_len-at in omega arith

pub loop-at-preserved : goal.loop-at-preserved
loop-at-preserved c =
    let rest = take_rest c.args.text.now c.loop-at.at in
    let starts : starts_blank (drop c.loop-at.at c.args.text.now) ≡ true = sym (ap starts_blank rest) ∙ sym c.loop-at-test.ensures in
    let size = c.blank_len-at.ensures.value ∙ ap blank_len rest in
    record {
      within = within (goal.at.loop-at-preserved c).After-blank_len-at;
      goes_on = λ to gap. c.loop-at.invariant.goes_on to (gap_more c.args.text.now c.loop-at.at c.blank_len-at.result starts size to gap);
    }

pub returns-clause-gap : goal.returns-clause-gap
returns-clause-gap c = c.loop-at.invariant.goes_on c.loop-at.at (empty refl)
