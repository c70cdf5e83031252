use Rattle.std.proofs.Common.{◌≡◌, ◌+◌, ◌≤◌, Ok, drop, length, sym, subst, ap, ◌∙◌, arith, length-drop}
use Rattle.std.proofs.lemmas.List.{take_rest}
use Rattle.zw_token.specs.Front.{front}
use Rattle.zw_token.proofs.Fronts.{Fits, front_fits}
use Rattle.zw_token.proofs.lexer.next_token.Goals as goal
use Rattle.zw_token.proofs.lexer.next_token.Goals.{In-Ok}

-- the token ends in the text
within : (c : In-Ok) → c.gap_end-start.result + c.in-Ok.len ≤ length c.args.text.now
within c =
    let text = c.args.text.now in
    let start = c.gap_end-start.result in
    let is_front : front (drop start text) ≡ Ok (c.in-Ok.kind, c.in-Ok.len) = sym (c.in-Ok.ensures ∙ ap front (take_rest text start)) in
    let fits = subst (Fits (length (drop start text))) is_front (front_fits (drop start text)) in
    omega (arith, fits.0, fits.1, length-drop start text, c.gap_end-start.ensures.within)

pub overflow_add-result : goal.overflow_add-result
overflow_add-result c = let le = within (goal.at.overflow_add-result c).In-Ok in omega arith

pub overflow_cast-result-in-Ok-2 : goal.overflow_cast-result-in-Ok-2
overflow_cast-result-in-Ok-2 c = let le = within (goal.at.overflow_cast-result-in-Ok-2 c).In-Ok in omega arith
