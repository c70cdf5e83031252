use Rattle.std.proofs.Common.{sym, ap, ◌∙◌}
use Rattle.zw_token.specs.Front.{line_or_sign_front}
use Rattle.zw_token.proofs.Fronts.{mark_other}
use Rattle.zw_token.proofs.first.first_from.Goals as goal

pub returns-else-first-eq64-clause-value : goal.returns-else-first-eq64-clause-value
returns-else-first-eq64-clause-value c =
    c.first_line_or_sign.ensures ∙ ap line_or_sign_front c.requires ∙ sym (mark_other c.args.first c.args.behind.now c.if-first-eq34.false c.if-first-eq39.false c.if-first-eq64.false)
