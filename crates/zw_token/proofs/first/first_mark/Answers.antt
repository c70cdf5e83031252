use Rattle.std.proofs.Common.{sym, ap, ◌∙◌}
use Rattle.zw_token.specs.Front.{mark_front}
use Rattle.zw_token.proofs.first.first_mark.Goals as goal

pub returns-in-len1-up : goal.returns-in-len1-up
returns-in-len1-up c = c.first_from.ensures.value ∙ ap mark_front (sym c.first_from.ensures.whole)
