use Rattle.std.proofs.Common.{◌≡◌, ◌↔◌, true, is_some, sym, ap, ◌∙◌, subst}
use Rattle.zw_token.specs.Tables.{texts, IsIn}
use Rattle.zw_token.proofs.Signs.{is_in-IsIn}
use Rattle.zw_token.proofs.tables.has.Goals as goal

pub returns-clause-stands : goal.returns-clause-stands
returns-clause-stands c =
    subst (λ b. (b ≡ true) ↔ IsIn (texts c.args.table.now) c.args.word.now) (sym (c.is_some.ensures ∙ ap is_some c.place_of.ensures.value)) (is_in-IsIn (texts c.args.table.now) c.args.word.now)
