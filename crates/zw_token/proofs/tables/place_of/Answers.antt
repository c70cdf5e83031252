use Rattle.std.proofs.Common.{◌∙◌}
use Rattle.zw_token.proofs.Places.{position-texts}
use Rattle.zw_token.proofs.tables.place_of.Goals as goal

pub returns-clause-value : goal.returns-clause-value
returns-clause-value c = c.position_of.ensures.value ∙ position-texts c.args.table.now c.args.word.now
