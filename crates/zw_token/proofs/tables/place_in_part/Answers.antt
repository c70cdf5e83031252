use Rattle.std.proofs.Common.{sym}
use Rattle.zw_token.specs.Tables.{texts}
use Rattle.zw_token.proofs.Words.{IsPart, part_within, part_some, part_none}
use Rattle.zw_token.proofs.tables.place_in_part.Goals as goal
use Rattle.zw_token.proofs.tables.place_in_part.Goals.{After-place_of}

part : (c : After-place_of) → IsPart (texts c.args.table.now) c.args.word.now c.min-from.result c.min-to.result
part c = part_within c.args.table.now c.args.word.now c.args.from c.args.to c.min-from.result c.min-to.result c.requires c.min-to.ensures c.min-from.ensures

pub returns-in-Some-clause-value : goal.returns-in-Some-clause-value
returns-in-Some-clause-value c =
    sym (part_some c.args.table.now c.args.word.now c.min-from.result c.min-to.result c.in-Some.place (part (goal.at.returns-in-Some-clause-value c).After-place_of) (sym c.in-Some.ensures.value))

pub returns-in-None-clause-value : goal.returns-in-None-clause-value
returns-in-None-clause-value c =
    sym (part_none c.args.table.now c.args.word.now c.min-from.result c.min-to.result (part (goal.at.returns-in-None-clause-value c).After-place_of) (sym c.in-None.ensures.value))
