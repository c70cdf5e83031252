use Rattle.std.proofs.Common.{sym, arith}
use Rattle.zw_token.specs.Tables.{texts}
use Rattle.zw_token.proofs.Words.{text_grouped, empty_nowhere}
use Rattle.zw_token.proofs.tables.place_by_letter.Goals as goal

pub place_in_part-requires : goal.place_in_part-requires
place_in_part-requires c = λ k at.
    let bounds = text_grouped c.args.starts.now (texts c.args.table.now) 0 k c.args.word.now c.requires at in
    (omega (arith, bounds.0, c.letter_group-from.ensures.from), omega (arith, bounds.1, c.letter_group-from.ensures.to))

pub returns-in-empty-clause-value : goal.returns-in-empty-clause-value
returns-in-empty-clause-value c = sym (empty_nowhere c.args.starts.now (texts c.args.table.now) c.args.word.now c.in-empty.len_below c.requires)
