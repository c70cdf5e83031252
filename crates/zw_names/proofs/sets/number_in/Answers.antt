use Rattle.std.proofs.Common.{sym, ◌∙◌}
use Rattle.zw_names.proofs.NumberLemmas.{number_in-Some, number_in-None}
use Rattle.zw_names.proofs.sets.number_in.Goals as goal

pub returns-in-Some : goal.returns-in-Some
returns-in-Some c =
    number_in-Some c.args.name.now c.args.set.now.keys c.in-Some.number (sym c.in-Some.is ∙ c.get_index_of.ensures.index)

pub returns-in-None : goal.returns-in-None
returns-in-None c = c.len.ensures.len ∙ number_in-None c.args.name.now c.args.set.now.keys (sym c.in-None.is ∙ c.get_index_of.ensures.index)
