use Rattle.std.proofs.Common.{sym, subst, length, ◌<◌}
use Rattle.zw_names.proofs.NumberLemmas.{number_in-put}
use Rattle.zw_names.specs.NameSets.{names_in}
use Rattle.zw_names.proofs.sets.number_of.Goals as goal

pub returns-clause-within : goal.returns-clause-within
returns-clause-within c =
    subst (λ n. n < length (names_in c.insert.new.set)) (sym c.number_in.ensures)
    (number_in-put (names_in c.args.set.now) (names_in c.insert.new.set) c.args.name.now c.in_ok-insert.field-0 c.in_ok-insert.ensures)
