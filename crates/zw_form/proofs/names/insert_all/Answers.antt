use Rattle.std.proofs.Common.{arith}
use Rattle.zw_names.specs.NameSets.{names_in}
use Rattle.zw_form.proofs.FirstLemmas.{first_of_each-item, first_of_each-whole}
use Rattle.zw_form.proofs.names.insert_all.Goals as goal

pub loop-name-preserved : goal.loop-name-preserved
loop-name-preserved c =
    first_of_each-item (names_in c.args.set.now) (names_in c.loop-name.set) (names_in c.insert.new.set) c.args.names.now c.loop-name.name-index c.name-item.result c.in_ok-insert.field-0
    (omega arith) c.name-item.is c.loop-name.invariant (rw c.as_slice.ensures at c.in_ok-insert.ensures)

pub returns : goal.returns
returns c =
    first_of_each-whole (names_in c.args.set.now) (names_in c.loop-name.set) c.args.names.now c.loop-name.name-index (omega arith) c.loop-name.invariant
