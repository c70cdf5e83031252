-- The form of an entry is read with the whole table as it was read with the types before it.
use Rattle.std.proofs.Common.{◌≡◌, ◌<◌, length, List, ap, subst, arith, slice_index_or, []}
use Rattle.zw_types.specs.TypeTrees as tree
use Rattle.zw_types.specs.TypeTrees.{TypeTree}
use Rattle.zw_types.specs.Tables.{TypeTable, IsTable}
use Rattle.zw_types.specs.Readings.{form_tree}
use Rattle.zw_types.proofs.EntryLemmas.{length-trees_of, form_in_entry, earlier_in_entry}
use Rattle.zw_types.proofs.TableLemmas.{IsTable-with_errors}
use Rattle.zw_types.proofs.types.Types.get.Goals as goal

pub returns-clause-form : goal.returns-clause-form
returns-clause-form c =
    let es = c.self.inside.entries.items in
    let same = ap (λ (t : TypeTable). t.trees) c.self.view_is in
    let held : c.args.id.0 < length es = omega (arith, length-trees_of es, ap (length {A = TypeTree}) same) in
    let P : List TypeTree → Type 0 = λ ts. form_tree ts c.index.result.now.form ≡ slice_index_or ts c.args.id.0 tree.VoidType in
    subst P same (form_in_entry es c.self.invariant.0.earlier c.args.id.0 c.index.result.now held c.index.ensures)

pub returns-clause-earlier : goal.returns-clause-earlier
returns-clause-earlier c =
    let es = c.self.inside.entries.items in
    let same = ap (λ (t : TypeTable). t.trees) c.self.view_is in
    let held : c.args.id.0 < length es = omega (arith, length-trees_of es, ap (length {A = TypeTree}) same) in
    earlier_in_entry es c.self.invariant.0.earlier c.args.id.0 c.index.result.now held c.index.ensures

pub returns-clause-table : goal.returns-clause-table
returns-clause-table c = subst IsTable c.self.view_is (IsTable-with_errors c.self.inside.entries.items [] c.self.inside.errors.items c.self.invariant.0.table)
