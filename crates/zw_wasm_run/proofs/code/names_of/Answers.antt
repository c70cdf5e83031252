use Rattle.zw_names.specs.NameSets.{names_in}
use Rattle.zw_wasm_run.proofs.ExportLemmas.{put_name, valid_apart}
use Rattle.zw_wasm_run.proofs.code.names_of.Goals as goal

pub loop-export-preserved : goal.loop-export-preserved
loop-export-preserved c =
    let m = c.args.m.now in
    put_name m.exports c.loop-export.export-index c.export-item.result (names_in c.loop-export.names) (names_in c.insert.new.set) c.in_ok-insert.field-0 (valid_apart m c.requires)
    (rw c.as_slice-export-items.ensures at c.loop-export-test.true) (rw c.as_slice-export-items.ensures at c.export-item.is) c.loop-export.invariant (rw c.as_slice.ensures at c.in_ok-insert.ensures)
