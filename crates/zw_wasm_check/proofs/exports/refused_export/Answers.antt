use Rattle.std.proofs.Common.{true, false, sym, ◌∙◌}
use Rattle.zw_wasm.specs.Validity.{export_ok}
use Rattle.zw_names.specs.NameSets.{names_in}
use Rattle.zw_names.proofs.SetLemmas.{any-Contains, any-absent}
use Rattle.zw_wasm_check.proofs.RefusedLemmas.{refused_here, refused_later, export_absent, export_named, names_more}
use Rattle.zw_wasm_check.proofs.exports.refused_export.Goals as goal

pub returns-then-not-is_there : goal.returns-then-not-is_there
returns-then-not-is_there c =
    sym (c.loop-number.invariant.goes_on
    ∙ refused_here (export_ok c.args.m.now) c.args.m.now.exports c.loop-number.number c.export-item.result (rw c.as_slice-export-items.ensures at c.loop-number-test.true) (rw c.as_slice-export-items.ensures at c.export-item.is)
    (export_absent c.args.m.now c.loop-number.number c.export-item.result c.if-not-is_there.ensures))

pub returns-then-not-branch : goal.returns-then-not-branch
returns-then-not-branch c =
    let found = rw (c.if-not-branch.true, c.as_slice.ensures) at c.in_ok-insert.ensures in
    sym (c.loop-number.invariant.goes_on
    ∙ refused_here (export_ok c.args.m.now) c.args.m.now.exports c.loop-number.number c.export-item.result (rw c.as_slice-export-items.ensures at c.loop-number-test.true) (rw c.as_slice-export-items.ensures at c.export-item.is)
    (export_named c.args.m.now c.loop-number.number c.export-item.result (names_in c.loop-number.names) true c.if-not-is_there.ensures c.loop-number.invariant.before (any-Contains c.export-item.result.name (names_in c.loop-number.names) found.1)))

pub loop-number-preserved : goal.loop-number-preserved
loop-number-preserved c =
    let m = c.args.m.now in
    let number = c.loop-number.number in
    let export = c.export-item.result in
    let names = names_in c.loop-number.names in
    let inside = rw c.as_slice-export-items.ensures at c.loop-number-test.true in
    let is = rw c.as_slice-export-items.ensures at c.export-item.is in
    let new = rw (c.if-not-branch.false, c.as_slice.ensures) at c.in_ok-insert.ensures in
    let passes = export_named m number export names false c.if-not-is_there.ensures c.loop-number.invariant.before (any-absent export.name names new.1) in
    record {
      before = names_more m.exports number export names (names_in c.insert.new.set) inside is c.loop-number.invariant.before new.0;
      goes_on = c.loop-number.invariant.goes_on ∙ refused_later (export_ok m) m.exports number export inside is passes;
    }
