use Rattle.std.proofs.Common.{◌∙◌}
use Rattle.zw_form.specs.Programs.{import_named}
use Rattle.zw_form.specs.Rules.{externs_of}
use Rattle.zw_form.proofs.ProgramLemmas.{map-key, map-keys}
use Rattle.zw_form.proofs.resolve.imports_of.Goals as goal

pub loop-name-preserved : goal.loop-name-preserved
loop-name-preserved c =
    let keys = c.args.called.now.keys in
    let i = c.loop-name.name-index in
    let items = c.as_slice-name-items.ensures.keys in
    let import = rw c.as_slice.ensures.value at c.in_ok-import_named.ensures in
    c.in_ok-push.ensures.ok
    ∙ map-key (import_named (externs_of c.args.file.now)) keys i c.loop-name.imports c.loop-name.invariant c.name-item.result c.in_ok-import_named.field-0
    (rw items at c.loop-name-test.true) (rw items at c.name-item.is) import

pub returns : goal.returns
returns c =
    let items = c.as_slice-name-items.ensures.keys in
    map-keys (import_named (externs_of c.args.file.now)) c.args.called.now.keys c.loop-name.name-index c.loop-name.imports c.loop-name.invariant
    (rw items at c.loop-name-test.false)
