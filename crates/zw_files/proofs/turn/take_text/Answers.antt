use Rattle.std.proofs.Common.{◌≤◌, ◌+◌, ◌<◌, length, sum, arith}
use Rattle.zw_base.specs.declared.files.Answer.TheVariants.{Bytes}
use Rattle.zw_files.specs.Discovery.{located, stop}
use Rattle.zw_files.specs.Gathering.{found_in, names_in, paths_in}
use Rattle.zw_files.specs.declared.stops.TheConstants.{TREE_LENGTH, TREE_LIMIT}
use Rattle.zw_files.proofs.TurnLemmas.{located-stops, takes-past, takes-text_stop, takes-import_stop, takes-whole}
use Rattle.zw_files.proofs.turn.take_text.Goals as goal

pub returns-then-total-gt-TREE_LIMIT-clause-stops : goal.returns-then-total-gt-TREE_LIMIT-clause-stops
returns-then-total-gt-TREE_LIMIT-clause-stops c =
    let found = found_in c.args.files.now in
    let past : TREE_LIMIT < sum c.args.files.now.sizes + length c.args.text = omega arith in
    located-stops c.args.root.now found c.args.path.now c.args.place (Bytes c.args.text) (located (names_in c.args.files.now.paths) (stop TREE_LENGTH c.args.place)) c.refuse.result
    (takes-past c.args.root.now found c.args.path.now c.args.place c.args.text c.requires.short past) c.refuse.ensures

pub returns-in-Err-Stop-clause-stops : goal.returns-in-Err-Stop-clause-stops
returns-in-Err-Stop-clause-stops c =
    let found = found_in c.args.files.now in
    let fits : sum c.args.files.now.sizes + length c.args.text ≤ TREE_LIMIT = omega arith in
    located-stops c.args.root.now found c.args.path.now c.args.place (Bytes c.args.text) (located (names_in c.args.files.now.paths) c.in-Err-Stop.stop) c.stop_in.result
    (takes-text_stop c.args.root.now found c.args.path.now c.args.place c.args.text c.requires.short c.in-Err-Stop.stop fits
    (rw (c.in-Err-Stop.field-0-is, c.as_slice.ensures, c.len.ensures) at c.in-Err-Stop.ensures.refused)) c.stop_in.ensures

pub returns-in-Ok-join-clause-passes : goal.returns-in-Ok-join-clause-passes
returns-in-Ok-join-clause-passes c =
    let found = found_in c.args.files.now in
    let fits : sum c.args.files.now.sizes + length c.args.text ≤ TREE_LIMIT = omega arith in
    takes-whole c.args.root.now found c.args.path.now c.args.place c.args.text c.requires.short c.in-Ok.ast (paths_in c.follow_all.new.paths, c.in-Ok-follow_all.imports) (found_in c.join.new.files) fits
    (rw (c.as_slice.ensures, c.len.ensures) at c.in-Ok.ensures.tree) c.in-Ok-follow_all.ensures.named c.in-Ok-join.ensures.found

pub returns-in-Err-Stop-follow_all-clause-stops : goal.returns-in-Err-Stop-follow_all-clause-stops
returns-in-Err-Stop-follow_all-clause-stops c =
    let found = found_in c.args.files.now in
    let fits : sum c.args.files.now.sizes + length c.args.text ≤ TREE_LIMIT = omega arith in
    located-stops c.args.root.now found c.args.path.now c.args.place (Bytes c.args.text) (c.in-Err-Stop-follow_all.stop, c.args.path.now) c.stop_at.result
    (takes-import_stop c.args.root.now found c.args.path.now c.args.place c.args.text c.requires.short c.in-Ok.ast c.in-Err-Stop-follow_all.stop fits
    (rw (c.as_slice.ensures, c.len.ensures) at c.in-Ok.ensures.tree) (rw c.in-Err-Stop-follow_all.field-0-is at c.in-Err-Stop-follow_all.ensures.named))
    c.stop_at.ensures
