-- An entry tells what is known of its type.
use Rattle.std.proofs.Common.{◌≡◌, ◌<◌, length, slice_get, Some, None, refl, arith}
use Rattle.std.proofs.lemmas.List.Elements.{All-weaker}
use Rattle.std.proofs.lemmas.Option.{slice_get_read}
use Rattle.zw_types.specs.Readings.{form_tree, types_in_form}
use Rattle.zw_types.specs.Entries.{trees_of, shape_in}
use Rattle.zw_types.specs.KeptLayouts.{known_in, known_from_parts}
use Rattle.zw_types.proofs.EntryLemmas.{earlier_in_entry}
use Rattle.zw_types.proofs.PartLemmas.{entry_tells, is_unknown}
use Rattle.zw_types.proofs.kept.newly_known.Goals as goal

pub known_from_parts-requires-clause-held : goal.known_from_parts-requires-clause-held
known_from_parts-requires-clause-held c =
    let es = c.args.entries.now in
    let k = c.args.place in
    let e = c.index-entries-place.result in
    All-weaker (λ j. j < k) (λ j. j < length es) (λ j l. omega (arith, c.requires.held)) (types_in_form e.form) (earlier_in_entry es c.requires.entries.earlier k e c.requires.held c.index-entries-place.is)

pub returns : goal.returns
returns c =
    let es = c.args.entries.now in
    let kept = c.args.kept.now in
    let k = c.args.place in
    let e = c.index-entries-place.result in
    let none : slice_get kept k ≡ Some None = is_unknown kept k (omega (arith, c.requires.held, c.requires.as_many)) c.is_some.result c.is_some.ensures c.if-is_some.false in
    let told : c.known_from_parts.result ≡ known_from_parts (known_in (trees_of es) kept) (shape_in (trees_of es) e) (form_tree (trees_of es) e.form) =
    c.known_from_parts.ensures in
    entry_tells es c.requires.entries kept c.requires.as_many c.requires.right k e (slice_get_read es (length es) k e refl c.requires.held c.index-entries-place.is) none c.known_from_parts.result told
