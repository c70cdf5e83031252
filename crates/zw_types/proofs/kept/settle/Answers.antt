-- One more is known, and it is right.
use Rattle.std.proofs.Common.{◌≡◌, slice_get, Some, None, List, [], sym, ◌∙◌, subst}
use Rattle.std.proofs.lemmas.List.{length-set}
use Rattle.std.proofs.lemmas.Option.{slice_get_within}
use Rattle.zw_types.specs.Entries.{table_of}
use Rattle.zw_types.specs.KeptLayouts.{Kept, IsClosed}
use Rattle.zw_types.proofs.EntryLemmas.{length-trees_of}
use Rattle.zw_types.proofs.KeptLemmas.{unknown-set, right_set, whole_kept}
use Rattle.zw_types.proofs.PartLemmas.{entries_parts}
use Rattle.zw_types.proofs.kept.settle.Goals as goal

pub loop-place-smaller : goal.loop-place-smaller
loop-place-smaller c =
    let kept = c.loop-place.kept.items in
    let none : slice_get kept c.in-Some.place ≡ Some None = subst (λ (l : List Kept). slice_get l c.in-Some.place ≡ Some None) c.as_slice.ensures.value c.in-Some.ensures.0 in
    unknown-set kept c.in-Some.place c.in-Some.layout none

pub loop-place-preserved : goal.loop-place-preserved
loop-place-preserved c =
    let table = table_of c.args.entries.now [] in
    let kept = c.loop-place.kept.items in
    let place = c.in-Some.place in
    let layout = c.in-Some.layout in
    let none : slice_get kept place ≡ Some None = subst (λ (l : List Kept). slice_get l place ≡ Some None) c.as_slice.ensures.value c.in-Some.ensures.0 in (
      length-set kept place (Some layout) ∙ c.loop-place.invariant.0,
      right_set table kept place layout c.loop-place.invariant.1 c.in-Some.ensures.1 (slice_get_within kept place None none),
    )

pub returns-in-None : goal.returns-in-None
returns-in-None c =
    let es = c.args.entries.now in
    let table = table_of es [] in
    let kept = c.loop-place.kept.items in
    let closed : IsClosed table kept = subst (λ (l : List Kept). IsClosed table l) c.as_slice.ensures.value c.in-None.ensures in
    whole_kept table kept c.requires.entries.table.once c.requires.entries.table.as_many (entries_parts es c.requires.entries) (c.loop-place.invariant.0 ∙ sym (length-trees_of es)) c.loop-place.invariant.1 closed
