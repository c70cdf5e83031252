-- The part that is replaced is there.
use Rattle.std.proofs.Common.{◌≡◌, ◌<◌, length, List, [], Some, true, slice_set, sym, ◌∙◌, ap, subst}
use Rattle.std.specs.Option.{is_some}
use Rattle.zw_types.specs.declared.value.Value.{Value}
use Rattle.zw_types.specs.declared.value.Value.TheVariants as v
use Rattle.zw_types.specs.Readings.{value_tree}
use Rattle.zw_values.specs.Paths.{part_of, with_part}
use Rattle.zw_values.proofs.PathLemmas.{within_parts, with_part-Parts, with_part-Optional, with_part-Tag}
use Rattle.zw_values.proofs.paths.with_part.Goals as goal

pub with_item-requires : goal.with_item-requires
with_item-requires c =
    let there = subst (λ (x : Value). is_some (part_of (value_tree [] x) c.args.step) ≡ true) c.in-Parts.is (c.requires []) in
    subst (λ (l : List Value). c.args.step < length l) (sym c.as_slice.ensures) (within_parts [] c.in-Parts.parts c.args.step there)

pub returns-in_ok-with_item-in-Parts : goal.returns-in_ok-with_item-in-Parts
returns-in_ok-with_item-in-Parts c = λ types.
    ap (λ (l : List Value). value_tree types (v.Parts l)) (c.in_ok-with_item-in-Parts.ensures ∙ ap (λ (l : List Value). slice_set l c.args.step c.args.new) c.as_slice.ensures)
    ∙ with_part-Parts types c.in-Parts.parts c.args.step c.args.new
    ∙ sym (ap (λ (x : Value). with_part (value_tree types x) c.args.step (value_tree types c.args.new)) c.in-Parts.is)

pub returns-in_ok-new-in-Optional : goal.returns-in_ok-new-in-Optional
returns-in_ok-new-in-Optional c = λ types.
    ap (λ (x : Value). value_tree types (v.Optional (Some x))) c.in_ok-new-in-Optional.ensures
    ∙ with_part-Optional types c.in-Optional.field-0 c.args.step c.args.new
    ∙ sym (ap (λ (x : Value). with_part (value_tree types x) c.args.step (value_tree types c.args.new)) c.in-Optional.is)

pub returns-in_ok-new-in-Tag : goal.returns-in_ok-new-in-Tag
returns-in_ok-new-in-Tag c = λ types.
    ap (λ (x : Value). value_tree types (v.Tag c.in-Tag.field (Some x))) c.in_ok-new-in-Tag.ensures
    ∙ with_part-Tag types c.in-Tag.field c.in-Tag.payload c.args.step c.args.new
    ∙ sym (ap (λ (x : Value). with_part (value_tree types x) c.args.step (value_tree types c.args.new)) c.in-Tag.is)
