-- An array's elements are counted with its sentinel.
use Rattle.std.proofs.Common.{◌≡◌, Some, sym, ◌∙◌, ap}
use Rattle.std.specs.Option.{option_map}
use Rattle.zw_types.specs.declared.type_form.TypeForm.{TypeForm}
use Rattle.zw_types.specs.Entries.{trees_of}
use Rattle.zw_types.specs.Readings.{form_tree, type_at, sentinel_tree}
use Rattle.zw_types.specs.Sizes.{element_count}
use Rattle.zw_types.specs.KeptLayouts.{known_in, kept_array, known_from_parts}
use Rattle.zw_types.proofs.kept.known_around.Goals as goal

pub returns-in_ok-element-in-Array : goal.returns-in_ok-element-in-Array
returns-in_ok-element-in-Array c = λ shape.
    let trees = trees_of c.args.entries.now in
    let known = known_in trees c.args.kept.now in
    let count = c.element_count.ensures trees in
    let whole : Some c.kept_array.result ≡ option_map (kept_array (element_count c.in-Array.len (sentinel_tree trees c.in-Array.sentinel))) (known (type_at trees c.in-Array.of)) =
    ap Some (c.kept_array.ensures ∙ ap (λ n. kept_array n c.in_ok-element-in-Array.element) count)
    ∙ ap (option_map (kept_array (element_count c.in-Array.len (sentinel_tree trees c.in-Array.sentinel)))) c.in_ok-element-in-Array.ensures.known in
    whole ∙ ap (λ (f : TypeForm). known_from_parts known shape (form_tree trees f)) (sym c.in-Array.is)
