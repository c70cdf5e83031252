-- What stands before an element is told of the form's tree.
use Rattle.std.proofs.Common.{sym, ◌∙◌, ap}
use Rattle.std.proofs.lemmas.Result.{IfOk-weaker}
use Rattle.zw_types.specs.declared.type_form.TypeForm.{TypeForm}
use Rattle.zw_types.specs.Readings.{form_tree}
use Rattle.zw_types.specs.TypeTexts.{front_of, array_front, slice_front}
use Rattle.zw_types.proofs.types.Types.front.Goals as goal

pub returns-in_ok-end-in-Array : goal.returns-in_ok-end-in-Array
returns-in_ok-end-in-Array c =
    let trees = c.args.self.now.trees in
    let end = c.as_str.ensures.value ∙ c.in_ok-end-in-Array.ensures trees in
    IfOk-weaker c.array_front.result _ _ (λ text h. h ∙ ap (array_front c.in-Array.len) end ∙ sym (ap (λ (f : TypeForm). front_of (form_tree trees f)) c.in-Array.is)) c.array_front.ensures

pub returns-in_ok-end-in-Slice : goal.returns-in_ok-end-in-Slice
returns-in_ok-end-in-Slice c =
    let trees = c.args.self.now.trees in
    let end = c.as_str-in-Slice.ensures.value ∙ c.in_ok-end-in-Slice.ensures trees in
    IfOk-weaker c.slice_front.result _ _ (λ text h. h ∙ ap (slice_front c.in-Slice.constant) end ∙ sym (ap (λ (f : TypeForm). front_of (form_tree trees f)) c.in-Slice.is)) c.slice_front.ensures
