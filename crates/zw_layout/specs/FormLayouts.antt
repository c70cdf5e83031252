-- The layouts of the types that have a form: a form without parts tells it alone.
use Rattle.std.specs.Prelude.{Option, Some, None}
use Rattle.zw_types.specs.declared.type_form.TypeForm.{TypeForm}
use Rattle.zw_types.specs.declared.type_form.TypeForm.TheVariants as form
use Rattle.zw_layout.specs.declared.layout.Layout.{Layout}
use Rattle.zw_layout.specs.Sizes.{integer_layout}

abbrev pub form_layout : TypeForm → Option Layout
form_layout (form.Int signed bits size) = Some (integer_layout bits)
form_layout form.Bool = Some (record { size = 1; align = 1 })
form_layout form.Void = Some (record { size = 0; align = 1 })
form_layout (form.ErrorSet names inferred) = Some (record { size = 2; align = 2 })
form_layout form.AnyError = Some (record { size = 2; align = 2 })
form_layout _ = None
