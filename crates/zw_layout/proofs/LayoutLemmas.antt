-- Layouts by forms, and what they have in common.
use Rattle.std.specs.Prelude.{◌≡◌, ℕ, ◌*◌, Bool, true, false, nat_eq, IsTrue, List, Option, Some, None, MatchOption, refl, if◌then◌else◌}
use Rattle.std.proofs.Common.{arith}
use Rattle.zw_types.specs.declared.type_form.TypeForm.{TypeForm}
use Rattle.zw_types.specs.declared.type_form.TypeForm.TheVariants as form
use Rattle.zw_types.specs.TypeTrees as tree
use Rattle.zw_types.specs.TypeTrees.{TypeTree}
use Rattle.zw_types.specs.Readings.{form_tree}
use Rattle.zw_types.specs.Tables.{TypeTable}
use Rattle.zw_layout.specs.declared.layout.Layout.{Layout}
use Rattle.zw_layout.specs.Sizes as sizes
use Rattle.zw_layout.specs.Sizes.{is_simple, bytes_for, integer_layout, HasLayout}
use Rattle.zw_layout.specs.FormLayouts.{form_layout}

pub form_has_layout : (table : TypeTable) (ts : List TypeTree) (f : TypeForm) → IsTrue (is_simple (form_tree ts f)) → HasLayout table (form_tree ts f) (form_layout f)
form_has_layout table ts (form.Int signed bits size) h = sizes.integer signed bits size
form_has_layout table ts form.ComptimeInt h = sizes.comptime_int
form_has_layout table ts form.Bool h = sizes.truth
form_has_layout table ts form.Void h = sizes.void
form_has_layout table ts form.NoReturn h = sizes.no_return
form_has_layout table ts form.TypeType h = sizes.type_type
form_has_layout table ts form.Null h = sizes.null_type
form_has_layout table ts form.Undefined h = sizes.undefined_type
form_has_layout table ts form.EnumLiteral h = sizes.enum_literal
form_has_layout table ts form.AnyError h = sizes.any_error
form_has_layout table ts (form.ErrorSet names inferred) h = sizes.error_set names inferred
form_has_layout table ts (form.Array len of sentinel) h = cc
form_has_layout table ts (form.Pointer many constant of) h = cc
form_has_layout table ts (form.Slice constant of sentinel) h = cc
form_has_layout table ts (form.Optional of) h = cc
form_has_layout table ts (form.ErrorUnion set payload) h = cc
form_has_layout table ts (form.Struct owner) h = cc
form_has_layout table ts (form.Enum owner) h = cc
form_has_layout table ts (form.Union owner) h = cc
form_has_layout table ts (form.Func params result comptime outside) h = cc

-- the layout that a simple type has
abbrev simple_layout : TypeTree → Option Layout
simple_layout (tree.IntType signed bits size) = Some (integer_layout bits)
simple_layout tree.BoolType = Some (record { size = 1; align = 1 })
simple_layout tree.VoidType = Some (record { size = 0; align = 1 })
simple_layout tree.AnyErrorType = Some (record { size = 2; align = 2 })
simple_layout (tree.ErrorSetType names inferred) = Some (record { size = 2; align = 2 })
simple_layout _ = None

pub HasLayout-simple : (table : TypeTable) (ty : TypeTree) (l : Option Layout) → HasLayout table ty l → l ≡ simple_layout ty
HasLayout-simple table ty l (sizes.integer signed bits size) = refl
HasLayout-simple table ty l sizes.truth = refl
HasLayout-simple table ty l sizes.void = refl
HasLayout-simple table ty l (sizes.error_set names inferred) = refl
HasLayout-simple table ty l sizes.any_error = refl
HasLayout-simple table ty l sizes.comptime_int = refl
HasLayout-simple table ty l sizes.no_return = refl
HasLayout-simple table ty l sizes.type_type = refl
HasLayout-simple table ty l sizes.null_type = refl
HasLayout-simple table ty l sizes.undefined_type = refl
HasLayout-simple table ty l sizes.enum_literal = refl

abbrev pub IsWhole : Layout → Type 0
IsWhole l = (n : ℕ) × (l.size ≡ n * l.align)

integer_is_whole : (b : Bool) (size : ℕ) → IsWhole (if b then record { size = 0; align = 1 } else record { size = size; align = size })
integer_is_whole true size = (0, refl)
integer_is_whole false size = (1, omega arith)

pub HasLayout-whole : (table : TypeTable) (ty : TypeTree) (l : Option Layout) → HasLayout table ty l → MatchOption l (Unit {0}) IsWhole
HasLayout-whole table ty l (sizes.integer signed bits size) = integer_is_whole (nat_eq bits 0) (bytes_for bits)
HasLayout-whole table ty l sizes.truth = (1, refl)
HasLayout-whole table ty l sizes.void = (0, refl)
HasLayout-whole table ty l (sizes.error_set names inferred) = (1, refl)
HasLayout-whole table ty l sizes.any_error = (1, refl)
HasLayout-whole table ty l sizes.comptime_int = tt
HasLayout-whole table ty l sizes.no_return = tt
HasLayout-whole table ty l sizes.type_type = tt
HasLayout-whole table ty l sizes.null_type = tt
HasLayout-whole table ty l sizes.undefined_type = tt
HasLayout-whole table ty l sizes.enum_literal = tt
