-- Layouts as a table keeps them: a size of more than 2^127 bytes is kept as 2^127.
use Rattle.std.specs.Prelude.{◌≡◌, ◌⊎◌, ℕ, ◌≤◌, ◌^◌, Bool, true, false, if◌then◌else◌, List, [], ◌∷◌, length, slice_get, slice_index_or, Option, Some, None, MatchOption, option_and_then, min}
use Rattle.std.specs.Option.{option_map}
use Rattle.zw_types.specs.TypeTrees as tree
use Rattle.zw_types.specs.TypeTrees.{TypeTree, FieldTree, ShapeTree}
use Rattle.zw_types.specs.Tables.{TypeTable}
use Rattle.zw_types.specs.SameTypes.{place_of}
use Rattle.zw_types.specs.Sizes.{integer_layout, no_bytes, byte_layout, code_layout, pointer_layout, slice_layout, joined, rounded, element_count, array_layout, optional_layout, error_union_layout, hidden_tag, is_pointer, unless_comptime, HasLayout}
use Rattle.zw_types.specs.declared.layout.Layout.{Layout}
use Rattle.zw_types.specs.declared.type_form.TypeForm.{TypeForm}
use Rattle.zw_types.specs.declared.type_form.TypeForm.TheVariants as form

abbrev pub bounded : Layout → Layout
bounded l = record { size = min l.size (2 ^ 127); align = l.align }

-- the alignments that there are
abbrev pub IsAlignment : ℕ → Type 0
IsAlignment align = (align ≡ 1) ⊎ (align ≡ 2) ⊎ (align ≡ 4) ⊎ (align ≡ 8)

abbrev pub IsBounded : Layout → Type 0
IsBounded l = (l.size ≤ 2 ^ 127) × IsAlignment l.align

-- what is kept of a type that has a layout
abbrev pub IsKept : TypeTable → TypeTree → Option Layout → Type 0
IsKept table ty kept = (layout : Option Layout) × HasLayout table ty layout × (kept ≡ option_map bounded layout)

-- what is known of a type's layout: None while nothing is, else what is kept of it
abbrev pub Kept : Type 0
Kept = Option (Option Layout)

abbrev pub IsBoundedKept : Kept → Type 0
IsBoundedKept kept = MatchOption kept (Unit {0}) (λ l. MatchOption l (Unit {0}) IsBounded)

-- what is known of a type in a list of types, with what is known of each beside it
abbrev pub known_in : List TypeTree → List Kept → TypeTree → Kept
known_in trees kept ty = slice_index_or kept (place_of ty trees) None

-- ---- what is known of a type, from what is known of its parts

abbrev pub kept_array : ℕ → Option Layout → Option Layout
kept_array count of = option_map (λ l. bounded (array_layout count l)) of

abbrev pub kept_optional : Bool → Option Layout → Option Layout
kept_optional of_pointer payload = if of_pointer then payload else option_map (λ l. bounded (optional_layout l)) payload

abbrev pub kept_error_union : Option Layout → Option Layout
kept_error_union payload = option_map (λ l. bounded (error_union_layout l)) payload

abbrev pub kept_rounded : Option Layout → Option Layout
kept_rounded fields = option_map (λ l. bounded (rounded l)) fields

abbrev pub kept_joined : Bool → Option Layout → Option Layout → Option Layout
kept_joined over (Some a) (Some b) = Some (bounded (joined over a b))
kept_joined over _ _ = None

module _ (known : TypeTree → Kept) where
  -- the fields, behind or over what is there
  abbrev pub known_fields : Bool → Option Layout → List FieldTree → Kept
  known_fields over before [] = Some before
  known_fields over before (field ∷ fields) = option_and_then (λ l. known_fields over (kept_joined over before l) fields) (known field.ty)

  abbrev pub known_struct : Option ShapeTree → Kept
  known_struct None = None
  known_struct (Some shape) = option_map kept_rounded (known_fields false (Some no_bytes) shape.fields)

  abbrev pub known_enum : Option ShapeTree → Kept
  known_enum None = None
  known_enum (Some shape) = option_and_then known shape.tag

  abbrev pub known_tag : ℕ → Option TypeTree → Kept
  known_tag count None = Some (Some (hidden_tag count))
  known_tag count (Some tag) = known tag

  abbrev pub tagged : Kept → Kept → Kept
  tagged (Some fields) (Some tag) = Some (kept_rounded (kept_joined false fields tag))
  tagged _ _ = None

  abbrev pub known_union : Option ShapeTree → Kept
  known_union None = None
  known_union (Some shape) = tagged (known_fields true (Some no_bytes) shape.fields) (known_tag (length shape.fields) shape.tag)

  -- of a type with these fields, where it has fields
  abbrev pub known_from_parts : Option ShapeTree → TypeTree → Kept
  known_from_parts shape (tree.IntType signed bits size) = Some (Some (integer_layout bits))
  known_from_parts shape tree.BoolType = Some (Some byte_layout)
  known_from_parts shape tree.VoidType = Some (Some no_bytes)
  known_from_parts shape tree.AnyErrorType = Some (Some code_layout)
  known_from_parts shape (tree.ErrorSetType names inferred) = Some (Some code_layout)
  known_from_parts shape (tree.PointerType many constant of) = Some (unless_comptime of pointer_layout)
  known_from_parts shape (tree.SliceType constant of sentinel) = Some (unless_comptime of slice_layout)
  known_from_parts shape (tree.ArrayType len of sentinel) = option_map (kept_array (element_count len sentinel)) (known of)
  known_from_parts shape (tree.OptionalType of) = option_map (kept_optional (is_pointer of)) (known of)
  known_from_parts shape (tree.ErrorUnionType set payload) = option_map kept_error_union (known payload)
  known_from_parts shape (tree.StructType file node captures) = known_struct shape
  known_from_parts shape (tree.EnumType file node captures) = known_enum shape
  known_from_parts shape (tree.UnionType file node captures) = known_union shape
  known_from_parts shape _ = Some None

-- a form that goes around one other type, which lies in it by value
abbrev pub IsAround : TypeForm → Type 0
IsAround (form.Array len of sentinel) = Unit {0}
IsAround (form.Optional of) = Unit {0}
IsAround (form.ErrorUnion set payload) = Unit {0}
IsAround _ = ⊥

-- ---- what a table keeps

-- what is known is right
abbrev pub AreRight : TypeTable → List Kept → Type 0
AreRight table kept = (k : ℕ) (l : Option Layout) → slice_get kept k ≡ Some (Some l) → IsKept table (slice_index_or table.trees k tree.VoidType) l

-- each type that isn't known has a part that isn't
abbrev pub IsClosed : TypeTable → List Kept → Type 0
IsClosed table kept =
    (k : ℕ) (ty : TypeTree) (shape : Option ShapeTree) → slice_get table.trees k ≡ Some ty → slice_get table.shapes k ≡ Some shape → slice_get kept k ≡ Some None → known_from_parts (known_in table.trees kept) shape ty ≡ None

-- Beside each type stands what is known of it: it is right, and it is known of each type that has a layout.
pub record AreKept (table : TypeTable) (kept : List Kept) : Type 0 where
  pub as_many : length kept ≡ length table.trees
  pub right : AreRight table kept
  pub whole : (k : ℕ) (layout : Option Layout) → HasLayout table (slice_index_or table.trees k tree.VoidType) layout → slice_get kept k ≡ Some None → ⊥
