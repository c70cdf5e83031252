-- The layout of types (this project's own: docs/SEMANTICS.md has the table). A size may have any number of bytes here.
use Rattle.std.specs.Prelude.{◌≡◌, ℕ, ◌+◌, ◌-◌, ◌*◌, ◌/◌, ◌^◌, Bool, true, false, nat_eq, nat_le, if◌then◌else◌, List, [], ◌∷◌, length, Option, Some, None, min, max}
use Rattle.std.specs.Option.{option_map}
use Rattle.zw_types.specs.TypeTrees as tree
use Rattle.zw_types.specs.TypeTrees.{TypeTree, ValueTree, ValueTrees, ValueOption, TypeOption, TypeOptions, FieldTree, ShapeTree}
use Rattle.zw_types.specs.Tables.{TypeTable, HasShape}
use Rattle.zw_types.specs.declared.layout.Layout.{Layout}

-- a type that no other type is part of
abbrev pub is_simple : TypeTree → Bool
is_simple (tree.IntType signed bits size) = true
is_simple tree.ComptimeIntType = true
is_simple tree.BoolType = true
is_simple tree.VoidType = true
is_simple tree.NoReturnType = true
is_simple tree.TypeType = true
is_simple tree.NullType = true
is_simple tree.UndefinedType = true
is_simple tree.EnumLiteralType = true
is_simple tree.AnyErrorType = true
is_simple (tree.ErrorSetType names inferred) = true
is_simple _ = false

-- the fewest bytes of 1, 2, 4 and 8 that hold so many bits, of at most 64
abbrev pub bytes_for : ℕ → ℕ
bytes_for bits = if nat_le bits 8 then 1 else (if nat_le bits 16 then 2 else (if nat_le bits 32 then 4 else 8))

-- An integer takes the fewest bytes that hold its bits, and is aligned to as many. Without bits it takes none.
abbrev pub integer_layout : ℕ → Layout
integer_layout bits = if nat_eq bits 0 then record { size = 0; align = 1 } else record { size = bytes_for bits; align = bytes_for bits }

-- ---- parts at their places

-- the least multiple of an alignment that isn't below a number
abbrev pub round_up : ℕ → ℕ → ℕ
round_up n align = (n + (align - 1)) / align * align

abbrev pub no_bytes : Layout
no_bytes = record { size = 0; align = 1 }

-- a part behind what is there, at its alignment; and a part over what is there, as the fields of a union lie
abbrev pub followed : Layout → Layout → Layout
followed before part = record { size = round_up before.size part.align + part.size; align = max before.align part.align }

abbrev pub overlaid : Layout → Layout → Layout
overlaid before part = record { size = max before.size part.size; align = max before.align part.align }

abbrev pub joined : Bool → Layout → Layout → Layout
joined over before part = if over then overlaid before part else followed before part

abbrev pub joined_all : Bool → Layout → List Layout → Layout
joined_all over before [] = before
joined_all over before (part ∷ parts) = joined_all over (joined over before part) parts

-- rounded up to its alignment
abbrev pub rounded : Layout → Layout
rounded l = record { size = round_up l.size l.align; align = l.align }

-- ---- types with parts

abbrev pub byte_layout : Layout
byte_layout = record { size = 1; align = 1 }

abbrev pub code_layout : Layout
code_layout = record { size = 2; align = 2 }

abbrev pub pointer_layout : Layout
pointer_layout = record { size = 4; align = 4 }

abbrev pub slice_layout : Layout
slice_layout = record { size = 8; align = 4 }

-- the elements of an array, one more where it has a sentinel
abbrev pub element_count : ℕ → ValueOption → ℕ
element_count len tree.NoValue = len
element_count len (tree.TheValue sentinel) = len + 1

abbrev pub array_layout : ℕ → Layout → Layout
array_layout count of = record { size = count * of.size; align = of.align }

-- an optional that is no pointer's: the payload, and a byte that tells whether it is there
abbrev pub optional_layout : Layout → Layout
optional_layout payload = rounded (followed payload byte_layout)

-- an error union: the payload, and the code of the error
abbrev pub error_union_layout : Layout → Layout
error_union_layout payload = rounded (followed payload code_layout)

-- a struct: its fields in declared order
abbrev pub struct_layout : List Layout → Layout
struct_layout fields = rounded (joined_all false no_bytes fields)

-- a union: its largest field, and the tag
abbrev pub union_layout : Layout → List Layout → Layout
union_layout tag fields = rounded (followed (joined_all true no_bytes fields) tag)

-- the hidden tag of a bare union with so many fields: the least unsigned type that holds their places, from 0
abbrev pub hidden_tag : ℕ → Layout
hidden_tag count =
    if nat_le count 1 then no_bytes else (
    if nat_le count (2 ^ 8) then integer_layout 8 else (
    if nat_le count (2 ^ 16) then integer_layout 16 else (
    if nat_le count (2 ^ 32) then integer_layout 32 else integer_layout 64)))

-- ---- which types have a run-time form

abbrev pub is_pointer : TypeTree → Bool
is_pointer (tree.PointerType many constant of) = true
is_pointer _ = false

-- What only the compiler knows, whatever the fields of containers are. A pointer to such a type has no run-time form.
abbrev pub is_comptime_only : TypeTree → Bool
is_comptime_only tree.ComptimeIntType = true
is_comptime_only tree.NoReturnType = true
is_comptime_only tree.TypeType = true
is_comptime_only tree.NullType = true
is_comptime_only tree.UndefinedType = true
is_comptime_only tree.EnumLiteralType = true
is_comptime_only (tree.FuncType params result comptime outside) = true
is_comptime_only (tree.ArrayType len of sentinel) = is_comptime_only of
is_comptime_only (tree.PointerType many constant of) = is_comptime_only of
is_comptime_only (tree.SliceType constant of sentinel) = is_comptime_only of
is_comptime_only (tree.OptionalType of) = is_comptime_only of
is_comptime_only (tree.ErrorUnionType set payload) = is_comptime_only payload
is_comptime_only _ = false

-- this layout, unless what it leads to is known to the compiler alone
abbrev pub unless_comptime : TypeTree → Layout → Option Layout
unless_comptime of l = if is_comptime_only of then None else Some l

-- one and more: none where either has none
abbrev pub layouts_and : Option Layout → Option (List Layout) → Option (List Layout)
layouts_and (Some l) (Some ls) = Some (l ∷ ls)
layouts_and _ _ = None

abbrev pub tagged_layout : Option Layout → Option (List Layout) → Option Layout
tagged_layout (Some tag) (Some fields) = Some (union_layout tag fields)
tagged_layout _ _ = None

mutual
  -- A type has this layout, or none where it has no run-time form. There is such a layout exactly where each container that lies in the
  -- type by value is resolved, and none lies in itself.
  pub data HasLayout (table : TypeTable) : TypeTree → Option Layout → Type 0 where
    integer : (signed : Bool) (bits : ℕ) (size : Bool) → HasLayout table (tree.IntType signed bits size) (Some (integer_layout bits))
    truth : HasLayout table tree.BoolType (Some (record { size = 1; align = 1 }))
    void : HasLayout table tree.VoidType (Some (record { size = 0; align = 1 }))
    error_set : (names : List ℕ) (inferred : Option ℕ) → HasLayout table (tree.ErrorSetType names inferred) (Some (record { size = 2; align = 2 }))
    any_error : HasLayout table tree.AnyErrorType (Some (record { size = 2; align = 2 }))
    comptime_int : HasLayout table tree.ComptimeIntType None
    no_return : HasLayout table tree.NoReturnType None
    type_type : HasLayout table tree.TypeType None
    null_type : HasLayout table tree.NullType None
    undefined_type : HasLayout table tree.UndefinedType None
    enum_literal : HasLayout table tree.EnumLiteralType None
    func : (params : TypeOptions) (result : TypeOption) (comptime : List Bool) (outside : Bool) → HasLayout table (tree.FuncType params result comptime outside) None
    pointer : (many constant : Bool) (of : TypeTree) → HasLayout table (tree.PointerType many constant of) (unless_comptime of pointer_layout)
    slice : (constant : Bool) (of : TypeTree) (sentinel : ValueOption) → HasLayout table (tree.SliceType constant of sentinel) (unless_comptime of slice_layout)
    array : (len : ℕ) (of : TypeTree) (sentinel : ValueOption) (l : Option Layout) → HasLayout table of l → HasLayout table (tree.ArrayType len of sentinel) (option_map (array_layout (element_count len sentinel)) l)
    optional_pointer : (of : TypeTree) (l : Option Layout) → is_pointer of ≡ true → HasLayout table of l → HasLayout table (tree.OptionalType of) l
    optional : (of : TypeTree) (l : Option Layout) → is_pointer of ≡ false → HasLayout table of l → HasLayout table (tree.OptionalType of) (option_map optional_layout l)
    error_union : (set payload : TypeTree) (l : Option Layout) → HasLayout table payload l → HasLayout table (tree.ErrorUnionType set payload) (option_map error_union_layout l)
    struct : (file node : ℕ) (captures : ValueTrees) (shape : ShapeTree) (ls : Option (List Layout)) → HasShape table (tree.StructType file node captures) shape → HaveLayouts table shape.fields ls → HasLayout table (tree.StructType file node captures) (option_map struct_layout ls)
    enum : (file node : ℕ) (captures : ValueTrees) (shape : ShapeTree) (tag : TypeTree) (l : Option Layout) → HasShape table (tree.EnumType file node captures) shape → shape.tag ≡ Some tag → HasLayout table tag l → HasLayout table (tree.EnumType file node captures) l
    bare_union : (file node : ℕ) (captures : ValueTrees) (shape : ShapeTree) (ls : Option (List Layout)) → HasShape table (tree.UnionType file node captures) shape → shape.tag ≡ None → HaveLayouts table shape.fields ls → HasLayout table (tree.UnionType file node captures) (option_map (union_layout (hidden_tag (length shape.fields))) ls)
    tagged_union : (file node : ℕ) (captures : ValueTrees) (shape : ShapeTree) (tag : TypeTree) (l : Option Layout) (ls : Option (List Layout)) → HasShape table (tree.UnionType file node captures) shape → shape.tag ≡ Some tag → HasLayout table tag l → HaveLayouts table shape.fields ls → HasLayout table (tree.UnionType file node captures) (tagged_layout l ls)

  -- the layouts of fields, or none where one has none
  pub data HaveLayouts (table : TypeTable) : List FieldTree → Option (List Layout) → Type 0 where
    no_fields : HaveLayouts table [] (Some [])
    field_and : (field : FieldTree) (fields : List FieldTree) (l : Option Layout) (ls : Option (List Layout)) → HasLayout table field.ty l → HaveLayouts table fields ls → HaveLayouts table (field ∷ fields) (layouts_and l ls)

-- the type has a layout, or none: its layout can be told
abbrev pub IsLaidOut : TypeTable → TypeTree → Type 0
IsLaidOut table ty = (layout : Option Layout) × HasLayout table ty layout

-- the size of a type with a layout, up to 2^127
abbrev pub IsSize : TypeTable → TypeTree → Option ℕ → Type 0
IsSize table ty size = (layout : Option Layout) × HasLayout table ty layout × (size ≡ option_map (λ (l : Layout). min l.size (2 ^ 127)) layout)

-- its alignment
abbrev pub IsAlign : TypeTable → TypeTree → Option ℕ → Type 0
IsAlign table ty align = (layout : Option Layout) × HasLayout table ty layout × (align ≡ option_map (λ (l : Layout). l.align) layout)
