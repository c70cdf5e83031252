-- What a value or a form of a type stands for, read with the list of the types that its numbers name.
use Rattle.std.specs.Prelude.{ℕ, List, [], ◌∷◌, ◌++◌, map, slice_index_or, Option, Some, None}
use Rattle.std.specs.List.{concat}
use Rattle.std.specs.Option.{option_map, option_to_list}
use Rattle.zw_types.specs.declared.value.TypeId.{TypeId}
use Rattle.zw_types.specs.declared.value.Value.{Value, fold-Value}
use Rattle.zw_types.specs.declared.value.Value.TheOpen.{Value-F}
use Rattle.zw_types.specs.declared.type_form.TypeForm.{TypeForm}
use Rattle.zw_types.specs.declared.type_form.FieldShape.{FieldShape}
use Rattle.zw_types.specs.declared.type_form.Shape.{Shape}
use Rattle.zw_types.specs.declared.type_form.TypeForm.TheVariants as form
use Rattle.zw_types.specs.TypeTrees as tree
use Rattle.zw_types.specs.TypeTrees.{TypeTree, ValueTree, ValueOption, ValueTrees, values_from, value_option, types_from, type_option, FieldTree, ShapeTree}

module _ (types : List TypeTree) where
  -- the type of a number
  abbrev pub type_at : TypeId → TypeTree
  type_at id = slice_index_or types id.0 tree.VoidType

  -- one level of a value, its parts being read
  abbrev pub value_layer : Value-F ValueTree → ValueTree
  value_layer (Value-F.Number z) = tree.NumberValue z
  value_layer (Value-F.Truth b) = tree.TruthValue b
  value_layer Value-F.Undefined = tree.UndefinedValue
  value_layer (Value-F.Parts parts) = tree.PartsValue (values_from parts)
  value_layer (Value-F.Optional payload) = tree.OptionalValue (value_option payload)
  value_layer (Value-F.Error number) = tree.ErrorValue number
  value_layer (Value-F.Payload payload) = tree.PayloadValue payload
  value_layer (Value-F.Tag field payload) = tree.TagValue field (value_option payload)
  value_layer (Value-F.Literal name) = tree.LiteralValue name
  value_layer (Value-F.Pointer obj path) = tree.PointerValue obj path
  value_layer (Value-F.Slice obj path len) = tree.SliceValue obj path len
  value_layer (Value-F.Held ty at of) = tree.HeldValue (type_at ty) at (values_from of)
  value_layer (Value-F.OfType ty) = tree.TypeValue (type_at ty)
  value_layer (Value-F.Func file node captures) = tree.FuncValue file node (values_from captures)
  value_layer (Value-F.Instance number) = tree.InstanceValue number

  -- the value that a value stands for
  abbrev pub value_tree : Value → ValueTree
  value_tree = fold-Value ValueTree value_layer

  abbrev pub values_tree : List Value → ValueTrees
  values_tree values = values_from (map value_tree values)

  abbrev pub sentinel_tree : Option Value → ValueOption
  sentinel_tree sentinel = value_option (option_map value_tree sentinel)

  -- the type that a form stands for
  abbrev pub form_tree : TypeForm → TypeTree
  form_tree (form.Int signed bits size) = tree.IntType signed bits size
  form_tree form.ComptimeInt = tree.ComptimeIntType
  form_tree form.Bool = tree.BoolType
  form_tree form.Void = tree.VoidType
  form_tree form.NoReturn = tree.NoReturnType
  form_tree form.TypeType = tree.TypeType
  form_tree form.Null = tree.NullType
  form_tree form.Undefined = tree.UndefinedType
  form_tree form.EnumLiteral = tree.EnumLiteralType
  form_tree form.AnyError = tree.AnyErrorType
  form_tree (form.ErrorSet names inferred) = tree.ErrorSetType names inferred
  form_tree (form.Array len of sentinel) = tree.ArrayType len (type_at of) (sentinel_tree sentinel)
  form_tree (form.Pointer many constant of) = tree.PointerType many constant (type_at of)
  form_tree (form.Slice constant of sentinel) = tree.SliceType constant (type_at of) (sentinel_tree sentinel)
  form_tree (form.Optional of) = tree.OptionalType (type_at of)
  form_tree (form.ErrorUnion set payload) = tree.ErrorUnionType (type_at set) (type_at payload)
  form_tree (form.Struct owner) = tree.StructType owner.file owner.node (values_tree owner.captures)
  form_tree (form.Enum owner) = tree.EnumType owner.file owner.node (values_tree owner.captures)
  form_tree (form.Union owner) = tree.UnionType owner.file owner.node (values_tree owner.captures)
  form_tree (form.Func params result comptime outside) =
      tree.FuncType (types_from (map (option_map type_at) params)) (type_option (option_map type_at result)) comptime outside

  -- the field and the shape of a container that a field and a shape stand for
  abbrev pub field_tree : FieldShape → FieldTree
  field_tree field = record { name = field.name; ty = type_at field.ty; default = option_map value_tree field.default; number = field.number }

  abbrev pub shape_tree : Shape → ShapeTree
  shape_tree shape = record { fields = map field_tree shape.fields; tag = option_map type_at shape.tag }

-- The types that the forms of a table stand for, where the first ones are known: each form is read with those before it.
abbrev pub trees_from : List TypeTree → List TypeForm → List TypeTree
trees_from known [] = known
trees_from known (f ∷ forms) = trees_from (known ++ form_tree known f ∷ []) forms

-- ---- the numbers of the types that values and forms mention

-- one level of a value, its parts being the numbers that they mention
abbrev pub types_in_layer : Value-F (List ℕ) → List ℕ
types_in_layer (Value-F.Parts parts) = concat parts
types_in_layer (Value-F.Optional payload) = concat (option_to_list payload)
types_in_layer (Value-F.Payload payload) = payload
types_in_layer (Value-F.Tag field payload) = concat (option_to_list payload)
types_in_layer (Value-F.Held ty at of) = ty.0 ∷ concat of
types_in_layer (Value-F.OfType ty) = ty.0 ∷ []
types_in_layer (Value-F.Func file node captures) = concat captures
types_in_layer _ = []

abbrev pub types_in : Value → List ℕ
types_in = fold-Value (List ℕ) types_in_layer

abbrev pub types_in_choice : Option Value → List ℕ
types_in_choice choice = concat (option_to_list (option_map types_in choice))

abbrev pub types_in_all : List Value → List ℕ
types_in_all values = concat (map types_in values)

abbrev pub number_in : Option TypeId → List ℕ
number_in None = []
number_in (Some id) = id.0 ∷ []

abbrev pub types_in_form : TypeForm → List ℕ
types_in_form (form.Array len of sentinel) = of.0 ∷ types_in_choice sentinel
types_in_form (form.Pointer many constant of) = of.0 ∷ []
types_in_form (form.Slice constant of sentinel) = of.0 ∷ types_in_choice sentinel
types_in_form (form.Optional of) = of.0 ∷ []
types_in_form (form.ErrorUnion set payload) = set.0 ∷ payload.0 ∷ []
types_in_form (form.Struct owner) = types_in_all owner.captures
types_in_form (form.Enum owner) = types_in_all owner.captures
types_in_form (form.Union owner) = types_in_all owner.captures
types_in_form (form.Func params result comptime outside) = concat (map number_in params) ++ number_in result
types_in_form _ = []

abbrev pub types_in_field : FieldShape → List ℕ
types_in_field field = field.ty.0 ∷ types_in_choice field.default

abbrev pub types_in_shape : Shape → List ℕ
types_in_shape shape = concat (map types_in_field shape.fields) ++ number_in shape.tag
