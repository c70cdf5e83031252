-- Lists of forms, and the types that they stand for, worked out by hand (Zig Language Reference 0.13.0, Types).
use Rattle.std.specs.Prelude.{◌≡◌, ℕ, false, List, [], ◌∷◌}
use Rattle.zw_types.specs.declared.value.TypeId.{TypeId}
use Rattle.zw_types.specs.declared.value.Value.{Value}
use Rattle.zw_types.specs.declared.value.Value.TheVariants as v
use Rattle.zw_types.specs.declared.type_form.TypeForm.{TypeForm}
use Rattle.zw_types.specs.declared.type_form.TypeForm.TheVariants as form
use Rattle.zw_types.specs.TypeTrees as tree
use Rattle.zw_types.specs.TypeTrees.{TypeTree, values_from}
use Rattle.zw_types.specs.Readings.{trees_from}

abbrev pub id : ℕ → TypeId
id k = record { 0 = k }

abbrev pub byte : TypeForm
byte = form.Int false 8 false

-- a comptime name that a container's text mentions: the number of its type, and its value
abbrev pub capture : ℕ → Value → Value
capture ty value = v.Parts (v.OfType (id ty) ∷ value ∷ [])

-- the struct at node 5 of file 0, whose text mentions one name, a type
abbrev pub holder : ℕ → ℕ → TypeForm
holder type_type of = form.Struct (record { file = 0; node = 5; captures = capture type_type (v.OfType (id of)) ∷ [] })

-- what that is, where the name stands for this type
abbrev pub holder_of : TypeTree → TypeTree
holder_of ty = tree.StructType 0 5 (values_from (tree.PartsValue (values_from (tree.TypeValue tree.TypeType ∷ tree.TypeValue ty ∷ [])) ∷ []))

-- The types of these forms.
abbrev pub types_of : List TypeForm → List TypeTree
types_of forms = trees_from [] forms

abbrev pub u8 : TypeTree
u8 = tree.IntType false 8 false

-- `fn H(comptime T: type) type { return struct { x: T }; }`, with `H(u8)`, `H(H(u8))` and `?H(H(u8))`
pub record WorkedTypes : Type 0 where
  -- captures are types themselves, one in another
  pub nested :
      types_of (form.TypeType ∷ byte ∷ holder 0 1 ∷ holder 0 2 ∷ form.Optional (id 3) ∷ [])
      ≡ tree.TypeType ∷ u8 ∷ holder_of u8 ∷ holder_of (holder_of u8) ∷ tree.OptionalType (holder_of (holder_of u8)) ∷ []
  -- in another order they have other numbers, and are the same types
  pub turned :
      types_of (byte ∷ form.Bool ∷ form.TypeType ∷ holder 2 0 ∷ holder 2 3 ∷ [])
      ≡ u8 ∷ tree.BoolType ∷ tree.TypeType ∷ holder_of u8 ∷ holder_of (holder_of u8) ∷ []
  -- another name, or another type of the name, is another type; so is the struct at another node
  pub of_bool : types_of (form.TypeType ∷ form.Bool ∷ holder 0 1 ∷ []) ≡ tree.TypeType ∷ tree.BoolType ∷ holder_of tree.BoolType ∷ []
  pub without_names : types_of (form.Struct (record { file = 0; node = 5; captures = [] }) ∷ []) ≡ tree.StructType 0 5 tree.no_values ∷ []
