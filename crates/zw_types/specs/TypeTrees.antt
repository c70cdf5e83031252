-- Types and values as finite trees (Zig Language Reference 0.13.0, Types and Values). No tree mentions the number of a type: a type
-- stands in it as its own tree. Errors are mentioned by their numbers.
use Rattle.std.specs.Prelude.{ℕ, ℤ, Bool, true, false, List, [], ◌∷◌, Option, Some, None}

mutual
  pub data TypeTree : Type 0 where
    -- an integer type: whether it is signed, its bits, and whether it is `usize` or `isize`
    IntType : Bool → ℕ → Bool → TypeTree
    ComptimeIntType BoolType VoidType NoReturnType TypeType NullType UndefinedType EnumLiteralType AnyErrorType : TypeTree
    -- an error set: its errors, or the function instance whose errors aren't known yet
    ErrorSetType : List ℕ → Option ℕ → TypeTree
    ArrayType : ℕ → TypeTree → ValueOption → TypeTree
    PointerType : Bool → Bool → TypeTree → TypeTree
    SliceType : Bool → TypeTree → ValueOption → TypeTree
    OptionalType : TypeTree → TypeTree
    ErrorUnionType : TypeTree → TypeTree → TypeTree
    StructType EnumType UnionType : ℕ → ℕ → ValueTrees → TypeTree
    FuncType : TypeOptions → TypeOption → List Bool → Bool → TypeTree
    deriving Discrete as same_tree

  pub data TypeOption : Type 0 where
    NoType : TypeOption
    TheType : TypeTree → TypeOption

  pub data TypeOptions : Type 0 where
    no_types : TypeOptions
    type_and : TypeOption → TypeOptions → TypeOptions

  pub data ValueTree : Type 0 where
    NumberValue : ℤ → ValueTree
    TruthValue : Bool → ValueTree
    UndefinedValue : ValueTree
    PartsValue : ValueTrees → ValueTree
    OptionalValue : ValueOption → ValueTree
    ErrorValue : ℕ → ValueTree
    PayloadValue : ValueTree → ValueTree
    TagValue : ℕ → ValueOption → ValueTree
    LiteralValue : List ℕ → ValueTree
    PointerValue : ℕ → List ℕ → ValueTree
    SliceValue : ℕ → List ℕ → ℕ → ValueTree
    HeldValue : TypeTree → ℕ → ValueTrees → ValueTree
    TypeValue : TypeTree → ValueTree
    FuncValue : ℕ → ℕ → ValueTrees → ValueTree
    InstanceValue : ℕ → ValueTree

  pub data ValueOption : Type 0 where
    NoValue : ValueOption
    TheValue : ValueTree → ValueOption

  pub data ValueTrees : Type 0 where
    no_values : ValueTrees
    value_and : ValueTree → ValueTrees → ValueTrees

-- ---- the lists and options in these trees

abbrev pub values_from : List ValueTree → ValueTrees
values_from [] = no_values
values_from (v ∷ vs) = value_and v (values_from vs)

abbrev pub values_in : ValueTrees → List ValueTree
values_in no_values = []
values_in (value_and v vs) = v ∷ values_in vs

abbrev pub value_option : Option ValueTree → ValueOption
value_option None = NoValue
value_option (Some v) = TheValue v

abbrev pub type_option : Option TypeTree → TypeOption
type_option None = NoType
type_option (Some t) = TheType t

abbrev pub types_from : List (Option TypeTree) → TypeOptions
types_from [] = no_types
types_from (t ∷ ts) = type_and (type_option t) (types_from ts)

abbrev pub types_in : TypeOptions → List (Option TypeTree)
types_in no_types = []
types_in (type_and NoType ts) = None ∷ types_in ts
types_in (type_and (TheType t) ts) = Some t ∷ types_in ts

-- ---- containers and their fields

-- a struct, an enum or a union
abbrev pub is_container : TypeTree → Bool
is_container (StructType file node captures) = true
is_container (EnumType file node captures) = true
is_container (UnionType file node captures) = true
is_container _ = false

-- a field: its default where it has one, and for a tag of an enum its number
pub record FieldTree : Type 0 where
  pub name : List ℕ
  pub ty : TypeTree
  pub default : Option ValueTree
  pub number : Option ℤ

-- the fields of a container, and the type of its tag where it has one
pub record ShapeTree : Type 0 where
  pub fields : List FieldTree
  pub tag : Option TypeTree
