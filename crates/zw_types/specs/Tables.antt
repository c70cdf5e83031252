-- Tables of types: each type that has a number, the fields of the containers that are resolved, and the names of errors.
use Rattle.std.specs.Prelude.{◌≡◌, ◌≢◌, ◌↔◌, ◌⊎◌, ℕ, ◌-◌, ◌/◌, ◌^◌, ◌≤◌, ℤ, pos, neg_ℤ, ◌≤ℤ◌, ◌<ℤ◌, Bool, true, false, IsTrue, List, [], ◌∷◌, ◌++◌, length, map, slice_get, slice_set, slice_index_or, All, AllPairs, Contains, Option, Some, None, MatchOption, IsSomeAnd}
use Rattle.std.specs.List.Sorted.{IsStrictlyIncreasing}
use Rattle.zw_types.specs.TypeTrees as tree
use Rattle.zw_types.specs.TypeTrees.{TypeTree, FieldTree, ShapeTree, is_container}

pub record TypeTable : Type 0 where
  -- the type of each number, from 0
  pub trees : List TypeTree
  -- for each type its fields, where it is a resolved container
  pub shapes : List (Option ShapeTree)
  -- the name of each error, from 1
  pub errors : List (List ℕ)

-- a table without types
abbrev pub no_table : TypeTable
no_table = record { trees = []; shapes = []; errors = [] }

-- ---- types that can stand in a table

abbrev pub is_error_set : TypeTree → Bool
is_error_set (tree.ErrorSetType names inferred) = true
is_error_set tree.AnyErrorType = true
is_error_set _ = false

-- An integer type has at most 64 bits, and `usize` and `isize` have 32. The errors of a set rise, and there is none while the set
-- isn't known. The set of an error union is an error set or `anyerror`. A function says of each parameter whether it is `comptime`.
abbrev pub IsFormed : TypeTree → Type 0
IsFormed (tree.IntType signed bits size) = (bits ≤ 64) × (IsTrue size → bits ≡ 32)
IsFormed (tree.ErrorSetType names inferred) = IsStrictlyIncreasing names × MatchOption inferred (Unit {0}) (λ _. names ≡ [])
IsFormed (tree.ErrorUnionType set payload) = IsTrue (is_error_set set)
IsFormed (tree.FuncType params result comptime outside) = length (tree.types_in params) ≡ length comptime
IsFormed _ = Unit {0}

-- ---- what a table is after a call

-- The number of a type, and the table after: the type has a number already and the table stays, or it gets the next one.
pub record IsInterned (old new : TypeTable) (ty : TypeTree) (number : ℕ) : Type 0 where
  pub named : slice_get new.trees number ≡ Some ty
  pub grown : (new ≡ old) ⊎ ((¬ Contains old.trees ty) × (new ≡ record { trees = old.trees ++ ty ∷ []; shapes = old.shapes ++ None ∷ []; errors = old.errors }))

-- the type of a number is a container without fields so far
abbrev pub IsOpen : TypeTable → ℕ → Type 0
IsOpen table k = IsTrue (is_container (slice_index_or table.trees k tree.VoidType)) × (slice_get table.shapes k ≡ Some None)

-- the table with these fields for the type of a number
abbrev pub resolved : TypeTable → ℕ → ShapeTree → TypeTable
resolved table k shape = record table { shapes = slice_set table.shapes k (Some shape) }

-- a table keeps the types, the fields and the error names of another one
pub record Keeps (old new : TypeTable) : Type 0 where
  pub trees : (k : ℕ) (ty : TypeTree) → slice_get old.trees k ≡ Some ty → slice_get new.trees k ≡ Some ty
  pub shapes : (k : ℕ) (shape : ShapeTree) → slice_get old.shapes k ≡ Some (Some shape) → slice_get new.shapes k ≡ Some (Some shape)
  pub errors : (k : ℕ) (name : List ℕ) → slice_get old.errors k ≡ Some name → slice_get new.errors k ≡ Some name

-- ---- shapes that fit a container

abbrev pub is_integer : TypeTree → Bool
is_integer (tree.IntType signed bits size) = true
is_integer _ = false

-- a number is a value of an integer type
abbrev pub HasNumber : TypeTree → ℤ → Type 0
HasNumber (tree.IntType false bits size) z = (pos 0 ≤ℤ z) × (z <ℤ pos (2 ^ bits))
HasNumber (tree.IntType true bits size) z = (neg_ℤ (pos (2 ^ bits / 2)) ≤ℤ z) × (z ≤ℤ pos ((2 ^ bits - 1) / 2))
HasNumber _ z = ⊥

abbrev pub names_of : ShapeTree → List (List ℕ)
names_of shape = map (λ field. field.name) shape.fields

abbrev pub HasNoNumbers : ShapeTree → Type 0
HasNoNumbers shape = All (λ (field : FieldTree). field.number ≡ None) shape.fields

-- the type has these fields in the table
abbrev pub HasShape : TypeTable → TypeTree → ShapeTree → Type 0
HasShape table ty shape = (k : ℕ) × (slice_get table.trees k ≡ Some ty) × (slice_get table.shapes k ≡ Some (Some shape))

-- a resolved enum with just these names
abbrev pub IsTagOf : TypeTable → List (List ℕ) → TypeTree → Type 0
IsTagOf table names (tree.EnumType file node captures) =
    (shape : ShapeTree) × HasShape table (tree.EnumType file node captures) shape × ((name : List ℕ) → Contains (names_of shape) name ↔ Contains names name)
IsTagOf table names _ = ⊥

-- The fields of a container: their names differ; a struct has neither tag nor numbers; an enum has an integer type as its tag
-- and for each field a number of that type, no two equal; a union has no numbers, and as its tag none or a resolved enum with
-- the same names.
abbrev pub IsShapeOf : TypeTable → TypeTree → ShapeTree → Type 0
IsShapeOf table (tree.StructType file node captures) shape =
    AllPairs (λ a b. a ≢ b) (names_of shape) × (shape.tag ≡ None) × HasNoNumbers shape
IsShapeOf table (tree.EnumType file node captures) shape =
    AllPairs (λ a b. a ≢ b) (names_of shape) × AllPairs (λ (a b : FieldTree). a.number ≢ b.number) shape.fields
    × IsSomeAnd shape.tag (λ tag. IsTrue (is_integer tag) × All (λ (field : FieldTree). IsSomeAnd field.number (HasNumber tag)) shape.fields)
IsShapeOf table (tree.UnionType file node captures) shape =
    AllPairs (λ a b. a ≢ b) (names_of shape) × HasNoNumbers shape × MatchOption shape.tag (Unit {0}) (IsTagOf table (names_of shape))
IsShapeOf table _ shape = ⊥

-- ---- tables

-- What holds of each table: no type has two numbers, each type is formed, and what has fields is a container that they fit. So what has
-- fields is a struct, an enum or a union; the names of its fields differ, and its tag is as `IsShapeOf` says.
pub record IsTable (table : TypeTable) : Type 0 where
  pub once : AllPairs (λ a b. a ≢ b) table.trees
  pub formed : All IsFormed table.trees
  pub as_many : length table.shapes ≡ length table.trees
  pub fitting : (k : ℕ) (shape : ShapeTree) → slice_get table.shapes k ≡ Some (Some shape) → IsShapeOf table (slice_index_or table.trees k tree.VoidType) shape
