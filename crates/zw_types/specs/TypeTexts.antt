-- The text of a type, as Zig writes it (Zig Language Reference 0.13.0, Types).
use Rattle.std.specs.Prelude.{◌≡◌, ℕ, pos, Bool, true, false, List, [], ◌++◌, Option, Some, None, codes}
use Rattle.std.specs.Fmt.{decimal, signed_decimal}
use Rattle.zw_types.specs.TypeTrees as tree
use Rattle.zw_types.specs.TypeTrees.{TypeTree, ValueOption}

-- an integer type: whether it is signed, its bits, and whether it is `usize` or `isize`
abbrev pub integer_text : Bool → ℕ → Bool → List ℕ
integer_text true bits true = codes "isize"
integer_text false bits true = codes "usize"
integer_text true bits false = codes "i" ++ decimal bits
integer_text false bits false = codes "u" ++ decimal bits

-- a sentinel, where there is one: a number is shown
abbrev pub sentinel_text : ValueOption → List ℕ
sentinel_text tree.NoValue = []
sentinel_text (tree.TheValue (tree.NumberValue z)) = codes ":" ++ signed_decimal z
sentinel_text (tree.TheValue _) = codes ":_"

-- a pointer to one item or to many
abbrev pub pointer_text : Bool → Bool → List ℕ
pointer_text false false = codes "*"
pointer_text false true = codes "*const "
pointer_text true false = codes "[*]"
pointer_text true true = codes "[*]const "

-- the set of an error union, and `!`
abbrev pub set_text : TypeTree → List ℕ
set_text tree.AnyErrorType = codes "anyerror!"
set_text _ = codes "error{..}!"

-- What has one word, or one sign before its element. No tree has the names of containers, errors and functions: they are told by their kind.
abbrev pub word_of : TypeTree → List ℕ
word_of tree.ComptimeIntType = codes "comptime_int"
word_of tree.BoolType = codes "bool"
word_of tree.VoidType = codes "void"
word_of tree.NoReturnType = codes "noreturn"
word_of tree.TypeType = codes "type"
word_of tree.NullType = codes "@TypeOf(null)"
word_of tree.UndefinedType = codes "@TypeOf(undefined)"
word_of tree.EnumLiteralType = codes "@TypeOf(.enum_literal)"
word_of tree.AnyErrorType = codes "anyerror"
word_of (tree.ErrorSetType names inferred) = codes "error{..}"
word_of (tree.PointerType many constant of) = pointer_text many constant
word_of (tree.OptionalType of) = codes "?"
word_of (tree.StructType file node captures) = codes "struct {..}"
word_of (tree.EnumType file node captures) = codes "enum {..}"
word_of (tree.UnionType file node captures) = codes "union {..}"
word_of (tree.FuncType params result comptime outside) = codes "fn (..)"
word_of _ = []

-- what stands before the element of an array, and of a slice, with the text of the sentinel
abbrev pub array_front : ℕ → List ℕ → List ℕ
array_front len sentinel = codes "[" ++ (decimal len ++ (sentinel ++ codes "]"))

abbrev pub slice_front : Bool → List ℕ → List ℕ
slice_front true sentinel = codes "[" ++ (sentinel ++ codes "]const ")
slice_front false sentinel = codes "[" ++ (sentinel ++ codes "]")

-- the whole text, or what stands before the text of the element
abbrev pub front_of : TypeTree → List ℕ
front_of (tree.IntType signed bits size) = integer_text signed bits size
front_of (tree.ArrayType len of sentinel) = array_front len (sentinel_text sentinel)
front_of (tree.SliceType constant of sentinel) = slice_front constant (sentinel_text sentinel)
front_of (tree.ErrorUnionType set payload) = set_text set
front_of ty = word_of ty

-- what a type's text ends with the text of
abbrev pub element_of : TypeTree → Option TypeTree
element_of (tree.ArrayType len of sentinel) = Some of
element_of (tree.PointerType many constant of) = Some of
element_of (tree.SliceType constant of sentinel) = Some of
element_of (tree.OptionalType of) = Some of
element_of (tree.ErrorUnionType set payload) = Some payload
element_of _ = None

abbrev pub type_text : TypeTree → List ℕ
type_text (tree.ArrayType len of sentinel) = array_front len (sentinel_text sentinel) ++ type_text of
type_text (tree.PointerType many constant of) = pointer_text many constant ++ type_text of
type_text (tree.SliceType constant of sentinel) = slice_front constant (sentinel_text sentinel) ++ type_text of
type_text (tree.OptionalType of) = codes "?" ++ type_text of
type_text (tree.ErrorUnionType set payload) = set_text set ++ type_text payload
type_text ty = front_of ty

-- ---- texts that were worked out by hand

abbrev pub u8 : TypeTree
u8 = tree.IntType false 8 false

abbrev pub zero : ValueOption
zero = tree.TheValue (tree.NumberValue (pos 0))

pub record WorkedTexts : Type 0 where
  pub byte : type_text u8 ≡ codes "u8"
  pub signed : type_text (tree.IntType true 64 false) ≡ codes "i64"
  pub size : type_text (tree.IntType false 32 true) ≡ codes "usize"
  pub literal : type_text tree.ComptimeIntType ≡ codes "comptime_int"
  pub array : type_text (tree.ArrayType 4 u8 tree.NoValue) ≡ codes "[4]u8"
  pub ended : type_text (tree.ArrayType 12 u8 zero) ≡ codes "[12:0]u8"
  pub optional_pointer : type_text (tree.OptionalType (tree.PointerType false true tree.BoolType)) ≡ codes "?*const bool"
  pub many : type_text (tree.PointerType true false (tree.PointerType true true u8)) ≡ codes "[*][*]const u8"
  pub text : type_text (tree.SliceType true u8 zero) ≡ codes "[:0]const u8"
  pub slice : type_text (tree.SliceType false (tree.SliceType true u8 tree.NoValue) tree.NoValue) ≡ codes "[][]const u8"
  pub union_of_errors : type_text (tree.ErrorUnionType tree.AnyErrorType tree.VoidType) ≡ codes "anyerror!void"
  pub container : type_text (tree.OptionalType (tree.StructType 0 5 tree.no_values)) ≡ codes "?struct {..}"
