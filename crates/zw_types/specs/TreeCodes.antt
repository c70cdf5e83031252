-- How trees of types and values are told apart as plain data: each is written as a tree of numbers that gives it back.
use Rattle.std.specs.Prelude.{◌≡◌, ℕ, ℤ, pos, negsuc, Bool, true, false, List, [], ◌∷◌, Option, Some, None, refl}
use Rattle.std.proofs.Common.{sym, ◌∙◌, ap}
use Rattle.std.specs.Coded.{Coded, code_by, coded×, coded_ℕ, coded_ℤ, coded_list, coded_option}
use base.Stored.{Gv, gnil, gnum, gcons, num}
use Rattle.zw_types.specs.TypeTrees as tree
use Rattle.zw_types.specs.TypeTrees.{TypeTree, TypeOption, TypeOptions, ValueTree, ValueOption, ValueTrees, FieldTree, ShapeTree}
use Rattle.zw_types.specs.Tables.{TypeTable}

-- the numbers of the variants

pattern abbrev n0 : Gv
n0 = gnil

pattern abbrev n1 : Gv
n1 = gcons gnil n0

pattern abbrev n2 : Gv
n2 = gcons gnil n1

pattern abbrev n3 : Gv
n3 = gcons gnil n2

pattern abbrev n4 : Gv
n4 = gcons gnil n3

pattern abbrev n5 : Gv
n5 = gcons gnil n4

pattern abbrev n6 : Gv
n6 = gcons gnil n5

pattern abbrev n7 : Gv
n7 = gcons gnil n6

pattern abbrev n8 : Gv
n8 = gcons gnil n7

pattern abbrev n9 : Gv
n9 = gcons gnil n8

pattern abbrev n10 : Gv
n10 = gcons gnil n9

pattern abbrev n11 : Gv
n11 = gcons gnil n10

pattern abbrev n12 : Gv
n12 = gcons gnil n11

pattern abbrev n13 : Gv
n13 = gcons gnil n12

pattern abbrev n14 : Gv
n14 = gcons gnil n13

pattern abbrev n15 : Gv
n15 = gcons gnil n14

pattern abbrev n16 : Gv
n16 = gcons gnil n15

pattern abbrev n17 : Gv
n17 = gcons gnil n16

pattern abbrev n18 : Gv
n18 = gcons gnil n17

pattern abbrev n19 : Gv
n19 = gcons gnil n18

abbrev bool_code : Bool → Gv
bool_code true = gnil
bool_code false = gnum 0

abbrev bool_back : Gv → Bool
bool_back gnil = true
bool_back _ = false

bool_back-code : (b : Bool) → bool_back (bool_code b) ≡ b
bool_back-code true = refl
bool_back-code false = refl

abbrev numbers_code : List ℕ → Gv
numbers_code [] = gnil
numbers_code (n ∷ ns) = gcons (gnum n) (numbers_code ns)

abbrev numbers_back : Gv → List ℕ
numbers_back (gcons n ns) = num n ∷ numbers_back ns
numbers_back _ = []

numbers_back-code : (ns : List ℕ) → numbers_back (numbers_code ns) ≡ ns
numbers_back-code [] = refl
numbers_back-code (n ∷ ns) = ap (λ l. n ∷ l) (numbers_back-code ns)

abbrev bools_code : List Bool → Gv
bools_code [] = gnil
bools_code (b ∷ bs) = gcons (bool_code b) (bools_code bs)

abbrev bools_back : Gv → List Bool
bools_back (gcons b bs) = bool_back b ∷ bools_back bs
bools_back _ = []

bools_back-code : (bs : List Bool) → bools_back (bools_code bs) ≡ bs
bools_back-code [] = refl
bools_back-code (b ∷ bs) = λ i. bool_back-code b i ∷ bools_back-code bs i

abbrev choice_code : Option ℕ → Gv
choice_code None = gnil
choice_code (Some n) = gnum n

abbrev choice_back : Gv → Option ℕ
choice_back (gnum n) = Some n
choice_back _ = None

choice_back-code : (o : Option ℕ) → choice_back (choice_code o) ≡ o
choice_back-code None = refl
choice_back-code (Some n) = refl

abbrev integer_code : ℤ → Gv
integer_code (pos n) = gnum n
integer_code (negsuc n) = gcons gnil (gnum n)

abbrev integer_back : Gv → ℤ
integer_back (gcons _ n) = negsuc (num n)
integer_back n = pos (num n)

integer_back-code : (z : ℤ) → integer_back (integer_code z) ≡ z
integer_back-code (pos n) = refl
integer_back-code (negsuc n) = refl

abbrev mutual
  pub type_code : TypeTree → Gv
  type_code (tree.IntType x y z) = gcons n0 (gcons (bool_code x) (gcons (gnum y) (bool_code z)))
  type_code tree.ComptimeIntType = gcons n1 gnil
  type_code tree.BoolType = gcons n2 gnil
  type_code tree.VoidType = gcons n3 gnil
  type_code tree.NoReturnType = gcons n4 gnil
  type_code tree.TypeType = gcons n5 gnil
  type_code tree.NullType = gcons n6 gnil
  type_code tree.UndefinedType = gcons n7 gnil
  type_code tree.EnumLiteralType = gcons n8 gnil
  type_code tree.AnyErrorType = gcons n9 gnil
  type_code (tree.ErrorSetType x y) = gcons n10 (gcons (numbers_code x) (choice_code y))
  type_code (tree.ArrayType x y z) = gcons n11 (gcons (gnum x) (gcons (type_code y) (value_option_code z)))
  type_code (tree.PointerType x y z) = gcons n12 (gcons (bool_code x) (gcons (bool_code y) (type_code z)))
  type_code (tree.SliceType x y z) = gcons n13 (gcons (bool_code x) (gcons (type_code y) (value_option_code z)))
  type_code (tree.OptionalType x) = gcons n14 (type_code x)
  type_code (tree.ErrorUnionType x y) = gcons n15 (gcons (type_code x) (type_code y))
  type_code (tree.StructType x y z) = gcons n16 (gcons (gnum x) (gcons (gnum y) (values_code z)))
  type_code (tree.EnumType x y z) = gcons n17 (gcons (gnum x) (gcons (gnum y) (values_code z)))
  type_code (tree.UnionType x y z) = gcons n18 (gcons (gnum x) (gcons (gnum y) (values_code z)))
  type_code (tree.FuncType x y z w) = gcons n19 (gcons (type_options_code x) (gcons (type_option_code y) (gcons (bools_code z) (bool_code w))))

  pub value_code : ValueTree → Gv
  value_code (tree.NumberValue x) = gcons n0 (integer_code x)
  value_code (tree.TruthValue x) = gcons n1 (bool_code x)
  value_code tree.UndefinedValue = gcons n2 gnil
  value_code (tree.PartsValue x) = gcons n3 (values_code x)
  value_code (tree.OptionalValue x) = gcons n4 (value_option_code x)
  value_code (tree.ErrorValue x) = gcons n5 (gnum x)
  value_code (tree.PayloadValue x) = gcons n6 (value_code x)
  value_code (tree.TagValue x y) = gcons n7 (gcons (gnum x) (value_option_code y))
  value_code (tree.LiteralValue x) = gcons n8 (numbers_code x)
  value_code (tree.PointerValue x y) = gcons n9 (gcons (gnum x) (numbers_code y))
  value_code (tree.SliceValue x y z) = gcons n10 (gcons (gnum x) (gcons (numbers_code y) (gnum z)))
  value_code (tree.HeldValue x y z) = gcons n11 (gcons (type_code x) (gcons (gnum y) (values_code z)))
  value_code (tree.TypeValue x) = gcons n12 (type_code x)
  value_code (tree.FuncValue x y z) = gcons n13 (gcons (gnum x) (gcons (gnum y) (values_code z)))
  value_code (tree.InstanceValue x) = gcons n14 (gnum x)

  type_option_code : TypeOption → Gv
  type_option_code tree.NoType = gnil
  type_option_code (tree.TheType t) = gcons gnil (type_code t)

  type_options_code : TypeOptions → Gv
  type_options_code tree.no_types = gnil
  type_options_code (tree.type_and t ts) = gcons (type_option_code t) (type_options_code ts)

  value_option_code : ValueOption → Gv
  value_option_code tree.NoValue = gnil
  value_option_code (tree.TheValue v) = gcons gnil (value_code v)

  values_code : ValueTrees → Gv
  values_code tree.no_values = gnil
  values_code (tree.value_and v vs) = gcons (value_code v) (values_code vs)

abbrev mutual
  pub type_back : Gv → TypeTree
  type_back (gcons n0 (gcons x (gcons y z))) = tree.IntType (bool_back x) (num y) (bool_back z)
  type_back (gcons n1 _) = tree.ComptimeIntType
  type_back (gcons n2 _) = tree.BoolType
  type_back (gcons n3 _) = tree.VoidType
  type_back (gcons n4 _) = tree.NoReturnType
  type_back (gcons n5 _) = tree.TypeType
  type_back (gcons n6 _) = tree.NullType
  type_back (gcons n7 _) = tree.UndefinedType
  type_back (gcons n8 _) = tree.EnumLiteralType
  type_back (gcons n9 _) = tree.AnyErrorType
  type_back (gcons n10 (gcons x y)) = tree.ErrorSetType (numbers_back x) (choice_back y)
  type_back (gcons n11 (gcons x (gcons y z))) = tree.ArrayType (num x) (type_back y) (value_option_back z)
  type_back (gcons n12 (gcons x (gcons y z))) = tree.PointerType (bool_back x) (bool_back y) (type_back z)
  type_back (gcons n13 (gcons x (gcons y z))) = tree.SliceType (bool_back x) (type_back y) (value_option_back z)
  type_back (gcons n14 x) = tree.OptionalType (type_back x)
  type_back (gcons n15 (gcons x y)) = tree.ErrorUnionType (type_back x) (type_back y)
  type_back (gcons n16 (gcons x (gcons y z))) = tree.StructType (num x) (num y) (values_back z)
  type_back (gcons n17 (gcons x (gcons y z))) = tree.EnumType (num x) (num y) (values_back z)
  type_back (gcons n18 (gcons x (gcons y z))) = tree.UnionType (num x) (num y) (values_back z)
  type_back (gcons n19 (gcons x (gcons y (gcons z w)))) = tree.FuncType (type_options_back x) (type_option_back y) (bools_back z) (bool_back w)
  type_back _ = tree.VoidType

  pub value_back : Gv → ValueTree
  value_back (gcons n0 x) = tree.NumberValue (integer_back x)
  value_back (gcons n1 x) = tree.TruthValue (bool_back x)
  value_back (gcons n2 _) = tree.UndefinedValue
  value_back (gcons n3 x) = tree.PartsValue (values_back x)
  value_back (gcons n4 x) = tree.OptionalValue (value_option_back x)
  value_back (gcons n5 x) = tree.ErrorValue (num x)
  value_back (gcons n6 x) = tree.PayloadValue (value_back x)
  value_back (gcons n7 (gcons x y)) = tree.TagValue (num x) (value_option_back y)
  value_back (gcons n8 x) = tree.LiteralValue (numbers_back x)
  value_back (gcons n9 (gcons x y)) = tree.PointerValue (num x) (numbers_back y)
  value_back (gcons n10 (gcons x (gcons y z))) = tree.SliceValue (num x) (numbers_back y) (num z)
  value_back (gcons n11 (gcons x (gcons y z))) = tree.HeldValue (type_back x) (num y) (values_back z)
  value_back (gcons n12 x) = tree.TypeValue (type_back x)
  value_back (gcons n13 (gcons x (gcons y z))) = tree.FuncValue (num x) (num y) (values_back z)
  value_back (gcons n14 x) = tree.InstanceValue (num x)
  value_back _ = tree.UndefinedValue

  type_option_back : Gv → TypeOption
  type_option_back (gcons _ t) = tree.TheType (type_back t)
  type_option_back _ = tree.NoType

  type_options_back : Gv → TypeOptions
  type_options_back (gcons t ts) = tree.type_and (type_option_back t) (type_options_back ts)
  type_options_back _ = tree.no_types

  value_option_back : Gv → ValueOption
  value_option_back (gcons _ v) = tree.TheValue (value_back v)
  value_option_back _ = tree.NoValue

  values_back : Gv → ValueTrees
  values_back (gcons v vs) = tree.value_and (value_back v) (values_back vs)
  values_back _ = tree.no_values

mutual
  pub type_back-code : (t : TypeTree) → type_back (type_code t) ≡ t
  type_back-code (tree.IntType x y z) = λ i. tree.IntType (bool_back-code x i) y (bool_back-code z i)
  type_back-code tree.ComptimeIntType = refl
  type_back-code tree.BoolType = refl
  type_back-code tree.VoidType = refl
  type_back-code tree.NoReturnType = refl
  type_back-code tree.TypeType = refl
  type_back-code tree.NullType = refl
  type_back-code tree.UndefinedType = refl
  type_back-code tree.EnumLiteralType = refl
  type_back-code tree.AnyErrorType = refl
  type_back-code (tree.ErrorSetType x y) = λ i. tree.ErrorSetType (numbers_back-code x i) (choice_back-code y i)
  type_back-code (tree.ArrayType x y z) = λ i. tree.ArrayType x (type_back-code y i) (value_option_back-code z i)
  type_back-code (tree.PointerType x y z) = λ i. tree.PointerType (bool_back-code x i) (bool_back-code y i) (type_back-code z i)
  type_back-code (tree.SliceType x y z) = λ i. tree.SliceType (bool_back-code x i) (type_back-code y i) (value_option_back-code z i)
  type_back-code (tree.OptionalType x) = λ i. tree.OptionalType (type_back-code x i)
  type_back-code (tree.ErrorUnionType x y) = λ i. tree.ErrorUnionType (type_back-code x i) (type_back-code y i)
  type_back-code (tree.StructType x y z) = λ i. tree.StructType x y (values_back-code z i)
  type_back-code (tree.EnumType x y z) = λ i. tree.EnumType x y (values_back-code z i)
  type_back-code (tree.UnionType x y z) = λ i. tree.UnionType x y (values_back-code z i)
  type_back-code (tree.FuncType x y z w) = λ i. tree.FuncType (type_options_back-code x i) (type_option_back-code y i) (bools_back-code z i) (bool_back-code w i)

  pub value_back-code : (v : ValueTree) → value_back (value_code v) ≡ v
  value_back-code (tree.NumberValue x) = λ i. tree.NumberValue (integer_back-code x i)
  value_back-code (tree.TruthValue x) = λ i. tree.TruthValue (bool_back-code x i)
  value_back-code tree.UndefinedValue = refl
  value_back-code (tree.PartsValue x) = λ i. tree.PartsValue (values_back-code x i)
  value_back-code (tree.OptionalValue x) = λ i. tree.OptionalValue (value_option_back-code x i)
  value_back-code (tree.ErrorValue x) = refl
  value_back-code (tree.PayloadValue x) = λ i. tree.PayloadValue (value_back-code x i)
  value_back-code (tree.TagValue x y) = λ i. tree.TagValue x (value_option_back-code y i)
  value_back-code (tree.LiteralValue x) = λ i. tree.LiteralValue (numbers_back-code x i)
  value_back-code (tree.PointerValue x y) = λ i. tree.PointerValue x (numbers_back-code y i)
  value_back-code (tree.SliceValue x y z) = λ i. tree.SliceValue x (numbers_back-code y i) z
  value_back-code (tree.HeldValue x y z) = λ i. tree.HeldValue (type_back-code x i) y (values_back-code z i)
  value_back-code (tree.TypeValue x) = λ i. tree.TypeValue (type_back-code x i)
  value_back-code (tree.FuncValue x y z) = λ i. tree.FuncValue x y (values_back-code z i)
  value_back-code (tree.InstanceValue x) = refl

  type_option_back-code : (t : TypeOption) → type_option_back (type_option_code t) ≡ t
  type_option_back-code tree.NoType = refl
  type_option_back-code (tree.TheType t) = ap tree.TheType (type_back-code t)

  type_options_back-code : (ts : TypeOptions) → type_options_back (type_options_code ts) ≡ ts
  type_options_back-code tree.no_types = refl
  type_options_back-code (tree.type_and t ts) = λ i. tree.type_and (type_option_back-code t i) (type_options_back-code ts i)

  value_option_back-code : (v : ValueOption) → value_option_back (value_option_code v) ≡ v
  value_option_back-code tree.NoValue = refl
  value_option_back-code (tree.TheValue v) = ap tree.TheValue (value_back-code v)

  values_back-code : (vs : ValueTrees) → values_back (values_code vs) ≡ vs
  values_back-code tree.no_values = refl
  values_back-code (tree.value_and v vs) = λ i. tree.value_and (value_back-code v i) (values_back-code vs i)

abbrev pub coded_type : Coded TypeTree
coded_type = record { code = type_code; inj = λ x y p. sym (type_back-code x) ∙ ap type_back p ∙ type_back-code y }

abbrev pub coded_value : Coded ValueTree
coded_value = record { code = value_code; inj = λ x y p. sym (value_back-code x) ∙ ap value_back p ∙ value_back-code y }

-- a field is stored as the pair of its name and type, and of its default and number
abbrev pub coded_field : Coded FieldTree
coded_field =
    code_by ((List ℕ × TypeTree) × (Option ValueTree × Option ℤ))
    (coded× (coded× (coded_list coded_ℕ) coded_type) (coded× (coded_option coded_value) (coded_option coded_ℤ)))
    (λ f. ((f.name, f.ty), (f.default, f.number))) (λ p. record { name = p.0.0; ty = p.0.1; default = p.1.0; number = p.1.1 }) (λ _. refl)

abbrev pub coded_shape : Coded ShapeTree
coded_shape =
    code_by (List FieldTree × Option TypeTree) (coded× (coded_list coded_field) (coded_option coded_type))
    (λ s. (s.fields, s.tag)) (λ p. record { fields = p.0; tag = p.1 }) (λ _. refl)

-- a table is stored as its types, and the pair of its shapes and errors
abbrev pub coded_table : Coded TypeTable
coded_table =
    code_by (List TypeTree × (List (Option ShapeTree) × List (List ℕ)))
    (coded× (coded_list coded_type) (coded× (coded_list (coded_option coded_shape)) (coded_list (coded_list coded_ℕ))))
    (λ t. (t.trees, (t.shapes, t.errors))) (λ p. record { trees = p.0; shapes = p.1.0; errors = p.1.1 }) (λ _. refl)
