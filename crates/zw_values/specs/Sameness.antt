-- Whether two types are the same. The test goes by cases on types without parts, so that examples compute, and by the trees of all others.
use Rattle.std.specs.Prelude.{ℕ, Bool, true, false, not, ◌&&◌, nat_eq, if◌then◌else◌}
use Rattle.zw_types.specs.TypeTrees as tree
use Rattle.zw_types.specs.TypeTrees.{TypeTree}
use Rattle.zw_types.specs.SameTypes.{same_type}

-- two trees are equal
unfoldable pub are_equal : TypeTree → TypeTree → Bool
are_equal a b = elim (same_type a b) [ yes _ ↦ true | no _ ↦ false ]

-- a number for each type without parts, 1 for integers, and 0 for other types
abbrev pub tag : TypeTree → ℕ
tag (tree.IntType signed bits size) = 1
tag tree.ComptimeIntType = 2
tag tree.BoolType = 3
tag tree.VoidType = 4
tag tree.NoReturnType = 5
tag tree.TypeType = 6
tag tree.NullType = 7
tag tree.UndefinedType = 8
tag tree.EnumLiteralType = 9
tag tree.AnyErrorType = 10
tag _ = 0

abbrev pub same_truth : Bool → Bool → Bool
same_truth a b = if a then b else not b

-- two integer types, or others
abbrev pub same_integers : TypeTree → TypeTree → Bool
same_integers (tree.IntType s n z) (tree.IntType s' n' z') = same_truth s s' && (nat_eq n n' && same_truth z z')
same_integers _ _ = false

-- whether two types with this one number are the same
abbrev pub alike : ℕ → TypeTree → TypeTree → Bool
alike k a b = elim (nat_eq k 0) [ true ↦ are_equal a b | false ↦ elim (nat_eq k 1) [ true ↦ same_integers a b | false ↦ true ] ]

-- Whether two types are the same: `same_types_are_equal` says that it holds exactly where they are equal.
unfoldable pub is_same : TypeTree → TypeTree → Bool
is_same a b = elim (nat_eq (tag a) (tag b)) [ true ↦ alike (tag a) a b | false ↦ false ]
