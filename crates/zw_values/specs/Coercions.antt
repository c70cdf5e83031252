-- Coercions and peer types (Zig Language Reference 0.13.0, Type Coercion and Peer Type Resolution), with the numbers of the errors that
-- refuse them (this project's own). docs/LANGUAGE.md has the rows.
use Rattle.std.specs.Prelude.{ℕ, ◌+◌, Bool, true, false, ◌&&◌, ◌||◌, int_le, if◌then◌else◌, List, [], ◌∷◌, Option, Some, None, option_and_then, Result, Ok, Err}
use Rattle.zw_num.specs.declared.int_ty.IntTy.{IntTy}
use Rattle.zw_num.specs.declared.int_ty.IntTy.TheVariants.{Sized, Comptime}
use Rattle.zw_num.specs.Arithmetic.{least, greatest, is_in}
use Rattle.zw_types.specs.TypeTrees as tree
use Rattle.zw_types.specs.TypeTrees.{TypeTree, ValueTree}
use Rattle.zw_values.specs.Sameness.{is_same}

-- the integers of a type, where it is an integer type
abbrev pub integer_of : TypeTree → Option IntTy
integer_of (tree.IntType signed bits size) = Some (Sized signed bits)
integer_of tree.ComptimeIntType = Some Comptime
integer_of _ = None

-- the first type has all values of the second
abbrev pub has_all : IntTy → IntTy → Bool
has_all a b = int_le (least a) (least b) && int_le (greatest b) (greatest a)

-- ---- the rows of coercions

-- What a row says of a type, of the value that is known, and of the type that it is to become: the row applies, it is for such types
-- and refuses these with an error, or it is for other types.
pub data Row : Type 0 where
  Applies : Row
  Refuses : ℕ → Row
  IsForOthers : Row

-- types that have no value of their own: `undefined` and `noreturn`
abbrev pub has_no_value : TypeTree → Bool
has_no_value tree.UndefinedType = true
has_no_value tree.NoReturnType = true
has_no_value _ = false

-- the first row: a type and itself; `undefined` and `noreturn` and any type
abbrev pub same_row : TypeTree → Option ValueTree → TypeTree → Row
same_row from known to = if is_same from to || has_no_value from then Applies else IsForOthers

-- what the row of integers says of a value that is known as a number, and of all else
abbrev pub known_row : Option ValueTree → IntTy → Row
known_row (Some (tree.NumberValue z)) to = if is_in to z then Applies else Refuses 15
known_row _ to = Refuses 14

-- the row of integers, the second: an integer type, and an integer type that has all its values or that has the number that is known
abbrev pub integers_row : Option IntTy → Option ValueTree → Option IntTy → Row
integers_row (Some from) known (Some to) = if has_all to from then Applies else known_row known to
integers_row _ known _ = IsForOthers

abbrev pub integer_row : TypeTree → Option ValueTree → TypeTree → Row
integer_row from known to = integers_row (integer_of from) known (integer_of to)

-- the rows, from the first on
abbrev pub rows : List (TypeTree → Option ValueTree → TypeTree → Row)
rows = same_row ∷ integer_row ∷ []

-- The number of the first row that isn't for other types, where it applies, and else its error; 14 where each row is for other types.
abbrev pub by_rows : List (TypeTree → Option ValueTree → TypeTree → Row) → ℕ → TypeTree → Option ValueTree → TypeTree → Result ℕ ℕ
by_rows [] number from known to = Err 14
by_rows (row ∷ more) number from known to =
    elim (row from known to) [ Applies ↦ Ok number | Refuses error ↦ Err error | IsForOthers ↦ by_rows more (number + 1) from known to ]

-- The row, from 1, by which a type with the value that is known becomes another type, or the error that is due.
abbrev pub coercion : TypeTree → Option ValueTree → TypeTree → Result ℕ ℕ
coercion from known to = by_rows rows 1 from known to

-- ---- peer types

abbrev pub is_no_return : TypeTree → Bool
is_no_return tree.NoReturnType = true
is_no_return _ = false

abbrev pub is_undefined_type : TypeTree → Bool
is_undefined_type tree.UndefinedType = true
is_undefined_type _ = false

-- of two integer types: `comptime_int` gives way, and else the one that has all values of the other, the first where they have the same
abbrev pub integer_peer : TypeTree → Option IntTy → TypeTree → Option IntTy → Option TypeTree
integer_peer a (Some Comptime) b (Some y) = Some b
integer_peer a (Some (Sized signed bits)) b (Some Comptime) = Some a
integer_peer a (Some (Sized signed bits)) b (Some (Sized signed' bits')) =
    if has_all (Sized signed bits) (Sized signed' bits') then Some a else (if has_all (Sized signed' bits') (Sized signed bits) then Some b else None)
integer_peer a _ b _ = None

-- The peer type of two: `noreturn` gives way, then `undefined`, equal types stay, and then what is due for integer types.
abbrev pub peer_of : TypeTree → TypeTree → Option TypeTree
peer_of a b =
    if is_no_return a then Some b else (
    if is_no_return b then Some a else (
    if is_undefined_type a then Some b else (
    if is_undefined_type b then Some a else (
    if is_same a b then Some a else integer_peer a (integer_of a) b (integer_of b)))))

-- the peer type of several, from the left
abbrev pub peer_of_all : TypeTree → List TypeTree → Option TypeTree
peer_of_all a [] = Some a
peer_of_all a (b ∷ more) = option_and_then (λ t. peer_of_all t more) (peer_of a b)
