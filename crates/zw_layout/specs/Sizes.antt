-- The layout of types (this project's own: docs/LANGUAGE.md has the table). Types with parts join as further cases of `HasLayout`.
use Rattle.std.specs.Prelude.{◌≡◌, ℕ, ◌^◌, Bool, true, false, nat_eq, nat_le, if◌then◌else◌, List, Option, Some, None, min}
use Rattle.std.specs.Option.{option_map}
use Rattle.zw_types.specs.TypeTrees as tree
use Rattle.zw_types.specs.TypeTrees.{TypeTree}
use Rattle.zw_types.specs.Tables.{TypeTable}
use Rattle.zw_layout.specs.declared.layout.Layout.{Layout}

-- a type that no other type is part of
abbrev pub is_simple : TypeTree → Bool
is_simple (tree.IntType signed bits size) = true
is_simple tree.ComptimeIntType = true
is_simple tree.BoolType = true
is_simple tree.VoidType = true
is_simple tree.NoReturnType = true
is_simple tree.TypeType = true
is_simple tree.NullType = true
is_simple tree.UndefinedType = true
is_simple tree.EnumLiteralType = true
is_simple tree.AnyErrorType = true
is_simple (tree.ErrorSetType names inferred) = true
is_simple _ = false

-- the fewest bytes of 1, 2, 4 and 8 that hold so many bits, of at most 64
abbrev pub bytes_for : ℕ → ℕ
bytes_for bits = if nat_le bits 8 then 1 else (if nat_le bits 16 then 2 else (if nat_le bits 32 then 4 else 8))

-- An integer takes the fewest bytes that hold its bits, and is aligned to as many. Without bits it takes none.
abbrev pub integer_layout : ℕ → Layout
integer_layout bits = if nat_eq bits 0 then record { size = 0; align = 1 } else record { size = bytes_for bits; align = bytes_for bits }

-- a type has this layout, or none where it has no run-time form
pub data HasLayout (table : TypeTable) : TypeTree → Option Layout → Type 0 where
  integer : (signed : Bool) (bits : ℕ) (size : Bool) → HasLayout table (tree.IntType signed bits size) (Some (integer_layout bits))
  truth : HasLayout table tree.BoolType (Some (record { size = 1; align = 1 }))
  void : HasLayout table tree.VoidType (Some (record { size = 0; align = 1 }))
  error_set : (names : List ℕ) (inferred : Option ℕ) → HasLayout table (tree.ErrorSetType names inferred) (Some (record { size = 2; align = 2 }))
  any_error : HasLayout table tree.AnyErrorType (Some (record { size = 2; align = 2 }))
  comptime_int : HasLayout table tree.ComptimeIntType None
  no_return : HasLayout table tree.NoReturnType None
  type_type : HasLayout table tree.TypeType None
  null_type : HasLayout table tree.NullType None
  undefined_type : HasLayout table tree.UndefinedType None
  enum_literal : HasLayout table tree.EnumLiteralType None

-- the size of a type with a layout, up to 2^127
abbrev pub IsSize : TypeTable → TypeTree → Option ℕ → Type 0
IsSize table ty size = (layout : Option Layout) × HasLayout table ty layout × (size ≡ option_map (λ (l : Layout). min l.size (2 ^ 127)) layout)

-- its alignment
abbrev pub IsAlign : TypeTable → TypeTree → Option ℕ → Type 0
IsAlign table ty align = (layout : Option Layout) × HasLayout table ty layout × (align ≡ option_map (λ (l : Layout). l.align) layout)
