-- What a function that the host sees may be: its types, and the name of one that it calls (this project's own).
use Rattle.std.specs.Prelude.{ℕ, Bool, true, false, not, ◌&&◌, ◌||◌, nat_eq, nat_le, nat_lt, List, [], ◌∷◌, codes}
use Rattle.std.specs.Str.{bytes_eq, is_utf8}
use Rattle.zw_types.specs.TypeTrees as tree
use Rattle.zw_types.specs.TypeTrees.{TypeTree}

abbrev pub is_void : TypeTree → Bool
is_void tree.VoidType = true
is_void _ = false

-- the types that an export takes and gives, and those that an extern function takes
abbrev pub is_exported_type : TypeTree → Bool
is_exported_type (tree.IntType signed bits size) = nat_eq bits 8 || nat_eq bits 16 || nat_eq bits 32 || nat_eq bits 64
is_exported_type tree.BoolType = true
is_exported_type _ = false

abbrev pub is_shown_type : TypeTree → Bool
is_shown_type (tree.IntType signed bits size) = nat_le 1 bits
is_shown_type tree.BoolType = true
is_shown_type _ = false

abbrev pub is_result_type : TypeTree → Bool
is_result_type ty = is_void ty || is_exported_type ty

abbrev pub all_types : (TypeTree → Bool) → List TypeTree → Bool
all_types is [] = true
all_types is (ty ∷ types) = is ty && all_types is types

-- what a module exports beside its functions
abbrev pub reserved_names : List (List ℕ)
reserved_names = codes "memory" ∷ codes "panic_cause" ∷ codes "panic_ptr" ∷ codes "panic_len" ∷ []

abbrev pub is_one_of : List (List ℕ) → List ℕ → Bool
is_one_of [] name = false
is_one_of (text ∷ texts) name = bytes_eq text name || is_one_of texts name

-- all bytes are ASCII
abbrev pub are_ascii : List ℕ → Bool
are_ascii [] = true
are_ascii (b ∷ bytes) = nat_lt b 128 && are_ascii bytes

-- The bytes are UTF-8. The test goes by ASCII first, so that examples compute.
abbrev pub is_utf8_name : List ℕ → Bool
is_utf8_name name = elim (are_ascii name) [ true ↦ true | false ↦ is_utf8 name ]

-- a name that an export may have
abbrev pub is_export_name : List ℕ → Bool
is_export_name name = is_utf8_name name && not (is_one_of reserved_names name)
