-- Places in an object store, worked out by hand (this project's own, after the Zig Language Reference 0.13.0, Pointers).
use Rattle.std.specs.Prelude.{◌≡◌, ℕ, pos, true, false, List, [], ◌∷◌, Some, None}
use Rattle.zw_types.specs.TypeTrees as tree
use Rattle.zw_types.specs.TypeTrees.{TypeTree, ValueTree, values_from}
use Rattle.zw_values.specs.Wild.{UsesUndefined, UsesDead, NamesNoElement, PassesEnd, ComparesWildly}
use Rattle.zw_values.specs.ObjectStore.{Object, Store, at_run_time, Place, Holds, IsUndefined, IsDead, place_of, made, killed, frozen, saved}

abbrev pub n : ℕ → ValueTree
n k = tree.NumberValue (pos k)

abbrev pub some : ValueTree → ValueTree
some v = tree.OptionalValue (tree.TheValue v)

abbrev pub null : ValueTree
null = tree.OptionalValue tree.NoValue

-- a `var` of this type with this value
abbrev pub variable : TypeTree → ValueTree → Object
variable ty value = record { ty = ty; value = value; stage = at_run_time; writable = true; live = true }

abbrev pub u8 : TypeTree
u8 = tree.IntType false 8 false

-- `var a: [2]u8 = .{ 7, 8 }; var b: ?[2]u8 = .{ 1, 2 }; var c: [2][2]u8 = undefined;`
abbrev pub pair : ℕ → ℕ → ValueTree
pair j k = tree.PartsValue (values_from (n j ∷ n k ∷ []))

abbrev pub pairs : TypeTree
pairs = tree.ArrayType 2 u8 tree.NoValue

abbrev pub three : Store
three = made (made (made [] (variable pairs (pair 7 8))) (variable (tree.OptionalType pairs) (some (pair 1 2)))) (variable (tree.ArrayType 2 pairs tree.NoValue) tree.UndefinedValue)

-- what a place holds after a value was saved
abbrev pub after : ℕ → List ℕ → ValueTree → ℕ → List ℕ → Place
after obj path new other place = elim (saved three obj path new) [ None ↦ IsDead | Some store ↦ place_of store other place ]

pub record WorkedStores : Type 0 where
  -- `a`, `a[1]`, and `a[2]`, which isn't there
  pub whole : place_of three 0 [] ≡ Holds (pair 7 8)
  pub element : place_of three 0 (1 ∷ []) ≡ Holds (n 8)
  pub past : place_of three 0 (2 ∷ []) ≡ IsDead
  -- `b.?[0]`; it is dead once `b` is `null`, and `a` stays
  pub payload : place_of three 1 (0 ∷ 0 ∷ []) ≡ Holds (n 1)
  pub no_payload : after 1 [] null 1 (0 ∷ 0 ∷ []) ≡ IsDead
  pub other_stays : after 1 [] null 0 (1 ∷ []) ≡ Holds (n 8)
  -- `b.?[1] = 9`
  pub written : after 1 (0 ∷ 1 ∷ []) (n 9) 1 (0 ∷ []) ≡ Holds (pair 1 9)
  -- `c[1][0]`, a part of what is undefined as a whole
  pub undefined : place_of three 2 (1 ∷ 0 ∷ []) ≡ IsUndefined (1 ∷ 0 ∷ [])
  -- an object that isn't live any more, and one that never was
  pub ended : place_of (killed three 0) 0 (1 ∷ []) ≡ IsDead
  pub ended_alone : place_of (killed three 0) 1 (0 ∷ 1 ∷ []) ≡ Holds (n 2)
  pub none_there : place_of three 3 [] ≡ IsDead

pub record WorkedWild : Type 0 where
  -- an operand that is undefined, and operands that aren't
  pub undefined : UsesUndefined (n 1 ∷ tree.UndefinedValue ∷ [])
  pub defined : ¬ UsesUndefined (n 1 ∷ pair 2 3 ∷ [])
  -- the places `a[2]` and `a[1]`
  pub dead : UsesDead three 0 (2 ∷ [])
  pub live : ¬ UsesDead three 0 (1 ∷ [])
  -- of an array of three elements the fourth is none; a bound may lie behind the last one, and no further
  pub no_element : NamesNoElement 3 3
  pub last_element : ¬ NamesNoElement 3 2
  pub past_end : PassesEnd 3 4
  pub at_end : ¬ PassesEnd 3 3
  -- pointers to a constant, to a place of size 0, and to a `var` of two bytes
  pub constant : ComparesWildly (frozen three 0) 0 2
  pub without_size : ComparesWildly three 0 0
  pub of_variable : ¬ ComparesWildly three 0 2
