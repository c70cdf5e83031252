-- The object store: what the variables, constants and unnamed values of a program are, and which places in them are live (this
-- project's own, after the Zig Language Reference 0.13.0, Pointers and Illegal Behavior). There are no addresses.
use Rattle.std.specs.Prelude.{ℕ, Bool, false, if◌then◌else◌, List, [], ◌∷◌, ◌++◌, slice_get, slice_set, Option, Some, None, option_and_then}
use Rattle.std.specs.Option.{option_map}
use Rattle.zw_types.specs.TypeTrees as tree
use Rattle.zw_types.specs.TypeTrees.{TypeTree, ValueTree}
use Rattle.zw_values.specs.Paths.{part_of, written_at}

-- whether something happens while the program is compiled or while it runs
pub data Stage : Type 0 where
  at_compile_time at_run_time : Stage

-- An object: a constant is every object that isn't writable, which no `var` made.
pub record Object : Type 0 where
  pub ty : TypeTree
  pub value : ValueTree
  pub stage : Stage
  pub writable : Bool
  pub live : Bool

-- objects by their numbers, from 0; no number is used again
abbrev pub Store : Type 0
Store = List Object

-- What a place holds: a value; a part of a value that is undefined as a whole, with the steps that go on inside it; or nothing, since
-- it is dead.
pub data Place : Type 0 where
  Holds : ValueTree → Place
  IsUndefined : List ℕ → Place
  IsDead : Place

-- the place that a path leads to in a value
abbrev pub place_in : ValueTree → List ℕ → Place
place_in tree.UndefinedValue path = IsUndefined path
place_in v [] = Holds v
place_in v (step ∷ path) = elim (part_of v step) [ None ↦ IsDead | Some part ↦ place_in part path ]

-- The place of an object and a path: it is dead where the object isn't live, or where the path passes an optional payload, an error
-- union payload or a union field that is no longer there.
abbrev pub place_of : Store → ℕ → List ℕ → Place
place_of store obj path =
    elim (slice_get store obj) [ None ↦ IsDead | Some object ↦ if object.live then place_in object.value path else IsDead ]

-- ---- what changes a store

-- a new object gets the next number, which is the length of the store
abbrev pub made : Store → Object → Store
made store object = store ++ object ∷ []

abbrev pub changed : Store → ℕ → (Object → Object) → Store
changed store obj f = elim (slice_get store obj) [ None ↦ store | Some object ↦ slice_set store obj (f object) ]

-- the object isn't live from now on
abbrev pub killed : Store → ℕ → Store
killed store obj = changed store obj (λ object. record object { live = false })

-- the object is a constant from now on
abbrev pub frozen : Store → ℕ → Store
frozen store obj = changed store obj (λ object. record object { writable = false })

-- the store with a value in a place, where the place holds a value or is undefined as a whole
abbrev pub saved : Store → ℕ → List ℕ → ValueTree → Option Store
saved store obj path new =
    option_and_then (λ object. option_map (λ value. slice_set store obj (record object { value = value })) (written_at object.value path new))
    (slice_get store obj)
