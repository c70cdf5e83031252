-- Unchecked illegal behaviour (Zig Language Reference 0.13.0, Illegal Behavior): what a program may not do, and what isn't told when
-- it does. Nothing else is unchecked.
use Rattle.std.specs.Prelude.{◌≡◌, ◌⊎◌, ℕ, ◌<◌, ◌≤◌, Bool, true, false, List, IsTrue, slice_get, Some}
use Rattle.std.specs.List.{list_any}
use Rattle.zw_types.specs.TypeTrees as tree
use Rattle.zw_types.specs.TypeTrees.{ValueTree}
use Rattle.zw_values.specs.ObjectStore.{Object, Store, IsDead, place_of}

-- a value that is undefined as a whole
abbrev pub is_undefined : ValueTree → Bool
is_undefined tree.UndefinedValue = true
is_undefined _ = false

-- reading undefined to compute, to decide or to give to the host: one of these operands is undefined
abbrev pub UsesUndefined : List ValueTree → Type 0
UsesUndefined operands = IsTrue (list_any is_undefined operands)

-- using or comparing a dead place
abbrev pub UsesDead : Store → ℕ → List ℕ → Type 0
UsesDead store obj path = place_of store obj path ≡ IsDead

-- Using a many-pointer outside its array: naming an element that isn't there. A sentinel's place counts as an element's.
abbrev pub NamesNoElement : ℕ → ℕ → Type 0
NamesNoElement elements position = elements ≤ position

-- slicing, or showing the host, with a bound past the place after the last element
abbrev pub PassesEnd : ℕ → ℕ → Type 0
PassesEnd elements bound = elements < bound

-- comparing pointers of which this one points to a constant, or to a place of size 0
abbrev pub ComparesWildly : Store → ℕ → ℕ → Type 0
ComparesWildly store obj size = ((object : Object) × (slice_get store obj ≡ Some object) × (object.writable ≡ false)) ⊎ (size ≡ 0)
