-- Sets of names: the names in the order in which they came, and their numbers.
use Rattle.std.specs.Prelude.{ℕ, suc, List, [], ◌∷◌, map, Vec, if◌then◌else◌}
use Rattle.std.specs.Str.{bytes_eq}
use Rattle.std.specs.declared.alloc.Global.{Global}
use Rattle.indexmap.specs.IndexSet.{IndexSet}

-- the names of a set, in their order
abbrev pub names_in : {S : Type 0} → IndexSet (Vec ℕ Global) S → List (List ℕ)
names_in set = map (λ name. name.items) set.keys

-- how many of these names stand before this one, which is their count where it isn't among them
abbrev pub number_in : List (List ℕ) → List ℕ → ℕ
number_in [] name = 0
number_in (other ∷ names) name = if bytes_eq other name then 0 else suc (number_in names name)
