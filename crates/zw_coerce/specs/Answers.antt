-- What the calls answer, in the terms of the definitions.
use Rattle.std.specs.Prelude.{◌≡◌, ℕ, List, [], ◌∷◌, map, Option, None, Result, Ok, Err}
use Rattle.zw_types.specs.declared.value.TypeId.{TypeId}
use Rattle.zw_types.specs.TypeTrees.{TypeTree}
use Rattle.zw_types.specs.Readings.{type_at}
use Rattle.zw_values.specs.Coercions.{Row, Applies, Refuses, IsForOthers, peer_of_all}
use Rattle.zw_coerce.specs.declared.answers.Step.{Step, out-Step}
use Rattle.zw_coerce.specs.declared.answers.Code.{Code}
use Rattle.zw_coerce.specs.declared.answers.Code.TheVariants as code

-- a step by this row without one inside, or the error that is due; these rows take no memory
abbrev pub IsStep : Result Step Code → Result ℕ ℕ → Type 0
IsStep (Ok step) due = ((out-Step step).inner ≡ None) × (due ≡ Ok (out-Step step).row)
IsStep (Err (code.Error number)) due = due ≡ Err number
IsStep (Err code.Oom) due = ⊥

-- what the row of integers answers, which is the second
abbrev pub row_answer : Row → Result ℕ ℕ
row_answer Applies = Ok 2
row_answer (Refuses error) = Err error
row_answer IsForOthers = Err 14

-- the peer type of the types that these numbers name
abbrev pub peer_in : List TypeTree → List TypeId → Option TypeTree
peer_in trees [] = None
peer_in trees (id ∷ more) = peer_of_all (type_at trees id) (map (type_at trees) more)
