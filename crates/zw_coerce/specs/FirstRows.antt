-- By which row a type becomes another.
use Rattle.std.specs.Prelude.{◌≡◌, ℕ, ◌+◌, ◌<◌, List, slice_get, Option, Some}
use Rattle.zw_types.specs.TypeTrees.{TypeTree, ValueTree}
use Rattle.zw_values.specs.Coercions.{Row, Applies, IsForOthers, rows}

abbrev pub Rule : Type 0
Rule = TypeTree → Option ValueTree → TypeTree → Row

-- In a list of rows of which the first has this number, the row with the second number applies, and all before it are for other types.
pub record IsFirstIn (all : List Rule) (first : ℕ) (from : TypeTree) (known : Option ValueTree) (to : TypeTree) (number : ℕ) : Type 0 where
  pub place : ℕ
  pub row : Rule
  pub counted : number ≡ first + place
  pub stands : slice_get all place ≡ Some row
  pub applies : row from known to ≡ Applies
  pub others_before : (k : ℕ) (other : Rule) → k < place → slice_get all k ≡ Some other → other from known to ≡ IsForOthers

-- among the rows of coercions, from 1
abbrev pub IsFirstRow : TypeTree → Option ValueTree → TypeTree → ℕ → Type 0
IsFirstRow from known to number = IsFirstIn rows 1 from known to number
