-- Lists that begin with others, as records of sessions do.
use Rattle.std.specs.Prelude.{◌≡◌, List, ◌++◌}

-- the whole list begins with the front
pub record IsPrefix {X : Type 0} (front whole : List X) : Type 0 where
  pub rest : List X
  pub is : whole ≡ front ++ rest
