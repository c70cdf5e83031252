-- Inputs: what a command read of its input.
use Rattle.std.specs.Prelude.{◌≡◌, ℕ, List, [], Option}

-- the bytes that were read, and what is left, where that is told
pub record Reading : Type 0 where
  pub bytes : List ℕ
  pub left : Option (List ℕ)

-- nothing was read
abbrev pub IsUnread : Reading → Type 0
IsUnread reading = reading.bytes ≡ []
