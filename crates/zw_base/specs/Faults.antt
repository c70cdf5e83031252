-- Counts of faults: each object of the outside has one, which rises exactly where a call of it fails.
use Rattle.std.specs.Prelude.{◌≡◌, ℕ, ◌+◌, ◌-◌, ◌^◌, ◌≤◌, min, Bool, true, false}

-- the count is greater than before, or stands at the last value of its type, where it stays
pub record Rose (before now : ℕ) : Type 0 where
  pub not_fallen : before ≤ now
  pub greater_or_last : min (before + 1) (2 ^ 64 - 1) ≤ now

-- the count rose where the call failed, and is as it was where the call did not
abbrev pub Counts : (before now : ℕ) → Bool → Type 0
Counts before now true = Rose before now
Counts before now false = now ≡ before
