-- Fronts of bytes.
use Rattle.std.specs.Prelude.{◌≡◌, ℕ, List, take}

-- these bytes are a front of those
abbrev pub IsFront : List ℕ → List ℕ → Type 0
IsFront front bytes = (n : ℕ) × (front ≡ take n bytes)
