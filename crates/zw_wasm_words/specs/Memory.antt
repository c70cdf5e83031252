-- Memory: what accesses to a memory come to (WebAssembly Core Specification 1.0, 4.4.4).
use Rattle.std.specs.Prelude.{◌≡◌, ℕ, ◌+◌, ◌≤◌, ◌<◌, Bool, true, false, List, length, map, Option, Some}
use Rattle.zw_wasm.specs.Reduction.{overwritten}

-- these bytes were written at a place of the memory, or lie outside it in part, and nothing was written
abbrev pub Stores : List ℕ → ℕ → List ℕ → Bool → List ℕ → Type 0
Stores old place bytes true new = (place + length bytes ≤ length old) × (new ≡ overwritten old place bytes)
Stores old place bytes false new = (length old < place + length bytes) × (new ≡ old)

-- these functions were set at a place of the table, or lie outside it in part, and nothing was set
abbrev pub Places : List (Option ℕ) → ℕ → List ℕ → Bool → List (Option ℕ) → Type 0
Places old place funcs true new = (place + length funcs ≤ length old) × (new ≡ overwritten old place (map (λ f. Some f) funcs))
Places old place funcs false new = (length old < place + length funcs) × (new ≡ old)
