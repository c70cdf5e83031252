-- What stands at the front of bytes is one thing of its kind, and has one end.
use Rattle.std.specs.Prelude.{◌≡◌, ℕ, List}
use Rattle.zw_wasm_read.specs.Reads.{Leaves}

pub record Sure {X : Type 0} (P : X → List ℕ → Type 0) : Type 0 where
  pub one : (x y : X) (bytes r s : List ℕ) → Leaves (P x) bytes r → Leaves (P y) bytes s → (x ≡ y) × (r ≡ s)
