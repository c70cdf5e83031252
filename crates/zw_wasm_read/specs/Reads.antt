-- Reading from the front of bytes: what is read, and what is left.
use Rattle.std.specs.Prelude.{◌≡◌, ℕ, List, ◌++◌, Result, Ok, Err}
use Rattle.std.specs.Borrow.{Bor}
use Rattle.zw_wasm_read.specs.declared.unread.Unread.{Unread}
use Rattle.zw_wasm_read.specs.declared.unread.Unread.TheVariants.{Unfit, Oom}

-- some front of the bytes is of the kind P, and this is behind it
pub record Leaves (P : List ℕ → Type 0) (bytes rest : List ℕ) : Type 0 where
  pub front : List ℕ
  pub spelled : P front
  pub whole : bytes ≡ front ++ rest

-- no front of the bytes spells a thing of the kind
abbrev pub IsUnfit : {X : Type 0} → (X → List ℕ → Type 0) → List ℕ → Type 0
IsUnfit {X} P bytes = (x : X) (rest : List ℕ) → Leaves (P x) bytes rest → ⊥

-- A thing was read with what is left behind it, or none stands there, or memory ran out.
abbrev pub Reads : {X : Type 0} → (X → List ℕ → Type 0) → List ℕ → Result (X × Bor (List ℕ)) Unread → Type 0
Reads P bytes (Ok read) = Leaves (P read.0) bytes read.1.now
Reads P bytes (Err Unfit) = IsUnfit P bytes
Reads P bytes (Err Oom) = Unit {0}

-- the same, where what is read is itself a part of the bytes
abbrev pub ReadsPart : (List ℕ → List ℕ → Type 0) → List ℕ → Result (Bor (List ℕ) × Bor (List ℕ)) Unread → Type 0
ReadsPart P bytes (Ok read) = Leaves (P read.0.now) bytes read.1.now
ReadsPart P bytes (Err Unfit) = IsUnfit P bytes
ReadsPart P bytes (Err Oom) = Unit {0}

-- the same of what has one spelling
abbrev pub Passes : (List ℕ → Type 0) → List ℕ → Result (Bor (List ℕ)) Unread → Type 0
Passes P bytes (Ok rest) = Leaves P bytes rest.now
Passes P bytes (Err Unfit) = (rest : List ℕ) → Leaves P bytes rest → ⊥
Passes P bytes (Err Oom) = Unit {0}
