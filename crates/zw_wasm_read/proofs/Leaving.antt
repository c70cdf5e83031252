-- What is left behind one kind, and then another.
use Rattle.std.proofs.Common.{◌≡◌, ℕ, List, [], ◌∷◌, ◌++◌, take, drop, refl, sym, ap, ◌∙◌, append_assoc}
use Rattle.std.proofs.lemmas.List.{take-append-drop}
use Rattle.zw_wasm.specs.ModuleBytes.{◌⌢◌, Exactly, Byte}
use Rattle.zw_wasm_read.specs.Reads.{Leaves}

-- the first kind, and then the second
pub then : {P Q : List ℕ → Type 0} {bytes mid rest : List ℕ} → Leaves P bytes mid → Leaves Q mid rest → Leaves (P ⌢ Q) bytes rest
then {P} {Q} {bytes} {mid} {rest} p q = record {
  front = p.front ++ q.front;
  spelled = record { front = p.front; back = q.front; first = p.spelled; second = q.spelled; whole = refl };
  whole = p.whole ∙ ap (λ (l : List ℕ). p.front ++ l) q.whole ∙ sym (append_assoc p.front q.front rest);
}

-- where the first kind ends
pub record Turn (P Q : List ℕ → Type 0) (bytes rest : List ℕ) : Type 0 where
  pub mid : List ℕ
  pub first : Leaves P bytes mid
  pub second : Leaves Q mid rest

pub turn : {P Q : List ℕ → Type 0} {bytes rest : List ℕ} → Leaves (P ⌢ Q) bytes rest → Turn P Q bytes rest
turn {P} {Q} {bytes} {rest} l = record {
  mid = l.spelled.back ++ rest;
  first = record {
    front = l.spelled.front;
    spelled = l.spelled.first;
    whole = l.whole ∙ ap (λ (f : List ℕ). f ++ rest) l.spelled.whole ∙ append_assoc l.spelled.front l.spelled.back rest;
  };
  second = record { front = l.spelled.back; spelled = l.spelled.second; whole = refl };
}

-- another kind of the same bytes
pub as_kind : {P Q : List ℕ → Type 0} {bytes rest : List ℕ} → ((front : List ℕ) → P front → Q front) → Leaves P bytes rest → Leaves Q bytes rest
as_kind f l = record { front = l.front; spelled = f l.front l.spelled; whole = l.whole }

-- nothing
pub nothing : {bytes rest : List ℕ} → Leaves (Exactly []) bytes rest → bytes ≡ rest
nothing {bytes} {rest} l = l.whole ∙ ap (λ (f : List ℕ). f ++ rest) l.spelled

pub no_byte : (bytes : List ℕ) → Leaves (Exactly []) bytes bytes
no_byte bytes = record { front = []; spelled = refl; whole = refl }

-- a byte
pub byte : (b : ℕ) (bytes rest : List ℕ) → bytes ≡ b ∷ rest → Leaves (Byte b) bytes rest
byte b bytes rest e = record { front = b ∷ []; spelled = refl; whole = e }

pub byte-whole : {b : ℕ} {bytes rest : List ℕ} → Leaves (Byte b) bytes rest → bytes ≡ b ∷ rest
byte-whole {b} {bytes} {rest} l = l.whole ∙ ap (λ (f : List ℕ). f ++ rest) l.spelled

-- so many bytes at the front
pub front_of : (P : List ℕ → Type 0) (bytes : List ℕ) (len : ℕ) → P (take len bytes) → Leaves P bytes (drop len bytes)
front_of P bytes len p = record { front = take len bytes; spelled = p; whole = sym (take-append-drop len bytes) }
