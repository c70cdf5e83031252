-- Bytes after their number.
use Rattle.std.proofs.Common.{◌≡◌, ℕ, ◌-◌, ◌<◌, ◌≤◌, ℤ, List, length, take, drop, refl, sym, ap, subst, arith, length-append, w32, w64, to_z, of_z, IsUtf8, IsTrue, ◌↔◌, false, true}
use Rattle.std.proofs.lemmas.List.{length-take-le, take_rest}
use Rattle.std.proofs.lemmas.Int.{to_z-of_z}
use Rattle.zw_leb.specs.Reading.{BeginsSigned}
use Rattle.zw_leb.proofs.ShortestNumbers.{within_32_bits, within_64_bits}
use Rattle.zw_wasm.specs.ModuleBytes.{Exactly, IsU32, IsS32, IsS64, IsByteVector, IsName}
use Rattle.zw_wasm_read.specs.Reads.{Leaves}
use Rattle.zw_wasm_read.proofs.Leaving.{then, front_of, as_kind}
use Rattle.zw_wasm_read.proofs.Uniqueness.{sure-u32, behind, sure-byte_vector, name-bytes}

pub signed_32 : (bytes : List ℕ) (z : ℤ) (len : ℕ) → BeginsSigned 32 bytes z len → Leaves (IsS32 (to_z w32 (of_z w32 z))) bytes (take (length bytes - len) (drop len bytes))
signed_32 bytes z len p =
    rw (to_z-of_z w32 z (within_32_bits (take len bytes) z p.spelled), take_rest) (front_of (IsS32 z) bytes len p.spelled)

pub signed_64 : (bytes : List ℕ) (z : ℤ) (len : ℕ) → BeginsSigned 64 bytes z len → Leaves (IsS64 (to_z w64 (of_z w64 z))) bytes (take (length bytes - len) (drop len bytes))
signed_64 bytes z len p =
    rw (to_z-of_z w64 z (within_64_bits (take len bytes) z p.spelled), take_rest) (front_of (IsS64 z) bytes len p.spelled)

pub sized : (bytes mid : List ℕ) (len : ℕ) → Leaves (IsU32 len) bytes mid → len ≤ length mid → Leaves (IsByteVector (take len mid)) bytes (take (length mid - len) (drop len mid))
sized bytes mid len l fits =
    let content : List ℕ = take len mid in
    rw take_rest (then (subst (λ (n : ℕ). Leaves (IsU32 n) bytes mid) (sym (length-take-le len mid fits)) l) (front_of (Exactly (take len mid)) mid len refl))

pub too_short : (bytes mid : List ℕ) (len : ℕ) → Leaves (IsU32 len) bytes mid → length mid < len → (x rest : List ℕ) → Leaves (IsByteVector x) bytes rest → ⊥
too_short bytes mid len l short x rest m =
    let b = behind sure-u32 len l m in
    omega (arith, b.0, ap length b.1.whole, ap length b.1.spelled, length-append b.1.front rest)

pub no_text : (bytes content mid : List ℕ) → Leaves (IsByteVector content) bytes mid → ¬ (IsUtf8 content) → (x rest : List ℕ) → Leaves (IsName x) bytes rest → ⊥
no_text bytes content mid l none x rest m =
    let same = sure-byte_vector.one content x bytes mid rest l (name-bytes m) in
    none (subst (λ (name : List ℕ). IsUtf8 name) (sym same.0) m.spelled.text)

pub as_name : (bytes content mid : List ℕ) → Leaves (IsByteVector content) bytes mid → IsUtf8 content → Leaves (IsName content) bytes mid
as_name bytes content mid l text = as_kind (λ front p. record { text = text; vector = p }) l

pub no_is : (name : List ℕ) → (IsTrue false ↔ IsUtf8 name) → ¬ (IsUtf8 name)
no_is name h text = let wrong : false ≡ true = h.1 text in absurd cc
