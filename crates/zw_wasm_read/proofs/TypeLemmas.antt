-- The parts of types.
use Rattle.std.proofs.Common.{◌≡◌, ◌⊎◌, ℕ, ◌<◌, ◌≤◌, Bool, true, false, List, Option, Some, None, refl, sym, subst, inl, inr, arith}
use Rattle.zw_wasm.specs.declared.module.ValType.{ValType}
use Rattle.zw_wasm.specs.declared.module.ValType.TheVariants.{I32, I64}
use Rattle.zw_wasm.specs.declared.module.FuncType.{FuncType}
use Rattle.zw_wasm.specs.declared.module.Limits.{Limits}
use Rattle.zw_wasm.specs.ModuleBytes.{◌⌢◌, Byte, IsU32, IsVector, IsValueType, IsResultType, IsFunctionType, AreBounds, AreLimits, IsBlockType, IsMutability}
use Rattle.zw_wasm_read.specs.Reads.{Leaves, IsUnfit}
use Rattle.zw_wasm_read.proofs.Leaving.{turn, then, no_byte}
use Rattle.zw_wasm_read.proofs.Uniqueness.{sure-byte, sure-u32, behind, behind_byte}

-- some byte
pub type-first : (t : ValType) (bytes rest : List ℕ) → Leaves (IsValueType t) bytes rest → (b : ℕ) × Leaves (Byte b) bytes rest
type-first I32 bytes rest l = (0x7F, l)
type-first I64 bytes rest l = (0x7E, l)

pub block-first : (o : Option ValType) (bytes rest : List ℕ) → Leaves (IsBlockType o) bytes rest → (b : ℕ) × Leaves (Byte b) bytes rest
block-first None bytes rest l = (0x40, l)
block-first (Some t) bytes rest l = type-first t bytes rest l

pub mutability-first : (m : Bool) (bytes rest : List ℕ) → Leaves (IsMutability m) bytes rest → (b : ℕ) × Leaves (Byte b) bytes rest
mutability-first false bytes rest l = (0, l)
mutability-first true bytes rest l = (1, l)

-- ---- results

pub result-count : (o : Option ValType) (bytes rest : List ℕ) → Leaves (IsResultType o) bytes rest → (n : ℕ) × (mid : List ℕ) × (n ≤ 1) × Leaves (IsU32 n) bytes mid
result-count None bytes rest l = (0, (turn l).mid, omega arith, (turn l).first)
result-count (Some t) bytes rest l = (1, (turn l).mid, omega arith, (turn l).first)

pub result-of_many : (n : ℕ) (bytes mid : List ℕ) → Leaves (IsU32 n) bytes mid → 1 < n → IsUnfit IsResultType bytes
result-of_many n bytes mid l many o rest m =
    let count = result-count o bytes rest m in
    let same = sure-u32.one n count.0 bytes mid count.1 l count.3 in
    omega (arith, same.0, count.2)

result-of_one_type : (bytes mid : List ℕ) → Leaves (IsU32 1) bytes mid → IsUnfit IsValueType mid → IsUnfit IsResultType bytes
result-of_one_type bytes mid l unfit None rest m =
    let same = sure-u32.one 1 0 bytes mid (turn m).mid l (turn m).first in
    omega (arith, same.0)
result-of_one_type bytes mid l unfit (Some t) rest m =
    let b = behind sure-u32 1 l m in
    unfit t _ (turn b.1).first

one_is : (n : ℕ) (bytes mid : List ℕ) → 0 < n → n ≤ 1 → Leaves (IsU32 n) bytes mid → Leaves (IsU32 1) bytes mid
one_is n bytes mid some few l = let e : n ≡ 1 = omega arith in subst (λ (k : ℕ). Leaves (IsU32 k) bytes mid) e l

pub result-of_one : (n : ℕ) (bytes mid : List ℕ) → 0 < n → n ≤ 1 → Leaves (IsU32 n) bytes mid → IsUnfit IsValueType mid → IsUnfit IsResultType bytes
result-of_one n bytes mid some few l unfit = result-of_one_type bytes mid (one_is n bytes mid some few l) unfit

pub no_result : (n : ℕ) (bytes mid : List ℕ) → n ≡ 0 → Leaves (IsU32 n) bytes mid → Leaves (IsResultType None) bytes mid
no_result n bytes mid e l = then (subst (λ (k : ℕ). Leaves (IsU32 k) bytes mid) e l) (no_byte mid)

pub one_result : (n : ℕ) (t : ValType) (bytes mid rest : List ℕ) → 0 < n → n ≤ 1 → Leaves (IsU32 n) bytes mid → Leaves (IsValueType t) mid rest → Leaves (IsResultType (Some t)) bytes rest
one_result n t bytes mid rest some few l m = then (one_is n bytes mid some few l) (then m (no_byte rest))

-- ---- functions

pub type-params : (t : FuncType) {bytes mid rest : List ℕ} → Leaves (Byte 0x60) bytes mid → Leaves (IsFunctionType t) bytes rest → Leaves (IsVector IsValueType t.params ⌢ IsResultType t.result) mid rest
type-params t {bytes} {mid} {rest} l m =
    let a = turn m in
    then (behind_byte l a.first) a.second

-- ---- limits

pub record LimitsParts (x : Limits) (bytes rest : List ℕ) : Type 0 where
  pub flag : ℕ
  pub known : flag ≤ 1
  pub first_rest : List ℕ
  pub first : Leaves (Byte flag) bytes first_rest
  pub least_rest : List ℕ
  pub least : Leaves (IsU32 x.least) first_rest least_rest
  pub greatest : (flag ≡ 0) ⊎ ((n : ℕ) × Leaves (IsU32 n) least_rest rest)

bounds-parts : (least : ℕ) (greatest : Option ℕ) (bytes rest : List ℕ) → Leaves (AreBounds least greatest) bytes rest → LimitsParts (record { least = least; greatest = greatest }) bytes rest
bounds-parts least None bytes rest l =
    let t = turn l in
    record { flag = 0; known = omega arith; first_rest = t.mid; first = t.first; least_rest = rest; least = t.second; greatest = inl refl }
bounds-parts least (Some n) bytes rest l =
    let t = turn l in
    let u = turn t.first in
    record { flag = 1; known = omega arith; first_rest = u.mid; first = u.first; least_rest = t.mid; least = u.second; greatest = inr (n, t.second) }

pub limits-parts : (x : Limits) (bytes rest : List ℕ) → Leaves (AreLimits x) bytes rest → LimitsParts x bytes rest
limits-parts x bytes rest l = bounds-parts x.least x.greatest bytes rest l

pub limits-flag : (flag : ℕ) (bytes mid : List ℕ) → Leaves (Byte flag) bytes mid → 1 < flag → IsUnfit AreLimits bytes
limits-flag flag bytes mid l many x rest m =
    let p = limits-parts x bytes rest m in
    let same = sure-byte.one flag p.flag bytes mid p.first_rest l p.first in
    omega (arith, same.0, p.known)

pub limits-least : (flag : ℕ) (bytes mid : List ℕ) → Leaves (Byte flag) bytes mid → IsUnfit IsU32 mid → IsUnfit AreLimits bytes
limits-least flag bytes mid l unfit x rest m =
    let p = limits-parts x bytes rest m in
    let same = sure-byte.one flag p.flag bytes mid p.first_rest l p.first in
    unfit x.least p.least_rest (subst (λ (at : List ℕ). Leaves (IsU32 x.least) at p.least_rest) (sym same.1) p.least)

limits-last : (flag : ℕ) (after : List ℕ) (x : Limits) (bytes rest : List ℕ) (p : LimitsParts x bytes rest) → 0 < p.flag → after ≡ p.least_rest → IsUnfit IsU32 after → (p.flag ≡ 0) ⊎ ((n : ℕ) × Leaves (IsU32 n) p.least_rest rest) → ⊥
limits-last flag after x bytes rest p some e unfit (inl none) = omega arith
limits-last flag after x bytes rest p some e unfit (inr n) = unfit n.0 rest (subst (λ (at : List ℕ). Leaves (IsU32 n.0) at rest) (sym e) n.1)

pub limits-greatest : (flag least : ℕ) (bytes mid after : List ℕ) → Leaves (Byte flag) bytes mid → Leaves (IsU32 least) mid after → 0 < flag → IsUnfit IsU32 after → IsUnfit AreLimits bytes
limits-greatest flag least bytes mid after l m some unfit x rest n =
    let p = limits-parts x bytes rest n in
    let same = sure-byte.one flag p.flag bytes mid p.first_rest l p.first in
    let lows = sure-u32.one least x.least p.first_rest after p.least_rest (subst (λ (at : List ℕ). Leaves (IsU32 least) at after) same.1 m) p.least in
    limits-last flag after x bytes rest p (omega (arith, same.0)) lows.1 unfit p.greatest

pub with_least : (flag least : ℕ) (bytes mid rest : List ℕ) → flag ≡ 0 → Leaves (Byte flag) bytes mid → Leaves (IsU32 least) mid rest → Leaves (AreBounds least None) bytes rest
with_least flag least bytes mid rest e l m = then (subst (λ (b : ℕ). Leaves (Byte b) bytes mid) e l) m

pub with_both : (flag least greatest : ℕ) (bytes mid after rest : List ℕ) → flag ≤ 1 → 0 < flag → Leaves (Byte flag) bytes mid → Leaves (IsU32 least) mid after → Leaves (IsU32 greatest) after rest → Leaves (AreBounds least (Some greatest)) bytes rest
with_both flag least greatest bytes mid after rest few some l m n =
    let e : flag ≡ 1 = omega arith in
    then (then (subst (λ (b : ℕ). Leaves (Byte b) bytes mid) e l) m) n
