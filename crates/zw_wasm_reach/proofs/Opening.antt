-- Opening: how many blocks, loops and ifs are open behind an instruction.
use Rattle.std.proofs.Common.{◌≡◌, ℕ, suc, ◌+◌, ◌≤◌, max, List, [], ◌∷◌, Option, ◌⊎◌, inl, inr, refl, arith, add-one}
use Rattle.zw_wasm.specs.declared.module.Instr.{Instr}
use Rattle.zw_wasm.specs.declared.module.Instr.TheVariants as instr
use Rattle.zw_wasm.specs.declared.module.ValType.{ValType}
use Rattle.zw_wasm_reach.specs.Counts.{most_open}

-- at some time as many are open as at the beginning
pub most_open-above : (n : ℕ) (is : List Instr) → n ≤ most_open n is
most_open-above n [] = omega arith
most_open-above n (instr.Block result ∷ is) = let h = most_open-above (suc n) is in omega arith
most_open-above n (instr.Loop result ∷ is) = let h = most_open-above (suc n) is in omega arith
most_open-above n (instr.If result ∷ is) = let h = most_open-above (suc n) is in omega arith
most_open-above n (instr.End ∷ is) = omega arith
most_open-above n (i ∷ is) = most_open-above n is

above-one : (n : ℕ) (is : List Instr) → most_open (suc n) is ≡ max n (most_open (n + 1) is)
above-one n is = rw add-one (let h = most_open-above (suc n) is in omega arith)

pub behind-beginning : (n : ℕ) (i : Instr) (is : List Instr) → ((result : Option ValType) × (i ≡ instr.Block result)) ⊎ (((result : Option ValType) × (i ≡ instr.Loop result)) ⊎ ((result : Option ValType) × (i ≡ instr.If result))) → most_open n (i ∷ is) ≡ max n (most_open (n + 1) is)
behind-beginning n i is (inl e) = rw e.1 (above-one n is)
behind-beginning n i is (inr (inl e)) = rw e.1 (above-one n is)
behind-beginning n i is (inr (inr e)) = rw e.1 (above-one n is)

pub behind-other : (n : ℕ) (i : Instr) (is : List Instr) → ((result : Option ValType) → i ≡ instr.Block result → ⊥) → ((result : Option ValType) → i ≡ instr.Loop result → ⊥) → ((result : Option ValType) → i ≡ instr.If result → ⊥) → (i ≡ instr.End → ⊥) → most_open n (i ∷ is) ≡ max n (most_open n is)
behind-other n (instr.Block result) is h k l e = absurd (h result refl)
behind-other n (instr.Loop result) is h k l e = absurd (k result refl)
behind-other n (instr.If result) is h k l e = absurd (l result refl)
behind-other n instr.End is h k l e = absurd (e refl)
behind-other n i is h k l e = omega (arith, most_open-above n is)
