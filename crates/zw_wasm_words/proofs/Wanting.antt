-- Wanting: how much room the locals of a body take.
use Rattle.std.proofs.Common.{◌≡◌, ℕ, suc, ◌+◌, ◌<◌, ◌≤◌, List, ◌++◌, length, get_or, drop, replicate, ap, arith, length-append, drop-cons}
use Rattle.std.proofs.lemmas.List.{length-replicate}
use Rattle.zw_wasm.specs.declared.module.ValType.{ValType}
use Rattle.zw_wasm_words.specs.Words.{zero_words}

-- behind some runs of locals the next run fits still among all of them
pub locals_fit_in : (old now : List ℕ) (runs : List (ℕ × ValType)) (n : ℕ) (d : ℕ × ValType) → n < length runs → now ++ zero_words (drop n runs) ≡ old ++ zero_words runs → length now + (get_or runs n d).0 ≤ length old + length (zero_words runs)
locals_fit_in old now runs n d there same =
    let run = get_or runs n d in
    let left = zero_words (drop (suc n) runs) in
    let parts : zero_words (drop n runs) ≡ replicate run.0 0 ++ left = ap zero_words (drop-cons runs n d there) in
    omega (arith, ap length same, length-append now (zero_words (drop n runs)), length-append old (zero_words runs), ap length parts, length-append (replicate run.0 0) left, length-replicate {A = ℕ} run.0 0)
