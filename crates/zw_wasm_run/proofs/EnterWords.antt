-- EnterWords: the words of a function that is called: its arguments, which are the last words already, and zeros.
use Rattle.std.proofs.Common.{◌≡◌, ℕ, zero, suc, List, [], ◌∷◌, ◌++◌, replicate, reverse, refl, sym, ap, subst, ◌∙◌, append_assoc}
use Rattle.std.proofs.lemmas.List.{reverse-append}
use Rattle.zw_wasm.specs.declared.module.ValType.{ValType}
use Rattle.zw_wasm.specs.declared.module.ValType.TheVariants as ty
use Rattle.zw_wasm.specs.declared.num.Num.{Num}
use Rattle.zw_wasm.specs.Structure.{num_of, zeros}
use Rattle.zw_wasm_words.specs.Words.{Hold, zero_words}
use Rattle.zw_wasm_words.proofs.Holding.{hold_append, hold_reverse}

hold_zeros : (t : ValType) (n : ℕ) → Hold (replicate n 0) (replicate n (num_of t 0))
hold_zeros t zero = tt
hold_zeros ty.I32 (suc n) = (refl, hold_zeros ty.I32 n)
hold_zeros ty.I64 (suc n) = (refl, hold_zeros ty.I64 n)

-- the locals of a body begin at 0
pub zeros_held : (runs : List (ℕ × ValType)) → Hold (zero_words runs) (zeros runs)
zeros_held [] = tt
zeros_held (run ∷ runs) = hold_append (replicate run.0 0) (zero_words runs) (replicate run.0 (num_of run.1 0)) (zeros runs) (hold_zeros run.1 run.0) (zeros_held runs)

-- behind the arguments stand the other locals, and no operand yet
pub enters : (old new : List ℕ) (args rest : List Num) (runs : List (ℕ × ValType)) → Hold (reverse old) (reverse args ++ rest) → new ≡ old ++ zero_words runs → Hold (reverse new) (reverse (args ++ zeros runs) ++ rest)
enters old new args rest runs h same =
    let zs = zeros runs in
    let held = hold_append (reverse (zero_words runs)) (reverse old) (reverse zs) (reverse args ++ rest) (hold_reverse (zero_words runs) zs (zeros_held runs)) h in
    subst (λ ws. Hold ws (reverse (args ++ zs) ++ rest)) (sym (ap reverse same ∙ reverse-append old (zero_words runs)))
    (subst (λ vs. Hold (reverse (zero_words runs) ++ reverse old) vs) (sym (ap (λ vs. vs ++ rest) (reverse-append args zs) ∙ append_assoc (reverse zs) (reverse args) rest)) held)
