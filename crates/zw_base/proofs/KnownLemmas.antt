-- What is known of the bytes that a sink has taken or a source has left, from one call to the next.
use Rattle.std.proofs.Common.{◌≡◌, ℕ, ◌+◌, List, ◌++◌, take, drop, Option, Some, None, Bool, ◌&&◌, nat_eq, false, subst, ◌-◌, sym, ◌∙◌, ap, append_assoc, arith}
use Rattle.std.proofs.Math.Seq.{take-add}
use Rattle.std.proofs.lemmas.Bool.Decides.{nat_tests}
use Rattle.std.specs.Io.KnownBytes.{Appends}
use Rattle.zw_base.specs.Faults.{Counts}

-- two fronts one after the other are one front
pub Appends-take : (old mid new : Option (List ℕ)) (bytes : List ℕ) (a n : ℕ) → Appends old mid (take a bytes) → Appends mid new (take n (drop a bytes)) → Appends old new (take (a + n) bytes)
Appends-take None mid new bytes a n h k = tt
Appends-take (Some xs) None new bytes a n h k = absurd h
Appends-take (Some xs) (Some ys) None bytes a n h k = absurd k
Appends-take (Some xs) (Some ys) (Some zs) bytes a n h k =
    k ∙ ap (λ v. v ++ take n (drop a bytes)) h ∙ append_assoc xs (take a bytes) (take n (drop a bytes)) ∙ ap (λ v. xs ++ v) (sym (take-add a n bytes))

-- a put that took something did not fail
pub put-steady : (before now n : ℕ) (b : Bool) → (n ≡ 0 → ⊥) → Counts before now (nat_eq n 0 && b) → now ≡ before
put-steady before now n b some h =
    let differs : nat_eq n 0 ≡ false = grind (arith, nat_tests) in
    subst (λ (t : Bool). Counts before now (t && b)) differs h
