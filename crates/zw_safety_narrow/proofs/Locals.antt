-- Lists of locals in which some are written.
use Rattle.std.proofs.Common.{◌≡◌, ◌≢◌, ℕ, zero, suc, ◌+◌, ◌<◌, List, [], ◌∷◌, length, Some, refl, ap, ◌∙◌, arith}
use Rattle.std.specs.Prelude.{slice_get, slice_set}
use Rattle.std.proofs.lemmas.List.{length-set, get_or-set_same}
use Rattle.std.proofs.lemmas.Option.{slice_get-get_or}
use Rattle.zw_safety_narrow.specs.Checked.{KeepsOthers}
use Rattle.zw_wasm.specs.declared.num.Num.{Num}

-- what was written is there
pub slice_get-set_same : {X : Type 0} (xs : List X) (i : ℕ) (x : X) → i < length xs → slice_get (slice_set xs i x) i ≡ Some x
slice_get-set_same xs i x h =
    let inside : i < length (slice_set xs i x) = omega (arith, length-set xs i x, h) in
    slice_get-get_or (slice_set xs i x) i x inside ∙ ap (λ y. Some y) (get_or-set_same xs i x x h)

-- and nothing else has changed
pub slice_get-set_other : {X : Type 0} (xs : List X) (i j : ℕ) (x : X) → j ≢ i → slice_get (slice_set xs i x) j ≡ slice_get xs j
slice_get-set_other [] i j x h = refl
slice_get-set_other (y ∷ xs) zero zero x h = absurd (h refl)
slice_get-set_other (y ∷ xs) zero (suc j) x h = refl
slice_get-set_other (y ∷ xs) (suc i) zero x h = refl
slice_get-set_other (y ∷ xs) (suc i) (suc j) x h = slice_get-set_other xs i j x (λ e. h (ap (λ n. suc n) e))

pub keeps-same : (scratch : ℕ) (locals : List Num) → KeepsOthers scratch locals locals
keeps-same scratch locals = record { count = refl; below = λ n h. refl; above = λ n h. refl }

-- a local among the eight is written
pub keeps-set : (scratch k : ℕ) (before after : List Num) (x : Num) → k < 8 → KeepsOthers scratch before after → KeepsOthers scratch before (slice_set after (scratch + k) x)
keeps-set scratch k before after x few h = record {
  count = length-set after (scratch + k) x ∙ h.count;
  below = λ n low. slice_get-set_other after (scratch + k) n x (λ e. omega (arith, e, low)) ∙ h.below n low;
  above = λ n high. slice_get-set_other after (scratch + k) n x (λ e. omega (arith, e, high, few)) ∙ h.above n high;
}
