-- A section without entries fits, and what holds of the items so far holds with one more.
use Rattle.std.proofs.Common.{◌≡◌, ℕ, true, eqb, List, [], ◌∷◌, ◌++◌, length, take, get_or, All, ◌+◌, ◌<◌, sym, ap, ◌∙◌, subst, arith}
use Rattle.std.proofs.lemmas.Bool.{eqb-true}
use Rattle.std.proofs.lemmas.List.{append-nil, take_more, flat_map_more}
use Rattle.std.specs.List.{flat_map}
use Rattle.std.proofs.lemmas.List.Elements.{All-nil, All-push}
use Rattle.zw_wasm.specs.Fits.{FitsSection}
use Rattle.zw_leb.proofs.LebSpellings.{length-unsigned}

pub no_entries : {X : Type 0} (FitsItem : X → Type 0) (item : X → List ℕ) (xs : List X) → eqb (length xs) 0 ≡ true → FitsSection FitsItem item xs
no_entries FitsItem item [] none = record {
  items = record { count = omega arith; each = All-nil FitsItem };
  size = rw append-nil (omega (arith, length-unsigned 0));
}
no_entries FitsItem item (x ∷ xs) none = absurd (omega (arith, eqb-true (length (x ∷ xs)) 0 none))

pub all_more : {X : Type 0} (P : X → Type 0) (xs : List X) (i : ℕ) (d : X) → i < length xs → All P (take i xs) → P (get_or xs i d) → All P (take (i + 1) xs)
all_more {X} P xs i d within before here = subst (λ (ys : List X). All P ys) (sym (take_more xs i d within)) (All-push P (take i xs) (get_or xs i d) before here)

-- the spellings of the items so far, and one more
pub each_more : {X : Type 0} (f : X → List ℕ) (xs : List X) (i : ℕ) (d : X) (old before now : List ℕ) → i < length xs → before ≡ old ++ flat_map f (take i xs) → now ≡ before ++ f (get_or xs i d) → now ≡ old ++ flat_map f (take (i + 1) xs)
each_more {X} f xs i d old before now within before-is now-is =
    now-is ∙ ap (λ (bytes : List ℕ). bytes ++ f (get_or xs i d)) before-is ∙ flat_map_more f old (take i xs) (get_or xs i d)
    ∙ ap (λ (ys : List X). old ++ flat_map f ys) (sym (take_more xs i d within))
