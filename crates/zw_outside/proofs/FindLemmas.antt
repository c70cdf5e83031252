-- Finding a file by its path, after one more was set.
use Rattle.std.proofs.Common.{◌≡◌, ◌≢◌, ℕ, List, [], ◌∷◌, ◌++◌, Option, Some, Bool, true, false, cond, reverse, refl, ap, ◌∙◌, sym}
use Rattle.std.proofs.lemmas.List.{reverse-append}
use Rattle.std.proofs.lemmas.Bool.{false_from_ne_true}
use Rattle.std.proofs.lemmas.Slice.Eq.{bytes_eq-Decides}
use Rattle.std.specs.List.{find}
use Rattle.std.specs.Option.{option_map}
use Rattle.std.specs.Str.{bytes_eq}
use Rattle.zw_outside.specs.declared.tree.HeldFile.{HeldFile}

-- the last file at this path
abbrev pub held_among : List HeldFile → List ℕ → Option (List ℕ)
held_among files path = option_map (λ (file : HeldFile). file.bytes) (find (λ (file : HeldFile). bytes_eq file.path path) (reverse files))

-- the search from the end looks at the last first
pub find-last : {X : Type 0} (p : X → Bool) (xs : List X) (x : X) → find p (reverse (xs ++ x ∷ [])) ≡ cond (p x) (Some x) (find p (reverse xs))
find-last p xs x = ap (find p) (reverse-append xs (x ∷ []))

-- the file that was set last is found
pub held-same : (files : List HeldFile) (path bytes path' bytes' : List ℕ) → path' ≡ path → bytes' ≡ bytes → held_among (files ++ record { path = path'; bytes = bytes' } ∷ []) path ≡ Some bytes
held-same files path bytes path' bytes' e f =
    let same : bytes_eq path' path ≡ true = (bytes_eq-Decides path' path).1 e in
    rw (find-last (λ (file : HeldFile). bytes_eq file.path path) files (record { path = path'; bytes = bytes' }), same) (ap Some f)

-- and the others as before
pub held-other : (files : List HeldFile) (path path' bytes' other : List ℕ) → path' ≡ path → other ≢ path → held_among (files ++ record { path = path'; bytes = bytes' } ∷ []) other ≡ held_among files other
held-other files path path' bytes' other e ne =
    let differs : bytes_eq path' other ≡ false = false_from_ne_true _ (λ h. ne (sym ((bytes_eq-Decides path' other).0 h) ∙ e)) in
    rw (find-last (λ (file : HeldFile). bytes_eq file.path other) files (record { path = path'; bytes = bytes' }), differs) refl
