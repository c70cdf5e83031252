-- Holding: words that hold numbers, part by part.
use Rattle.std.proofs.Common.{◌≡◌, ℕ, zero, suc, ◌+◌, ◌<◌, ◌≤◌, List, [], ◌∷◌, ◌++◌, Some, None, length, take, drop, set, reverse, refl, sym, ap, subst, ◌∙◌, append_assoc, arith}
use Rattle.std.specs.Prelude.{slice_get}
use Rattle.std.proofs.lemmas.List.{reverse-append, reverse-reverse, length-reverse, length-append, set-append_left, set-append_right}
use Rattle.std.proofs.Math.Seq.{drop-append_seam, take-append_seam}
use Rattle.zw_wasm.specs.declared.num.Num.{Num}
use Rattle.zw_wasm.specs.Reduction as reduction
use Rattle.zw_wasm_words.specs.Frames.{below_labels}
use Rattle.zw_wasm_words.specs.Words.{Hold, Holds}

pub hold_length : (ws : List ℕ) (vs : List Num) → Hold ws vs → length ws ≡ length vs
hold_length [] [] h = refl
hold_length (w ∷ ws) (v ∷ vs) h = ap (λ n. suc n) (hold_length ws vs h.1)
hold_length [] (v ∷ vs) h = absurd h
hold_length (w ∷ ws) [] h = absurd h

pub hold_append : (ws xs : List ℕ) (vs us : List Num) → Hold ws vs → Hold xs us → Hold (ws ++ xs) (vs ++ us)
hold_append [] xs [] us h g = g
hold_append (w ∷ ws) xs (v ∷ vs) us h g = (h.0, hold_append ws xs vs us h.1 g)
hold_append [] xs (v ∷ vs) us h g = absurd h
hold_append (w ∷ ws) xs [] us h g = absurd h

pub hold_take : (n : ℕ) (ws : List ℕ) (vs : List Num) → Hold ws vs → Hold (take n ws) (take n vs)
hold_take zero ws vs h = tt
hold_take (suc n) [] [] h = tt
hold_take (suc n) (w ∷ ws) (v ∷ vs) h = (h.0, hold_take n ws vs h.1)
hold_take (suc n) [] (v ∷ vs) h = absurd h
hold_take (suc n) (w ∷ ws) [] h = absurd h

pub hold_drop : (n : ℕ) (ws : List ℕ) (vs : List Num) → Hold ws vs → Hold (drop n ws) (drop n vs)
hold_drop zero ws vs h = h
hold_drop (suc n) [] [] h = tt
hold_drop (suc n) (w ∷ ws) (v ∷ vs) h = hold_drop n ws vs h.1
hold_drop (suc n) [] (v ∷ vs) h = absurd h
hold_drop (suc n) (w ∷ ws) [] h = absurd h

pub hold_reverse : (ws : List ℕ) (vs : List Num) → Hold ws vs → Hold (reverse ws) (reverse vs)
hold_reverse [] [] h = tt
hold_reverse (w ∷ ws) (v ∷ vs) h =
    subst (λ l. Hold l (reverse (v ∷ vs))) (sym (reverse-append (w ∷ []) ws))
    (subst (λ l. Hold (reverse ws ++ w ∷ []) l) (sym (reverse-append (v ∷ []) vs)) (hold_append (reverse ws) (w ∷ []) (reverse vs) (v ∷ []) (hold_reverse ws vs h.1) (h.0, tt)))
hold_reverse [] (v ∷ vs) h = absurd h
hold_reverse (w ∷ ws) [] h = absurd h

-- a number at a place, where a word is there, and none where none is
pub record NumberAt (vs : List Num) (n w : ℕ) : Type 0 where
  pub number : Num
  pub there : slice_get vs n ≡ Some number
  pub holds : Holds w number

pub hold_some : (ws : List ℕ) (vs : List Num) (n w : ℕ) → Hold ws vs → slice_get ws n ≡ Some w → NumberAt vs n w
hold_some [] vs n w h e = absurd (cc)
hold_some (x ∷ ws) [] n w h e = absurd h
hold_some (x ∷ ws) (v ∷ vs) zero w h e = let same : x ≡ w = cc in record { number = v; there = refl; holds = subst (λ k. Holds k v) same h.0 }
hold_some (x ∷ ws) (v ∷ vs) (suc n) w h e = let r = hold_some ws vs n w h.1 e in record { number = r.number; there = r.there; holds = r.holds }

pub hold_none : (ws : List ℕ) (vs : List Num) (n : ℕ) → Hold ws vs → slice_get ws n ≡ None → slice_get vs n ≡ None
hold_none [] [] n h e = refl
hold_none [] (v ∷ vs) n h e = absurd h
hold_none (x ∷ ws) [] n h e = absurd h
hold_none (x ∷ ws) (v ∷ vs) zero h e = absurd (cc)
hold_none (x ∷ ws) (v ∷ vs) (suc n) h e = hold_none ws vs n h.1 e

-- what lies below all labels comes last
pub below_all : (ls : List reduction.Label) (lower : List Num) → below_labels ls lower ≡ below_labels ls [] ++ lower
below_all [] lower = refl
below_all (l ∷ ls) lower = ap (λ vs. l.below ++ vs) (below_all ls lower) ∙ sym (append_assoc l.below (below_labels ls []) lower)

-- all words from the first on: those of lower frames, the locals, and the rest
pub words_up : (old : List ℕ) (os : List Num) (ls : List reduction.Label) (locals lower : List Num) → Hold (reverse old) (os ++ below_labels ls (reverse locals ++ lower)) → Hold old (reverse lower ++ locals ++ reverse (os ++ below_labels ls []))
words_up old os ls locals lower h =
    let front = os ++ below_labels ls [] in
    let parts : os ++ below_labels ls (reverse locals ++ lower) ≡ front ++ (reverse locals ++ lower) =
    ap (λ vs. os ++ vs) (below_all ls (reverse locals ++ lower)) ∙ sym (append_assoc os (below_labels ls []) (reverse locals ++ lower)) in
    let turned : reverse (front ++ (reverse locals ++ lower)) ≡ reverse lower ++ locals ++ reverse front =
    reverse-append front (reverse locals ++ lower)
    ∙ ap (λ vs. vs ++ reverse front) (reverse-append (reverse locals) lower ∙ ap (λ vs. reverse lower ++ vs) (reverse-reverse locals)) in
    subst (λ l. Hold l (reverse lower ++ locals ++ reverse front)) (reverse-reverse old)
    (subst (λ vs. Hold (reverse (reverse old)) vs) turned (hold_reverse (reverse old) (front ++ (reverse locals ++ lower)) (subst (λ vs. Hold (reverse old) vs) parts h)))

-- the words of the locals
pub locals_held : (old : List ℕ) (os : List Num) (ls : List reduction.Label) (locals lower : List Num) → Hold (reverse old) (os ++ below_labels ls (reverse locals ++ lower)) → Hold (take (length locals) (drop (length lower) old)) locals
locals_held old os ls locals lower h =
    let rest = reverse (os ++ below_labels ls []) in
    let dropped : drop (length lower) (reverse lower ++ locals ++ rest) ≡ locals ++ rest =
    ap (λ n. drop n (reverse lower ++ locals ++ rest)) (sym (length-reverse lower))
    ∙ ap (drop (length (reverse lower))) (append_assoc (reverse lower) locals rest) ∙ drop-append_seam (reverse lower) (locals ++ rest) in
    subst (λ vs. Hold (take (length locals) (drop (length lower) old)) vs) (ap (take (length locals)) dropped ∙ take-append_seam locals rest)
    (hold_take (length locals) (drop (length lower) old) (drop (length lower) (reverse lower ++ locals ++ rest)) (hold_drop (length lower) old (reverse lower ++ locals ++ rest) (words_up old os ls locals lower h)))

pub hold_set : (ws : List ℕ) (vs : List Num) (n w : ℕ) (v : Num) → Hold ws vs → Holds w v → Hold (set ws n w) (set vs n v)
hold_set [] [] n w v h g = tt
hold_set (x ∷ ws) (u ∷ vs) zero w v h g = (g, h.1)
hold_set (x ∷ ws) (u ∷ vs) (suc n) w v h g = (h.0, hold_set ws vs n w v h.1 g)
hold_set [] (u ∷ vs) n w v h g = absurd h
hold_set (x ∷ ws) [] n w v h g = absurd h

-- all numbers, the first first
turned : (os : List Num) (ls : List reduction.Label) (locals lower : List Num) → reverse (os ++ below_labels ls (reverse locals ++ lower)) ≡ reverse lower ++ locals ++ reverse (os ++ below_labels ls [])
turned os ls locals lower =
    let front = os ++ below_labels ls [] in
    ap reverse (ap (λ vs. os ++ vs) (below_all ls (reverse locals ++ lower)) ∙ sym (append_assoc os (below_labels ls []) (reverse locals ++ lower)))
    ∙ reverse-append front (reverse locals ++ lower)
    ∙ ap (λ vs. vs ++ reverse front) (reverse-append (reverse locals) lower ∙ ap (λ vs. reverse lower ++ vs) (reverse-reverse locals))

-- a local that is written, and the word of it
pub local_written : (words : List ℕ) (os : List Num) (ls : List reduction.Label) (locals lower : List Num) (n w : ℕ) (v : Num) → n < length locals → Holds w v → Hold (reverse words) (os ++ below_labels ls (reverse locals ++ lower)) → Hold (reverse (set words (length lower + n) w)) (os ++ below_labels ls (reverse (set locals n v) ++ lower))
local_written words os ls locals lower n w v inside holds h =
    let rest = reverse (os ++ below_labels ls []) in
    let place = length lower + n in
    let count = length-reverse lower in
    let front = length-append (reverse lower) locals in
    let found : set (reverse lower ++ locals ++ rest) place v ≡ reverse lower ++ set locals n v ++ rest =
    set-append_left (reverse lower ++ locals) rest place v (omega (arith, count, front, inside))
    ∙ ap (λ vs. vs ++ rest) (set-append_right (reverse lower) locals (length lower) place v count (omega arith) ∙ ap (λ k. reverse lower ++ set locals k v) (omega arith)) in
    let up = words_up words os ls locals lower h in
    let stored = hold_set words (reverse lower ++ locals ++ rest) place w v up holds in
    subst (λ vs. Hold (reverse (set words place w)) vs)
    (ap reverse (found ∙ sym (turned os ls (set locals n v) lower)) ∙ reverse-reverse (os ++ below_labels ls (reverse (set locals n v) ++ lower)))
    (hold_reverse (set words place w) (set (reverse lower ++ locals ++ rest) place v) stored)

-- under a frame's operands lie its locals and the numbers of lower frames
pub under_long : (ls : List reduction.Label) (locals lower : List Num) → length lower + length locals ≤ length (below_labels ls (reverse locals ++ lower))
under_long ls locals lower =
    let whole = ap length (below_all ls (reverse locals ++ lower)) ∙ length-append (below_labels ls []) (reverse locals ++ lower) in
    let parts = length-append (reverse locals) lower in
    let count = length-reverse locals in
    omega (arith, whole, parts, count)
