-- Paths and their segments.
use Rattle.std.proofs.Common.{◌≡◌, ◌≢◌, ℕ, zero, suc, ◌+◌, ◌-◌, ◌<◌, ◌≤◌, true, false, not, List, [], ◌∷◌, ◌++◌, map, length, get_or, take, drop, Some, None, Bor, refl, sym, ap, ◌∙◌, append-nil, append_assoc, arith}
use Rattle.std.specs.List.{position_or_len, suffix_len, join_with_byte}
use Rattle.std.specs.Option.{option_and_then}
use Rattle.std.proofs.lemmas.List.{take_more, length-take-le}
use Rattle.std.proofs.lemmas.List.Sums.{prefix_len-le-length, fails_before_first, suffix_len_is}
use Rattle.std.proofs.lemmas.List.Splits.{slice_split_none, slice_split_first, length-slice_split}
use Rattle.zw_files.specs.Paths.{is_slash, segments, all_but_last, root_folder, up, step, walk}

pub slash-le : (path : List ℕ) → position_or_len is_slash path ≤ length path
slash-le path = prefix_len-le-length (λ b. not (is_slash b)) path

pub last-segment : (path : List ℕ) → position_or_len is_slash path ≡ length path → segments path ≡ path ∷ []
last-segment path end = slice_split_none is_slash path (λ k d w. fails_before_first is_slash path k d (omega (arith, end, w)))

pub next-segment : (path : List ℕ) (n : ℕ) → n ≡ position_or_len is_slash path → n ≢ length path → segments path ≡ take n path ∷ segments (drop (n + 1) path)
next-segment path n e apart =
    let below : position_or_len is_slash path < length path = omega (arith, slash-le path, e) in
    slice_split_first is_slash path 0 below ∙ ap (λ m. take m path ∷ segments (drop (m + 1) path)) (sym e)

some-segment : (path : List ℕ) → 0 < length (segments path)
some-segment path = omega (arith, length-slice_split is_slash path)

pub all_but_last-cons : {A : Type 0} (x : A) (xs : List A) → 0 < length xs → all_but_last (x ∷ xs) ≡ x ∷ all_but_last xs
all_but_last-cons x [] h = absurd (omega arith)
all_but_last-cons x (y ∷ ys) h = refl

pub all_but_last-push : {A : Type 0} (xs : List A) (x : A) → all_but_last (xs ++ x ∷ []) ≡ xs
all_but_last-push [] x = refl
all_but_last-push (y ∷ []) x = refl
all_but_last-push (y ∷ (z ∷ zs)) x = ap (λ l. y ∷ l) (all_but_last-push (z ∷ zs) x)

-- a folder more of those in which a file lies
pub folders-next : (done : List (List ℕ)) (segment rest behind : List ℕ) → segments rest ≡ segment ∷ segments behind
    → (done ++ segment ∷ []) ++ all_but_last (segments behind) ≡ done ++ all_but_last (segments rest)
folders-next done segment rest behind e =
    append_assoc done (segment ∷ []) (all_but_last (segments behind))
    ∙ ap (λ l. done ++ l) (sym (ap all_but_last e ∙ all_but_last-cons segment (segments behind) (some-segment behind)))

pub folders-last : (done : List (List ℕ)) (segment rest : List ℕ) → segments rest ≡ segment ∷ [] → done ++ all_but_last (segments rest) ≡ done
folders-last done segment rest e = ap (λ l. done ++ all_but_last l) e ∙ append-nil done

-- a step of a way
pub walk-step : (folders next : List (List ℕ)) (segment rest : List ℕ) (others : List (List ℕ)) → segments rest ≡ segment ∷ others → step folders segment ≡ Some next → walk folders (segments rest) ≡ walk next others
walk-step folders next segment rest others e leads = ap (walk folders) e ∙ ap (option_and_then (λ there. walk there others)) leads

pub walk-out : (folders : List (List ℕ)) (segment rest : List ℕ) (others : List (List ℕ)) → segments rest ≡ segment ∷ others → step folders segment ≡ None → walk folders (segments rest) ≡ None
walk-out folders segment rest others e leads = ap (walk folders) e ∙ ap (option_and_then (λ there. walk there others)) leads

pub up-some : (folders rest : List (List ℕ)) (last : List ℕ) → folders ≡ rest ++ last ∷ [] → up folders ≡ Some rest
up-some [] rest last e = absurd (none rest e)
  where
    none : (rest : List (List ℕ)) → [] ≡ rest ++ last ∷ [] → ⊥
    none [] h = cc
    none (x ∷ xs) h = cc
up-some (f ∷ fs) rest last e = ap Some (ap all_but_last e ∙ all_but_last-push rest last)

-- a segment behind others
pub join-push : (done : List (List ℕ)) (x : List ℕ) → 0 < length done → join_with_byte 47 (done ++ x ∷ []) ≡ join_with_byte 47 done ++ (47 ∷ x)
join-push [] x h = absurd (omega arith)
join-push (y ∷ []) x h = refl
join-push (y ∷ (z ∷ zs)) x h =
    ap (λ l. y ++ (47 ∷ l)) (join-push (z ∷ zs) x (omega arith)) ∙ sym (append_assoc y (47 ∷ join_with_byte 47 (z ∷ zs)) (47 ∷ x))

-- the root folder ends behind the last slash
pub folder-ends : (root : List ℕ) (n : ℕ) → n ≤ length root → ((k : ℕ) → n ≤ k → k < length root → not (is_slash (get_or root k 0)) ≡ true)
    → (0 < n → not (is_slash (get_or root (n - 1) 0)) ≡ false) → take n root ≡ root_folder root
folder-ends root n within past last =
    let size = suffix_len_is (λ b. not (is_slash b)) root n 0 within past last in
    let same : n ≡ length root - suffix_len (λ b. not (is_slash b)) root = omega (arith, size, within) in
    ap (λ m. take m root) same

pub no-folder : (root : List ℕ) → ((k : ℕ) → k < length root → not (is_slash (get_or root k 0)) ≡ true) → [] ≡ root_folder root
no-folder root past = folder-ends root 0 (omega arith) (λ k _ w. past k w) (λ h. absurd (omega arith))

pub up-none : (folders : List (Bor (List ℕ))) → folders ≡ [] → up (map (λ folder. folder.now) folders) ≡ None
up-none [] e = refl
up-none (f ∷ fs) e = absurd (cc)

-- what a segment of a list of slices is
pub now-at : (below : List (Bor (List ℕ))) (n : ℕ) (d : Bor (List ℕ)) → (get_or below n d).now ≡ get_or (map (λ segment. segment.now) below) n d.now
now-at [] n d = refl
now-at (x ∷ xs) zero d = refl
now-at (x ∷ xs) (suc n) d = now-at xs n d

-- segments are joined as they come
pub joined-next : (names : List (List ℕ)) (n : ℕ) (front path new : List ℕ) → n < length names → path ≡ front ++ join_with_byte 47 (take n names)
    → (n ≡ 0 → new ≡ path ++ get_or names n []) → (0 < n → new ≡ path ++ (47 ∷ get_or names n [])) → new ≡ front ++ join_with_byte 47 (take (n + 1) names)
joined-next names zero front path new within so_far first later =
    first refl ∙ ap (λ l. l ++ get_or names 0 []) (so_far ∙ append-nil front) ∙ ap (λ l. front ++ join_with_byte 47 l) (sym (take_more names 0 [] within))
joined-next names (suc m) front path new within so_far first later =
    let x = get_or names (suc m) [] in
    let done = take (suc m) names in
    let some : 0 < length done = omega (arith, length-take-le (suc m) names (omega arith)) in
    later (omega arith)
    ∙ ap (λ l. l ++ (47 ∷ x)) so_far
    ∙ append_assoc front (join_with_byte 47 done) (47 ∷ x)
    ∙ ap (λ l. front ++ l) (sym (join-push done x some))
    ∙ ap (λ l. front ++ join_with_byte 47 l) (sym (take_more names (suc m) [] within))
