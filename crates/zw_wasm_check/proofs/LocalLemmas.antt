-- The locals of a body, found by where their runs end.
use Rattle.std.proofs.Common.{◌≡◌, ℕ, true, false, leb, zero, suc, ◌+◌, ◌-◌, ◌<◌, ◌≤◌, List, [], ◌∷◌, ◌++◌, length, drop, get_or, replicate, option_map, refl, sym, ap, ◌∙◌, append_assoc, arith}
use Rattle.std.specs.Prelude.{slice_get}
use Rattle.std.specs.List.Sorted.{IsNonDecreasingBy, IsPartitionPoint}
use Rattle.std.proofs.lemmas.Bool.{leb-true, leb-false}
use Rattle.std.proofs.lemmas.List.{drop_more, length-replicate}
use Rattle.zw_wasm.specs.declared.module.ValType.{ValType}
use Rattle.zw_wasm.specs.ModuleBytes.{local_count}
use Rattle.zw_wasm.specs.Validity.{expanded}
use Rattle.std.proofs.lemmas.List.Sums.{sum_by-cons}
use Rattle.zw_wasm_check.specs.declared.locals.Run.{Run}
use Rattle.zw_wasm_check.specs.Locals.{end_of, runs_between}
use Rattle.zw_wasm_check.proofs.Reading.{slice_get_front, slice_get_back, slice_get-replicate}

-- where runs end that begin behind n locals
abbrev pub ends_from : ℕ → List (ℕ × ValType) → List Run
ends_from n [] = []
ends_from n (run ∷ runs) = record { end = n + run.0; ty = run.1 } ∷ ends_from (n + run.0) runs

pub runs_back : (n : ℕ) (runs : List (ℕ × ValType)) → runs_between n (ends_from n runs) ≡ runs
runs_back n [] = refl
runs_back n (run ∷ runs) =
    let same : (n + run.0) - n ≡ run.0 = omega arith in
    ap (λ (c : ℕ). (c, run.1) ∷ runs_between (n + run.0) (ends_from (n + run.0) runs)) same
    ∙ ap (λ (rest : List (ℕ × ValType)). run ∷ rest) (runs_back (n + run.0) runs)

from_first : (n : ℕ) (runs : List (ℕ × ValType)) (j : ℕ) (d : Run) → j < length (ends_from n runs) → n ≤ end_of (get_or (ends_from n runs) j d)
from_first n [] j d inside = absurd (omega arith)
from_first n (run ∷ runs) zero d inside = omega arith
from_first n (run ∷ runs) (suc j) d inside =
    let later = from_first (n + run.0) runs j d (omega arith) in omega (arith, later)

pub ends_rise : (n : ℕ) (runs : List (ℕ × ValType)) (i j : ℕ) (d : Run) → i ≤ j → j < length (ends_from n runs) → end_of (get_or (ends_from n runs) i d) ≤ end_of (get_or (ends_from n runs) j d)
ends_rise n [] i j d order inside = absurd (omega arith)
ends_rise n (run ∷ runs) zero zero d order inside = omega arith
ends_rise n (run ∷ runs) zero (suc j) d order inside = from_first (n + run.0) runs j d (omega arith)
ends_rise n (run ∷ runs) (suc i) zero d order inside = absurd (omega arith)
ends_rise n (run ∷ runs) (suc i) (suc j) d order inside = ends_rise (n + run.0) runs i j d (omega arith) (omega arith)

-- one run more
pub ends_more : (ends : List Run) (total : ℕ) (runs : List (ℕ × ValType)) (i : ℕ) (d : ℕ × ValType) (all : List Run) → i < length runs → ends ++ ends_from total (drop i runs) ≡ all → (ends ++ record { end = total + (get_or runs i d).0; ty = (get_or runs i d).1 } ∷ []) ++ ends_from (total + (get_or runs i d).0) (drop (i + 1) runs) ≡ all
ends_more ends total runs i d all inside before =
    let run = get_or runs i d in
    let this : Run = record { end = total + run.0; ty = run.1 } in
    append_assoc ends (this ∷ []) (ends_from (total + run.0) (drop (i + 1) runs))
    ∙ ap (λ (rs : List (ℕ × ValType)). ends ++ ends_from total rs) (sym (drop_more runs i d inside))
    ∙ before

pub count_more : (runs : List (ℕ × ValType)) (i : ℕ) (d : ℕ × ValType) → i < length runs → local_count (drop i runs) ≡ (get_or runs i d).0 + local_count (drop (i + 1) runs)
count_more runs i d inside =
    ap local_count (drop_more runs i d inside) ∙ sum_by-cons (λ (run : ℕ × ValType). run.0) (get_or runs i d) (drop (i + 1) runs)

-- the type of a local is that of the first run that ends behind it
pub found : (n local place : ℕ) (ends : List Run) → n ≤ local
    → ((i j : ℕ) (d : Run) → i ≤ j → j < length ends → end_of (get_or ends i d) ≤ end_of (get_or ends j d))
    → ((d : Run) → 0 < length ends → n ≤ end_of (get_or ends 0 d))
    → ((k : ℕ) (d : Run) → k < place → k < length ends → end_of (get_or ends k d) ≤ local)
    → ((k : ℕ) (d : Run) → place ≤ k → k < length ends → local < end_of (get_or ends k d))
    → slice_get (expanded (runs_between n ends)) (local - n) ≡ option_map (λ (r : Run). r.ty) (slice_get ends place)
found n local place [] behind rises low before after = refl
found n local zero (r ∷ rs) behind rises low before after =
    let here : local < r.end = after 0 r (omega arith) (omega arith) in
    let inside : local - n < length (replicate (r.end - n) r.ty) = omega (arith, length-replicate (r.end - n) r.ty) in
    slice_get_front (replicate (r.end - n) r.ty) (expanded (runs_between r.end rs)) (local - n) inside
    ∙ slice_get-replicate (r.end - n) (local - n) r.ty (omega arith)
found n local (suc p) (r ∷ rs) behind rises low before after =
    let past : r.end ≤ local = before 0 r (omega arith) (omega arith) in
    let first : n ≤ r.end = low r (omega arith) in
    let at : local - n ≡ length (replicate (r.end - n) r.ty) + (local - r.end) = omega (arith, length-replicate (r.end - n) r.ty) in
    slice_get_back (replicate (r.end - n) r.ty) (expanded (runs_between r.end rs)) (local - n) (local - r.end) at
    ∙ found r.end local p rs past
    (λ i j d order inside. rises (suc i) (suc j) d (omega arith) (omega arith))
    (λ d some. rises 0 1 d (omega arith) (omega arith))
    (λ k d front inside. before (suc k) d (omega arith) (omega arith))
    (λ k d back inside. after (suc k) d (omega arith) (omega arith))

-- the same where a search found the place
pub at_place : (ends : List Run) (local place : ℕ) → IsNonDecreasingBy end_of ends → IsPartitionPoint (λ (r : Run). leb r.end local ≡ true) (λ (r : Run). leb r.end local ≡ false) ends place → slice_get (expanded (runs_between 0 ends)) local ≡ option_map (λ (r : Run). r.ty) (slice_get ends place)
at_place ends local place rises point =
    let same : local ≡ local - 0 = omega arith in
    ap (slice_get (expanded (runs_between 0 ends))) same
    ∙ found 0 local place ends (omega arith) rises (λ d some. omega arith)
    (λ k d front inside. leb-true (get_or ends k d).end local (point.0 k d (omega arith) front))
    (λ k d back inside. leb-false (get_or ends k d).end local (point.1 k d back inside))
