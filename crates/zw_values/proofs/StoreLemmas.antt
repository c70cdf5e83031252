-- What was saved is in its place, and other objects stay.
use Rattle.std.specs.Prelude.{◌≡◌, ◌≢◌, refl, ℕ, Bool, true, if◌then◌else◌, List, [], ◌∷◌, slice_get, slice_set, Option, Some, None, option_and_then}
use Rattle.std.specs.Option.{option_map}
use Rattle.std.proofs.Common.{sym, ◌∙◌, ap}
use Rattle.std.proofs.lemmas.Option.{slice_get_within}
use Rattle.zw_types.specs.TypeTrees as tree
use Rattle.zw_types.specs.TypeTrees.{ValueTree}
use Rattle.zw_types.proofs.ListLemmas.{slice_get_set, slice_get_set_other}
use Rattle.zw_values.specs.Paths.{part_of, with_part, written_at}
use Rattle.zw_values.specs.ObjectStore.{Object, Store, Place, IsDead, place_in, place_of, saved}
use Rattle.zw_values.proofs.PathLemmas.{part_of-with_part}

-- the place of a part, and what a path leads to from there
abbrev through : Option ValueTree → List ℕ → Place
through part path = elim part [ None ↦ IsDead | Some x ↦ place_in x path ]

place_in-with_part : (v : ValueTree) (step : ℕ) (p new : ValueTree) (path : List ℕ) → part_of v step ≡ Some p → place_in (with_part v step new) (step ∷ path) ≡ through (part_of (with_part v step new) step) path
place_in-with_part (tree.PartsValue parts) step p new path h = refl
place_in-with_part (tree.OptionalValue (tree.TheValue x)) step p new path h = refl
place_in-with_part (tree.PayloadValue x) step p new path h = refl
place_in-with_part (tree.TagValue field (tree.TheValue x)) step p new path h = refl
place_in-with_part _ step p new path h = cc

same_value : (x y : ValueTree) → Some x ≡ Some y → x ≡ y
same_value x y h = cc

pub place_of_written : (v new w : ValueTree) (path : List ℕ) → written_at v path new ≡ Some w → place_in w path ≡ place_in new []
place_of_written v new w [] h = ap (λ (x : ValueTree). place_in x []) (sym (same_value new w h))
place_of_written v new w (step ∷ path) h = at (part_of v step) refl h (λ part x. place_of_written part new x path)
  where
    inside : (part : ValueTree) → part_of v step ≡ Some part → (o : Option ValueTree) → option_map (λ written. with_part v step written) o ≡ Some w → ((x : ValueTree) → o ≡ Some x → place_in x path ≡ place_in new []) → place_in w (step ∷ path) ≡ place_in new []
    inside part e None h each = cc
    inside part e (Some x) h each =
        ap (λ (y : ValueTree). place_in y (step ∷ path)) (sym (same_value (with_part v step x) w h))
        ∙ place_in-with_part v step part x path e
        ∙ ap (λ (o : Option ValueTree). through o path) (part_of-with_part v step part x e)
        ∙ each x refl

    at : (o : Option ValueTree) → part_of v step ≡ o → option_and_then (λ part. option_map (λ written. with_part v step written) (written_at part path new)) o ≡ Some w → ((part x : ValueTree) → written_at part path new ≡ Some x → place_in x path ≡ place_in new []) → place_in w (step ∷ path) ≡ place_in new []
    at None e h each = cc
    at (Some part) e h each = inside part e (written_at part path new) h (each part)

same_store : (a b : Store) → Some a ≡ Some b → a ≡ b
same_store a b h = cc

abbrev pub with_value : Object → ValueTree → Object
with_value object value = record object { value = value }

-- the store after: the object has the value in which the new one was written
pub saved_is : (store after : Store) (obj : ℕ) (path : List ℕ) (new : ValueTree) (object : Object) → slice_get store obj ≡ Some object → saved store obj path new ≡ Some after → (w : ValueTree) × (written_at object.value path new ≡ Some w) × (after ≡ slice_set store obj (with_value object w))
saved_is store after obj path new object e h = at (written_at object.value path new) refl (sym (ap (option_and_then (λ (o : Object). option_map (λ value. slice_set store obj (with_value o value)) (written_at o.value path new))) e) ∙ h)
  where
    at : (o : Option ValueTree) → written_at object.value path new ≡ o → option_map (λ value. slice_set store obj (with_value object value)) o ≡ Some after → (w : ValueTree) × (written_at object.value path new ≡ Some w) × (after ≡ slice_set store obj (with_value object w))
    at None is k = cc
    at (Some w) is k = (w, is, sym (same_store (slice_set store obj (with_value object w)) after k))

pub saved_in_place : (store after : Store) (obj : ℕ) (path : List ℕ) (new : ValueTree) (object : Object) → slice_get store obj ≡ Some object → object.live ≡ true → saved store obj path new ≡ Some after → place_of after obj path ≡ place_in new []
saved_in_place store after obj path new object e live h =
    let is = saved_is store after obj path new object e h in
    let w = is.0 in
    let there : slice_get after obj ≡ Some (with_value object w) =
    ap (λ (s : Store). slice_get s obj) is.2 ∙ slice_get_set store obj (with_value object w) (slice_get_within store obj object e) in
    ap (λ (o : Option Object). let p : Place = elim o [ None ↦ IsDead | Some x ↦ if x.live then place_in x.value path else IsDead ] in p) there
    ∙ ap (λ (b : Bool). if b then place_in w path else IsDead) live
    ∙ place_of_written object.value new w path is.1

pub others_stay : (store after : Store) (obj other : ℕ) (path : List ℕ) (new : ValueTree) → obj ≢ other → saved store obj path new ≡ Some after → slice_get after other ≡ slice_get store other
others_stay store after obj other path new apart h = at (slice_get store obj) refl
  where
    at : (o : Option Object) → slice_get store obj ≡ o → slice_get after other ≡ slice_get store other
    at None e = let none : saved store obj path new ≡ None = ap (option_and_then (λ (o : Object). option_map (λ value. slice_set store obj (with_value o value)) (written_at o.value path new))) e in cc
    at (Some object) e =
        let is = saved_is store after obj path new object e h in
        ap (λ (s : Store). slice_get s other) is.2 ∙ slice_get_set_other store obj other (with_value object is.0) apart
