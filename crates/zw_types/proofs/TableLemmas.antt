-- Tables that get another type, or the fields of a container.
use Rattle.std.specs.Prelude.{◌≡◌, ◌≢◌, ℕ, ◌+◌, ◌<◌, ◌≤◌, ◌^◌, List, [], ◌∷◌, ◌++◌, length, map, slice_get, slice_index_or, slice_set, All, Contains, Option, Some, None, MatchOption, refl, IsTrue}
use Rattle.std.specs.Option.{option_map}
use Rattle.std.proofs.Common.{sym, ◌∙◌, ap, subst, arith, inl, inr}
use Rattle.std.proofs.lemmas.List.{get_or_append_left, get_or_default, get_or-map, length-set, map-append, map-set, set-get_or, length_push}
use Rattle.std.proofs.lemmas.List.Elements.{All-weaker, All-push, All-set}
use Rattle.std.proofs.lemmas.List.Quantifiers.{all_pairs_push}
use Rattle.std.proofs.Math.Decide.{ℕ_discrete}
use Rattle.std.proofs.lemmas.Option.{slice_get_within, slice_get-map, slice_get-get_or, get_or_from_slice_get}
use Rattle.zw_types.specs.declared.type_form.TypeForm.{TypeForm}
use Rattle.zw_types.specs.declared.type_form.Shape.{Shape}
use Rattle.zw_types.specs.declared.types.Entry.{Entry}
use Rattle.zw_types.specs.TypeTrees as tree
use Rattle.zw_types.specs.TypeTrees.{TypeTree, ShapeTree, is_container}
use Rattle.zw_types.specs.Readings.{form_tree, shape_tree, trees_from, types_in_form, types_in_shape}
use Rattle.zw_types.specs.Tables.{TypeTable, IsTable, IsFormed, IsInterned, IsOpen, IsShapeOf, IsTagOf, Keeps, names_of, resolved}
use Rattle.zw_types.specs.Entries.{MentionEarlier, forms_of, trees_of, shape_in, table_of, HasKnownShape, AreEntries}
use Rattle.zw_types.proofs.Each.{Each, Each-weaker, Each-from_All}
use Rattle.zw_types.proofs.Agreement.{Same, shape_agrees}
use Rattle.zw_types.proofs.ListLemmas.{one_place, slice_get_append_left, slice_get_push, slice_get_push_cases, slice_get_set, slice_get_set_other}
use Rattle.zw_types.proofs.EntryLemmas.{trees_from-append, length-trees_of, length-forms, trees_of-at, form_in_entry, MentionEarlier-at, MentionEarlier-push}
use Rattle.zw_types.proofs.Forms.{one_form}

-- ---- a table that keeps the types and the fields of another one

module _ (old new : TypeTable) (trees : (k : ℕ) (ty : TypeTree) → slice_get old.trees k ≡ Some ty → slice_get new.trees k ≡ Some ty) (shapes : (k : ℕ) (s : ShapeTree) → slice_get old.shapes k ≡ Some (Some s) → slice_get new.shapes k ≡ Some (Some s)) where
  tag_kept : (names : List (List ℕ)) (ty : TypeTree) → IsTagOf old names ty → IsTagOf new names ty
  tag_kept names (tree.EnumType file node captures) h = (h.0, (h.1.0, trees h.1.0 (tree.EnumType file node captures) h.1.1, shapes h.1.0 h.0 h.1.2), h.2)
  tag_kept names _ h = absurd h

  choice_kept : (names : List (List ℕ)) (tag : Option TypeTree) → MatchOption tag (Unit {0}) (IsTagOf old names) → MatchOption tag (Unit {0}) (IsTagOf new names)
  choice_kept names None h = tt
  choice_kept names (Some ty) h = tag_kept names ty h

  -- what fits a container fits it still
  pub fits_still : (ty : TypeTree) (s : ShapeTree) → IsShapeOf old ty s → IsShapeOf new ty s
  fits_still (tree.StructType file node captures) s h = h
  fits_still (tree.EnumType file node captures) s h = h
  fits_still (tree.UnionType file node captures) s h = (h.0, h.1, choice_kept (names_of s) s.tag h.2)
  fits_still _ s h = absurd h

-- fields fit containers alone
pub fits_container : (t : TypeTable) (ty : TypeTree) (s : ShapeTree) → IsShapeOf t ty s → IsTrue (is_container ty)
fits_container t (tree.StructType file node captures) s h = refl
fits_container t (tree.EnumType file node captures) s h = refl
fits_container t (tree.UnionType file node captures) s h = refl
fits_container t _ s h = absurd h

-- whether fields fit has nothing to do with errors
pub with_errors : (es : List Entry) (some others : List (List ℕ)) (ty : TypeTree) (s : ShapeTree) → IsShapeOf (table_of es some) ty s → IsShapeOf (table_of es others) ty s
with_errors es some others = fits_still (table_of es some) (table_of es others) (λ k ty h. h) (λ k s h. h)

pub IsTable-with_errors : (es : List Entry) (some others : List (List ℕ)) → IsTable (table_of es some) → IsTable (table_of es others)
IsTable-with_errors es some others is = record {
  once = is.once;
  formed = is.formed;
  as_many = is.as_many;
  fitting = λ k s h. with_errors es some others (slice_index_or (trees_of es) k tree.VoidType) s (is.fitting k s h);
}

-- the table with one more type
abbrev pub pushed : TypeTable → TypeTree → TypeTable
pushed t ty = record { trees = t.trees ++ ty ∷ []; shapes = t.shapes ++ None ∷ []; errors = t.errors }

pub Keeps-itself : (t : TypeTable) → Keeps t t
Keeps-itself t = record { trees = λ k ty h. h; shapes = λ k s h. h; errors = λ k n h. h }

pub Keeps-pushed : (t : TypeTable) (ty : TypeTree) → Keeps t (pushed t ty)
Keeps-pushed t ty = record {
  trees = λ k x h. slice_get_append_left t.trees (ty ∷ []) k x h;
  shapes = λ k s h. slice_get_append_left t.shapes (None ∷ []) k (Some s) h;
  errors = λ k n h. h;
}

pub IsInterned-pushed : (t : TypeTable) (ty : TypeTree) → (¬ Contains t.trees ty) → IsInterned t (pushed t ty) ty (length t.trees)
IsInterned-pushed t ty fresh = record { named = slice_get_push t.trees ty; grown = inr (fresh, refl) }

pub IsTable-pushed : (t : TypeTable) (ty : TypeTree) → IsTable t → IsFormed ty → (¬ Contains t.trees ty) → IsTable (pushed t ty)
IsTable-pushed t ty is formed fresh = record {
  once = all_pairs_push (λ a b. a ≢ b) t.trees ty is.once (λ k d l e. fresh (k, l, get_or_default t.trees k ty d l ∙ e));
  formed = All-push IsFormed t.trees ty is.formed formed;
  as_many = omega (arith, is.as_many, length_push t.shapes None, length_push t.trees ty);
  fitting = λ k s h. elim (slice_get_push_cases t.shapes None (Some s) k h) [
    | inl e ↦
        let keeps = Keeps-pushed t ty in
        subst (λ x. IsShapeOf (pushed t ty) x s) (sym (get_or_append_left t.trees (ty ∷ []) tree.VoidType k (omega (arith, is.as_many, slice_get_within t.shapes k (Some s) e))))
        (fits_still t (pushed t ty) keeps.trees keeps.shapes (slice_index_or t.trees k tree.VoidType) s (is.fitting k s e))
    | inr e ↦ absurd (none_is_not_some s e.1)
  ];
}
  where
    none_is_not_some : (s : ShapeTree) → None ≡ Some s → ⊥
    none_is_not_some s e = cc

-- ---- entries that get one more

shape_stays : (ts us : List TypeTree) (o : Option Shape) → MatchOption o (Unit {0}) (λ s. All (λ k. k < length ts) (types_in_shape s)) → option_map (shape_tree (ts ++ us)) o ≡ option_map (shape_tree ts) o
shape_stays ts us None h = refl
shape_stays ts us (Some s) h =
    ap Some (shape_agrees (ts ++ us) ts s (Each-weaker (λ k. k < length ts) (Same (ts ++ us) ts) (λ k l. get_or_append_left ts us tree.VoidType k l) (types_in_shape s) (Each-from_All (λ k. k < length ts) (types_in_shape s) h)))

shapes_stay : (ts us : List TypeTree) (es : List Entry) → Each (HasKnownShape (length ts)) es → map (shape_in (ts ++ us)) es ≡ map (shape_in ts) es
shapes_stay ts us [] h = refl
shapes_stay ts us (e ∷ es) h = λ i. shape_stays ts us e.shape h.0 i ∷ shapes_stay ts us es h.1 i

trees_of-push : (es : List Entry) (e : Entry) → trees_of (es ++ e ∷ []) ≡ trees_of es ++ form_tree (trees_of es) e.form ∷ []
trees_of-push es e = ap (trees_from []) (map-append (λ (e : Entry). e.form) es (e ∷ [])) ∙ trees_from-append [] (forms_of es) (e.form ∷ [])

pub table_of-push : (es : List Entry) (errors : List (List ℕ)) (f : TypeForm) → All (HasKnownShape (length es)) es → table_of (es ++ record { form = f; shape = None } ∷ []) errors ≡ pushed (table_of es errors) (form_tree (trees_of es) f)
table_of-push es errors f known =
    let e : Entry = record { form = f; shape = None } in
    let ts = trees_of es in
    let t = form_tree ts f in
    let trees = trees_of-push es e in
    let each : Each (HasKnownShape (length ts)) es = subst (λ n. Each (HasKnownShape n) es) (sym (length-trees_of es)) (Each-from_All (HasKnownShape (length es)) es known) in
    let shapes : map (shape_in (trees_of (es ++ e ∷ []))) (es ++ e ∷ []) ≡ map (shape_in ts) es ++ None ∷ [] =
    ap (λ us. map (shape_in us) (es ++ e ∷ [])) trees
    ∙ map-append (shape_in (ts ++ t ∷ [])) es (e ∷ [])
    ∙ ap (λ l. l ++ None ∷ []) (shapes_stay ts (t ∷ []) es each) in
    λ i. record { trees = trees i; shapes = shapes i; errors = errors }

pub AreEntries-push : (es : List Entry) (f : TypeForm) → AreEntries es → length es < 2 ^ 32 → All (λ k. k < length es) (types_in_form f) → IsFormed (form_tree (trees_of es) f) → (¬ Contains (trees_of es) (form_tree (trees_of es) f)) → AreEntries (es ++ record { form = f; shape = None } ∷ [])
AreEntries-push es f are few known formed fresh =
    let e : Entry = record { form = f; shape = None } in
    record {
      earlier = subst (MentionEarlier 0) (sym (map-append (λ (e : Entry). e.form) es (e ∷ []))) (MentionEarlier-push 0 (forms_of es) f are.earlier (All-weaker (λ k. k < length es) (λ k. k < 0 + length (forms_of es)) (λ k l. omega (arith, length-forms es)) (types_in_form f) known));
      known = All-push (HasKnownShape (length (es ++ e ∷ []))) es e (All-weaker (HasKnownShape (length es)) (HasKnownShape (length (es ++ e ∷ []))) (λ x h. weaker (length es) (length (es ++ e ∷ [])) (omega (arith, length_push es e)) x.shape h) es are.known) tt;
      table = subst IsTable (sym (table_of-push es [] f are.known)) (IsTable-pushed (table_of es []) (form_tree (trees_of es) f) are.table formed fresh);
      few = omega (arith, length_push es e);
    }
  where
    weaker : (m n : ℕ) → m ≤ n → (o : Option Shape) → MatchOption o (Unit {0}) (λ s. All (λ k. k < m) (types_in_shape s)) → MatchOption o (Unit {0}) (λ s. All (λ k. k < n) (types_in_shape s))
    weaker m n l None h = tt
    weaker m n l (Some s) h = All-weaker (λ k. k < m) (λ k. k < n) (λ k g. omega arith) (types_in_shape s) h

-- ---- a form that is searched among the entries

pub fresh_tree : (es : List Entry) (f : TypeForm) → AreEntries es → All (λ k. k < length es) (types_in_form f) → (¬ Contains (forms_of es) f) → ¬ Contains (trees_of es) (form_tree (trees_of es) f)
fresh_tree es f are known fresh x =
    let ts = trees_of es in
    let k = x.0 in
    let as_many = length-trees_of es in
    let within : k < length es = omega (arith, x.1) in
    let g : TypeForm = slice_index_or (forms_of es) k f in
    let same : form_tree ts g ≡ form_tree ts f =
    sym (trees_of-at es are.earlier k f within) ∙ get_or_default ts k tree.VoidType (form_tree ts f) x.1 ∙ x.2 in
    let g_known = Each-from_All (λ j. j < length ts) (types_in_form g) (All-weaker (λ j. j < 0 + k) (λ j. j < length ts) (λ j l. omega arith) (types_in_form g) (MentionEarlier-at 0 (forms_of es) are.earlier k f (omega (arith, length-forms es)))) in
    let f_known = Each-from_All (λ j. j < length ts) (types_in_form f) (All-weaker (λ j. j < length es) (λ j. j < length ts) (λ j l. omega arith) (types_in_form f) known) in
    let once = one_place ts tree.VoidType are.table.once in
    fresh (k, omega (arith, length-forms es), one_form ts once g f g_known f_known same)

pub named_tree : (es : List Entry) (f : TypeForm) → AreEntries es → (n : ℕ) → slice_get (forms_of es) n ≡ Some f → slice_get (trees_of es) n ≡ Some (form_tree (trees_of es) f)
named_tree es f are n h =
    let ts = trees_of es in
    let as_many = length-trees_of es in
    let within : n < length es = omega (arith, slice_get_within (forms_of es) n f h, length-forms es) in
    slice_get-get_or ts n tree.VoidType (omega arith)
    ∙ ap Some (trees_of-at es are.earlier n f within ∙ ap (form_tree ts) (get_or_from_slice_get (forms_of es) n f f h))

-- ---- a container that gets its fields

open_and_resolved : (t : TypeTable) (k : ℕ) (s : ShapeTree) → slice_get t.shapes k ≡ Some None → slice_get t.shapes k ≡ Some (Some s) → ⊥
open_and_resolved t k s a b = cc

pub Keeps-resolved : (t : TypeTable) (k : ℕ) (s : ShapeTree) → IsOpen t k → Keeps t (resolved t k s)
Keeps-resolved t k s is_open = record {
  trees = λ j x h. h;
  shapes = λ j x h. slice_get_set_other t.shapes k j (Some s) (λ e. open_and_resolved t k x is_open.1 (subst (λ n. slice_get t.shapes n ≡ Some (Some x)) (sym e) h)) ∙ h;
  errors = λ j n h. h;
}

pub IsTable-resolved : (t : TypeTable) (k : ℕ) (s : ShapeTree) → IsTable t → IsOpen t k → IsShapeOf t (slice_index_or t.trees k tree.VoidType) s → IsTable (resolved t k s)
IsTable-resolved t k s is is_open fits = record {
  once = is.once;
  formed = is.formed;
  as_many = length-set t.shapes k (Some s) ∙ is.as_many;
  fitting = λ j x h. elim (ℕ_discrete k j) [
    | yes e ↦
        let here : slice_get (slice_set t.shapes k (Some s)) k ≡ Some (Some x) = subst (λ n. slice_get (slice_set t.shapes k (Some s)) n ≡ Some (Some x)) (sym e) h in
        let same : s ≡ x = one_shape s x (sym (slice_get_set t.shapes k (Some s) (slice_get_within t.shapes k None is_open.1)) ∙ here) in
        subst (λ n. IsShapeOf (resolved t k s) (slice_index_or t.trees n tree.VoidType) x) e
        (subst (λ y. IsShapeOf (resolved t k s) (slice_index_or t.trees k tree.VoidType) y) same (still (slice_index_or t.trees k tree.VoidType) s fits))
    | no n ↦ still (slice_index_or t.trees j tree.VoidType) x (is.fitting j x (sym (slice_get_set_other t.shapes k j (Some s) n) ∙ h))
  ];
}
  where
    still : (ty : TypeTree) (x : ShapeTree) → IsShapeOf t ty x → IsShapeOf (resolved t k s) ty x
    still = let keeps = Keeps-resolved t k s is_open in fits_still t (resolved t k s) keeps.trees keeps.shapes

    one_shape : (x y : ShapeTree) → Some (Some x) ≡ Some (Some y) → x ≡ y
    one_shape x y e = cc

-- an entry that gets its fields
abbrev pub with_shape : Entry → Shape → Entry
with_shape e s = record { form = e.form; shape = Some s }

module _ (es : List Entry) (k : ℕ) (e : Entry) (within : k < length es) (is : e ≡ slice_index_or es k e) where
  form_at : slice_index_or (forms_of es) k e.form ≡ e.form
  form_at = get_or-map (λ (e : Entry). e.form) es k e e.form within ∙ sym (ap (λ (e : Entry). e.form) is)

  forms_of-set : (s : Shape) → forms_of (slice_set es k (with_shape e s)) ≡ forms_of es
  forms_of-set s =
      map-set (λ (e : Entry). e.form) es k (with_shape e s)
      ∙ ap (λ f. slice_set (forms_of es) k f) (sym form_at)
      ∙ set-get_or (forms_of es) k e.form

  pub table_of-set : (errors : List (List ℕ)) (s : Shape) → table_of (slice_set es k (with_shape e s)) errors ≡ resolved (table_of es errors) k (shape_tree (trees_of es) s)
  table_of-set errors s =
      let trees : trees_of (slice_set es k (with_shape e s)) ≡ trees_of es = ap (trees_from []) (forms_of-set s) in
      let shapes : map (shape_in (trees_of (slice_set es k (with_shape e s)))) (slice_set es k (with_shape e s)) ≡ slice_set (map (shape_in (trees_of es)) es) k (Some (shape_tree (trees_of es) s)) =
      ap (λ ts. map (shape_in ts) (slice_set es k (with_shape e s))) trees ∙ map-set (shape_in (trees_of es)) es k (with_shape e s) in
      λ i. record { trees = trees i; shapes = shapes i; errors = errors }

  pub AreEntries-set : (s : Shape) → AreEntries es → IsOpen (table_of es []) k → All (λ j. j < length es) (types_in_shape s) → IsShapeOf (table_of es []) (slice_index_or (trees_of es) k tree.VoidType) (shape_tree (trees_of es) s) → AreEntries (slice_set es k (with_shape e s))
  AreEntries-set s are is_open known fits =
      let as_many : length (slice_set es k (with_shape e s)) ≡ length es = length-set es k (with_shape e s) in
      record {
        earlier = subst (MentionEarlier 0) (sym (forms_of-set s)) are.earlier;
        known = subst (λ n. All (HasKnownShape n) (slice_set es k (with_shape e s))) (sym as_many) (All-set (HasKnownShape (length es)) es k (with_shape e s) known are.known);
        table = subst IsTable (sym (table_of-set [] s)) (IsTable-resolved (table_of es []) k (shape_tree (trees_of es) s) are.table is_open fits);
        few = omega (arith, are.few);
      }

  shape_at : (errors : List (List ℕ)) → slice_get (table_of es errors).shapes k ≡ Some (shape_in (trees_of es) e)
  shape_at errors =
      slice_get-map (shape_in (trees_of es)) es k
      ∙ ap (option_map (shape_in (trees_of es))) (slice_get-get_or es k e within ∙ ap Some (sym is))

  -- the fields of the entry fit it
  pub entry_fits : (errors : List (List ℕ)) → AreEntries es → (s : Shape) → e.shape ≡ Some s → IsShapeOf (table_of es errors) (slice_index_or (trees_of es) k tree.VoidType) (shape_tree (trees_of es) s)
  entry_fits errors are s h =
      with_errors es [] errors (slice_index_or (trees_of es) k tree.VoidType) (shape_tree (trees_of es) s)
      (are.table.fitting k (shape_tree (trees_of es) s) (shape_at [] ∙ ap (λ (o : Option Shape). Some (option_map (shape_tree (trees_of es)) o)) h))

  -- the entry is a container without fields
  pub open_from_entry : (errors : List (List ℕ)) → AreEntries es → IsTrue (is_container (form_tree (trees_of es) e.form)) → e.shape ≡ None → IsOpen (table_of es errors) k
  open_from_entry errors are container none = (
    subst (λ t. IsTrue (is_container t)) (form_in_entry es are.earlier k e within is) container,
    shape_at errors ∙ ap (λ (o : Option Shape). Some (option_map (shape_tree (trees_of es)) o)) none,
  )

  pub entry_from_open : (errors : List (List ℕ)) → AreEntries es → IsOpen (table_of es errors) k → IsTrue (is_container (form_tree (trees_of es) e.form)) × (e.shape ≡ None)
  entry_from_open errors are is_open = (
    subst (λ t. IsTrue (is_container t)) (sym (form_in_entry es are.earlier k e within is)) is_open.0,
    no_shape e.shape (some_inj _ (sym (shape_at errors) ∙ is_open.1)),
  )
    where
      some_inj : (o : Option ShapeTree) → Some o ≡ Some None → o ≡ None
      some_inj o h = cc

      no_shape : (o : Option Shape) → option_map (shape_tree (trees_of es)) o ≡ None → o ≡ None
      no_shape None h = refl
      no_shape (Some s) h = cc
