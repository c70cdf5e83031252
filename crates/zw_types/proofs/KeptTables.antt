-- What a table keeps, where it gets a type or the fields of a container; and what is read of it.
use Rattle.std.specs.Prelude.{◌≡◌, refl, ℕ, ◌<◌, List, [], ◌∷◌, ◌++◌, length, slice_set, slice_index_or, Option, Some, None}
use Rattle.std.proofs.Common.{sym, ◌∙◌, ap, subst, arith}
use Rattle.std.proofs.lemmas.List.{length-set, length_push}
use Rattle.std.proofs.lemmas.Option.{slice_get_read}
use Rattle.zw_types.specs.declared.layout.Layout.{Layout}
use Rattle.zw_types.specs.declared.type_form.TypeForm.{TypeForm}
use Rattle.zw_types.specs.declared.type_form.Shape.{Shape}
use Rattle.zw_types.specs.declared.types.Entry.{Entry}
use Rattle.zw_types.specs.TypeTrees as tree
use Rattle.zw_types.specs.TypeTrees.{TypeTree}
use Rattle.zw_types.specs.Readings.{form_tree, shape_tree}
use Rattle.zw_types.specs.Tables.{TypeTable, IsOpen, resolved}
use Rattle.zw_types.specs.Entries.{trees_of, table_of, AreEntries}
use Rattle.zw_types.specs.Sizes.{IsLaidOut}
use Rattle.zw_types.specs.KeptLayouts.{Kept, IsKept, AreRight, AreKept}
use Rattle.zw_types.proofs.EntryLemmas.{length-trees_of}
use Rattle.zw_types.proofs.TableLemmas.{pushed, with_shape, Keeps-pushed, Keeps-resolved, table_of-push, table_of-set}
use Rattle.zw_types.proofs.KeptLemmas.{right_stays, right_push, layout_stays}

pub right_grown : (es : List Entry) (f : TypeForm) (kept : List Kept) → AreEntries es → AreKept (table_of es []) kept → AreRight (table_of (es ++ record { form = f; shape = None } ∷ []) []) (kept ++ None ∷ [])
right_grown es f kept are keeps =
    let old = table_of es [] in
    let ty = form_tree (trees_of es) f in
    let stays = Keeps-pushed old ty in
    let right : AreRight (pushed old ty) kept = right_stays old (pushed old ty) stays.trees stays.shapes kept keeps.as_many keeps.right in
    subst (λ (t : TypeTable). AreRight t (kept ++ None ∷ [])) (sym (table_of-push es [] f are.known)) (right_push (pushed old ty) kept right)

pub as_many_grown : (es : List Entry) (f : TypeForm) (kept : List Kept) → AreKept (table_of es []) kept → length (kept ++ None ∷ []) ≡ length (es ++ record { form = f; shape = None } ∷ [])
as_many_grown es f kept keeps =
    let e : Entry = record { form = f; shape = None } in
    omega (arith, length_push kept None, length_push es e, keeps.as_many, length-trees_of es)

pub right_resolved : (es : List Entry) (k : ℕ) (e : Entry) (s : Shape) (kept : List Kept) → k < length es → e ≡ slice_index_or es k e → IsOpen (table_of es []) k → AreKept (table_of es []) kept → AreRight (table_of (slice_set es k (with_shape e s)) []) kept
right_resolved es k e s kept within is is_open keeps =
    let old = table_of es [] in
    let shape = shape_tree (trees_of es) s in
    let stays = Keeps-resolved old k shape is_open in
    let right : AreRight (resolved old k shape) kept = right_stays old (resolved old k shape) stays.trees stays.shapes kept keeps.as_many keeps.right in
    subst (λ (t : TypeTable). AreRight t kept) (sym (table_of-set es k e within is [] s)) right

pub as_many_resolved : (es : List Entry) (k : ℕ) (e : Entry) (s : Shape) (kept : List Kept) → AreKept (table_of es []) kept → length kept ≡ length (slice_set es k (with_shape e s))
as_many_resolved es k e s kept keeps = keeps.as_many ∙ length-trees_of es ∙ sym (length-set es k (with_shape e s))

-- what is kept, read
pub kept_is : (es : List Entry) (errors : List (List ℕ)) (kept : List Kept) → AreKept (table_of es []) kept → (k : ℕ) → k < length es → (o : Kept) → o ≡ slice_index_or kept k o → (l : Option Layout) → o ≡ Some l → IsKept (table_of es errors) (slice_index_or (trees_of es) k tree.VoidType) l
kept_is es errors kept keeps k within o is l e =
    let there = slice_get_read kept (length kept) k o refl (omega (arith, keeps.as_many, length-trees_of es)) is in
    let right = keeps.right k l (there ∙ ap Some e) in
    (right.0, layout_stays (table_of es []) (table_of es errors) (λ k ty h. h) (λ k s h. h) (slice_index_or (trees_of es) k tree.VoidType) right.0 right.1, right.2)

pub none_kept_is : (es : List Entry) (errors : List (List ℕ)) (kept : List Kept) → AreKept (table_of es []) kept → (k : ℕ) → k < length es → (o : Kept) → o ≡ slice_index_or kept k o → o ≡ None → IsLaidOut (table_of es errors) (slice_index_or (trees_of es) k tree.VoidType) → ⊥
none_kept_is es errors kept keeps k within o is e laid =
    let there = slice_get_read kept (length kept) k o refl (omega (arith, keeps.as_many, length-trees_of es)) is in
    keeps.whole k laid.0 (layout_stays (table_of es errors) (table_of es []) (λ k ty h. h) (λ k s h. h) (slice_index_or (trees_of es) k tree.VoidType) laid.0 laid.1) (there ∙ ap Some e)
