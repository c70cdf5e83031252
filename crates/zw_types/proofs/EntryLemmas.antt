-- The types that a list of forms stands for.
use Rattle.std.specs.Prelude.{◌≡◌, ℕ, zero, suc, ◌+◌, ◌<◌, List, [], ◌∷◌, ◌++◌, length, slice_index_or, All, refl}
use Rattle.std.proofs.Common.{sym, ◌∙◌, ap, subst, arith}
use Rattle.std.proofs.lemmas.List.{get_or_append_left, get_or_at, length-append, get_or-map}
use Rattle.std.proofs.lemmas.List.Elements.{All-weaker}
use Rattle.zw_types.specs.declared.type_form.TypeForm.{TypeForm}
use Rattle.zw_types.specs.TypeTrees as tree
use Rattle.zw_types.specs.TypeTrees.{TypeTree}
use Rattle.zw_types.specs.Readings.{form_tree, trees_from, types_in_form}
use Rattle.zw_types.specs.declared.types.Entry.{Entry}
use Rattle.zw_types.specs.Entries.{MentionEarlier, forms_of, trees_of}
use Rattle.zw_types.proofs.Each.{Each-weaker, Each-from_All}
use Rattle.zw_types.proofs.Agreement.{Same, form_agrees}

pub trees_from-append : (known : List TypeTree) (fs gs : List TypeForm) → trees_from known (fs ++ gs) ≡ trees_from (trees_from known fs) gs
trees_from-append known [] gs = refl
trees_from-append known (f ∷ fs) gs = trees_from-append (known ++ form_tree known f ∷ []) fs gs

pub length-trees_from : (known : List TypeTree) (fs : List TypeForm) → length (trees_from known fs) ≡ length known + length fs
length-trees_from known [] = omega arith
length-trees_from known (f ∷ fs) = omega (arith, length-trees_from (known ++ form_tree known f ∷ []) fs, length-append known (form_tree known f ∷ []))

-- what is known stays
pub trees_from-known : (known : List TypeTree) (fs : List TypeForm) (k : ℕ) → k < length known → slice_index_or (trees_from known fs) k tree.VoidType ≡ slice_index_or known k tree.VoidType
trees_from-known known [] k h = refl
trees_from-known known (f ∷ fs) k h =
    trees_from-known (known ++ form_tree known f ∷ []) fs k (omega (arith, length-append known (form_tree known f ∷ [])))
    ∙ get_or_append_left known (form_tree known f ∷ []) tree.VoidType k h

pub trees_from-at : (known : List TypeTree) (fs : List TypeForm) → MentionEarlier (length known) fs → (k : ℕ) (d : TypeForm) → k < length fs → slice_index_or (trees_from known fs) (length known + k) tree.VoidType ≡ form_tree (trees_from known fs) (slice_index_or fs k d)
trees_from-at known [] e k d h = absurd (omega arith)
trees_from-at known (f ∷ fs) e zero d h =
    let next = known ++ form_tree known f ∷ [] in
    let whole = trees_from next fs in
    let grown : length next ≡ length known + 1 = omega (arith, length-append known (form_tree known f ∷ [])) in
    let same : (j : ℕ) → j < length known → Same known whole j =
    λ j l. sym (get_or_append_left known (form_tree known f ∷ []) tree.VoidType j l) ∙ sym (trees_from-known next fs j (omega arith)) in
    let here : slice_index_or whole (length known + 0) tree.VoidType ≡ slice_index_or next (length known + 0) tree.VoidType = trees_from-known next fs (length known + 0) (omega arith) in
    here ∙ get_or_at known (form_tree known f) [] tree.VoidType (length known + 0) (omega arith) ∙ form_agrees known whole f (Each-weaker (λ j. j < length known) (Same known whole) same (types_in_form f) (Each-from_All (λ j. j < length known) (types_in_form f) e.0))
trees_from-at known (f ∷ fs) e (suc k) d h =
    let next = known ++ form_tree known f ∷ [] in
    let grown : length next ≡ length known + 1 = omega (arith, length-append known (form_tree known f ∷ [])) in
    let ih = trees_from-at next fs (subst (λ n. MentionEarlier n fs) (sym grown) e.1) k d (omega arith) in
    subst (λ n. slice_index_or (trees_from next fs) n tree.VoidType ≡ form_tree (trees_from next fs) (slice_index_or fs k d)) (omega arith) ih

pub MentionEarlier-at : (n : ℕ) (fs : List TypeForm) → MentionEarlier n fs → (k : ℕ) (d : TypeForm) → k < length fs → All (λ j. j < n + k) (types_in_form (slice_index_or fs k d))
MentionEarlier-at n [] e k d h = absurd (omega arith)
MentionEarlier-at n (f ∷ fs) e zero d h = All-weaker (λ j. j < n) (λ j. j < n + 0) (λ j l. omega arith) (types_in_form f) e.0
MentionEarlier-at n (f ∷ fs) e (suc k) d h = All-weaker (λ j. j < n + 1 + k) (λ j. j < n + suc k) (λ j l. omega arith) (types_in_form (slice_index_or fs k d)) (MentionEarlier-at (n + 1) fs e.1 k d (omega arith))

pub MentionEarlier-push : (n : ℕ) (fs : List TypeForm) (f : TypeForm) → MentionEarlier n fs → All (λ j. j < n + length fs) (types_in_form f) → MentionEarlier n (fs ++ f ∷ [])
MentionEarlier-push n [] f e h = (All-weaker (λ j. j < n + 0) (λ j. j < n) (λ j l. omega arith) (types_in_form f) h, tt)
MentionEarlier-push n (g ∷ fs) f e h = (e.0, MentionEarlier-push (n + 1) fs f e.1 (All-weaker (λ j. j < n + length (g ∷ fs)) (λ j. j < n + 1 + length fs) (λ j l. omega arith) (types_in_form f) h))

-- ---- entries

pub length-forms : (es : List Entry) → length (forms_of es) ≡ length es
length-forms [] = refl
length-forms (e ∷ es) = ap suc (length-forms es)

pub length-trees_of : (es : List Entry) → length (trees_of es) ≡ length es
length-trees_of es = omega (arith, length-trees_from [] (forms_of es), length-forms es)

pub trees_of-at : (es : List Entry) → MentionEarlier 0 (forms_of es) → (k : ℕ) (d : TypeForm) → k < length es → slice_index_or (trees_of es) k tree.VoidType ≡ form_tree (trees_of es) (slice_index_or (forms_of es) k d)
trees_of-at es e k d h =
    let at = trees_from-at [] (forms_of es) e k d (omega (arith, length-forms es)) in
    subst (λ n. slice_index_or (trees_of es) n tree.VoidType ≡ form_tree (trees_of es) (slice_index_or (forms_of es) k d)) (omega arith) at

pub form_in_entry : (es : List Entry) → MentionEarlier 0 (forms_of es) → (k : ℕ) (e : Entry) → k < length es → e ≡ slice_index_or es k e → form_tree (trees_of es) e.form ≡ slice_index_or (trees_of es) k tree.VoidType
form_in_entry es h k e l is =
    let at = trees_of-at es h k e.form l in
    let same = get_or-map (λ (e : Entry). e.form) es k e e.form l in
    ap (form_tree (trees_of es)) (ap (λ (e : Entry). e.form) is ∙ sym same) ∙ sym at

pub earlier_in_entry : (es : List Entry) → MentionEarlier 0 (forms_of es) → (k : ℕ) (e : Entry) → k < length es → e ≡ slice_index_or es k e → All (λ j. j < k) (types_in_form e.form)
earlier_in_entry es h k e l is =
    let at = MentionEarlier-at 0 (forms_of es) h k e.form (omega (arith, length-forms es)) in
    let same = get_or-map (λ (e : Entry). e.form) es k e e.form l in
    subst (λ f. All (λ j. j < k) (types_in_form f)) (same ∙ sym (ap (λ (e : Entry). e.form) is))
    (All-weaker (λ j. j < 0 + k) (λ j. j < k) (λ j l. omega arith) (types_in_form (slice_index_or (forms_of es) k e.form)) at)
