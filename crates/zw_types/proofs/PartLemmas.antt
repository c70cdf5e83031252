-- The parts of the types of a table are types of the table.
use Rattle.std.specs.Prelude.{◌≡◌, refl, ℕ, ◌<◌, Bool, false, List, [], ◌∷◌, map, length, slice_get, slice_index_or, All, Option, Some, None, MatchOption}
use Rattle.std.specs.Option.{option_map, is_some}
use Rattle.std.proofs.Common.{sym, ◌∙◌, ap, subst, arith}
use Rattle.std.proofs.lemmas.Option.{slice_get_within, slice_get-get_or, get_or_from_slice_get, slice_get-map}
use Rattle.std.proofs.lemmas.List.Elements.{All-weaker}
use Rattle.zw_types.specs.declared.value.TypeId.{TypeId}
use Rattle.zw_types.specs.declared.type_form.TypeForm.{TypeForm}
use Rattle.zw_types.specs.declared.type_form.TypeForm.TheVariants as form
use Rattle.zw_types.specs.declared.type_form.FieldShape.{FieldShape}
use Rattle.zw_types.specs.declared.type_form.Shape.{Shape}
use Rattle.zw_types.specs.declared.types.Entry.{Entry}
use Rattle.zw_types.specs.TypeTrees as tree
use Rattle.zw_types.specs.TypeTrees.{TypeTree, FieldTree, ShapeTree}
use Rattle.zw_types.specs.Readings.{type_at, form_tree, field_tree, shape_tree, types_in_form, types_in_shape}
use Rattle.zw_types.specs.Tables.{TypeTable, HasShape}
use Rattle.zw_types.specs.Entries.{trees_of, table_of, shape_in, HasKnownShape, AreEntries}
use Rattle.zw_types.specs.KeptLayouts.{Kept, known_in, known_from_parts, IsKept, AreRight, IsClosed}
use Rattle.zw_types.proofs.Each.{Each, Each-from_All}
use Rattle.zw_types.proofs.EntryLemmas.{length-trees_of, form_in_entry, earlier_in_entry}
use Rattle.zw_types.proofs.KeptLemmas.{IsIn, AreIn, parts_of, PartsAreIn, known_at, parts_right}
use Rattle.zw_types.specs.declared.layout.Layout.{Layout}
use Rattle.zw_types.proofs.ShapeLemmas.{fields_each_held, tag_is_held}

-- a number of the table names a type of it
named : (t : TypeTable) (id : TypeId) → id.0 < length t.trees → IsIn t (type_at t.trees id)
named t id within = (id.0, slice_get-get_or t.trees id.0 tree.VoidType within)

form_parts : (t : TypeTable) (f : TypeForm) → Each (λ k. k < length t.trees) (types_in_form f) → Each (IsIn t) (parts_of (form_tree t.trees f))
form_parts t (form.Array len of sentinel) e = (named t of e.0, tt)
form_parts t (form.Optional of) e = (named t of e.0, tt)
form_parts t (form.ErrorUnion set payload) e = (named t payload e.1.0, tt)
form_parts t _ e = tt

field_parts : (t : TypeTable) (fields : List FieldShape) → Each (λ (f : FieldShape). f.ty.0 < length t.trees) fields → Each (λ (field : FieldTree). IsIn t field.ty) (map (field_tree t.trees) fields)
field_parts t [] e = tt
field_parts t (f ∷ fields) e = (named t f.ty e.0, field_parts t fields e.1)

tag_parts : (t : TypeTable) (o : Option TypeId) → MatchOption o (Unit {0}) (λ id. id.0 < length t.trees) → MatchOption (option_map (type_at t.trees) o) (Unit {0}) (IsIn t)
tag_parts t None h = tt
tag_parts t (Some id) h = named t id h

module _ (es : List Entry) (are : AreEntries es) where
  entry_within : (k : ℕ) → k < length (trees_of es) → k < length es
  entry_within k h = omega (arith, length-trees_of es)

  -- the entry at a number
  pub entry_type : (k : ℕ) (e : Entry) → slice_get es k ≡ Some e → (ty : TypeTree) → slice_get (trees_of es) k ≡ Some ty → form_tree (trees_of es) e.form ≡ ty
  entry_type k e is ty h =
      form_in_entry es are.earlier k e (slice_get_within es k e is) (sym (get_or_from_slice_get es k e e is))
      ∙ get_or_from_slice_get (trees_of es) k ty tree.VoidType h

  some_shape : (a b : Option ShapeTree) → Some a ≡ Some b → a ≡ b
  some_shape a b h = cc

  pub entry_shape : (k : ℕ) (e : Entry) → slice_get es k ≡ Some e → (shape : Option ShapeTree) → slice_get (table_of es []).shapes k ≡ Some shape → shape_in (trees_of es) e ≡ shape
  entry_shape k e is shape h = some_shape (shape_in (trees_of es) e) shape (sym (slice_get-map (shape_in (trees_of es)) es k ∙ ap (option_map (shape_in (trees_of es))) is) ∙ h)

  parts_in : (ty : TypeTree) → IsIn (table_of es []) ty → Each (IsIn (table_of es [])) (parts_of ty)
  parts_in ty h =
      let k = h.0 in
      let within : k < length es = entry_within k (slice_get_within (trees_of es) k ty h.1) in
      at k (slice_get es k) refl within h.1
    where
      at : (k : ℕ) (o : Option Entry) → slice_get es k ≡ o → k < length es → slice_get (trees_of es) k ≡ Some ty → Each (IsIn (table_of es [])) (parts_of ty)
      at k None is within h = absurd (nothing es k within is)
        where
          nothing : (xs : List Entry) (k : ℕ) → k < length xs → slice_get xs k ≡ None → ⊥
          nothing xs k l e = let f = slice_get-get_or xs k (record { form = form.Bool; shape = None }) l in cc
      at k (Some e) is within h =
          let earlier = earlier_in_entry es are.earlier k e within (sym (get_or_from_slice_get es k e e is)) in
          let known = Each-from_All (λ j. j < length (trees_of es)) (types_in_form e.form) (All-weaker (λ j. j < k) (λ j. j < length (trees_of es)) (λ j l. omega (arith, length-trees_of es)) (types_in_form e.form) earlier) in
          subst (λ t. Each (IsIn (table_of es [])) (parts_of t)) (entry_type k e is ty h) (form_parts (table_of es []) e.form known)

  shapes_in : (k : ℕ) (shape : ShapeTree) → slice_get (table_of es []).shapes k ≡ Some (Some shape) → AreIn (table_of es []) shape
  shapes_in k shape h = at (slice_get es k) refl
    where
      known_shape : (e : Entry) → slice_get es k ≡ Some e → HasKnownShape (length (trees_of es)) e
      known_shape e is = subst (λ n. HasKnownShape n e) (sym (length-trees_of es)) (subst (HasKnownShape (length es)) (get_or_from_slice_get es k e e is) (are.known k e (slice_get_within es k e is)))

      same_shape : (s : Shape) → Some (shape_tree (trees_of es) s) ≡ Some shape → shape_tree (trees_of es) s ≡ shape
      same_shape s e = cc

      of_shape : (o : Option Shape) → option_map (shape_tree (trees_of es)) o ≡ Some shape → MatchOption o (Unit {0}) (λ s. All (λ j. j < length (trees_of es)) (types_in_shape s)) → AreIn (table_of es []) shape
      of_shape None e known = cc
      of_shape (Some s) e known =
          subst (AreIn (table_of es [])) (same_shape s e)
          (field_parts (table_of es []) s.fields (fields_each_held (length (trees_of es)) s known), tag_parts (table_of es []) s.tag (tag_is_held (length (trees_of es)) s known))

      none_there : (o : Option Entry) → o ≡ None → option_map (shape_in (trees_of es)) o ≡ Some (Some shape) → ⊥
      none_there None e g = cc
      none_there (Some x) e g = cc

      at : (o : Option Entry) → slice_get es k ≡ o → AreIn (table_of es []) shape
      at None is = absurd (none_there (slice_get es k) is (sym (slice_get-map (shape_in (trees_of es)) es k) ∙ h))
      at (Some e) is = of_shape e.shape (entry_shape k e is (Some shape) h) (known_shape e is)

  pub entries_parts : PartsAreIn (table_of es [])
  entries_parts = (parts_in, shapes_in)

  -- what holds of each entry holds of the table
  pub entries_closed : (kept : List Kept) → ((k : ℕ) (e : Entry) → slice_get es k ≡ Some e → slice_get kept k ≡ Some None → known_from_parts (known_in (trees_of es) kept) (shape_in (trees_of es) e) (form_tree (trees_of es) e.form) ≡ None) → IsClosed (table_of es []) kept
  entries_closed kept each k ty shape ty_is shape_is none = at (slice_get es k) refl
    where
      none_there : (o : Option Entry) → o ≡ None → option_map (shape_in (trees_of es)) o ≡ Some shape → ⊥
      none_there None e g = cc
      none_there (Some x) e g = cc

      at : (o : Option Entry) → slice_get es k ≡ o → known_from_parts (known_in (trees_of es) kept) shape ty ≡ None
      at None is = absurd (none_there (slice_get es k) is (sym (slice_get-map (shape_in (trees_of es)) es k) ∙ shape_is))
      at (Some e) is =
          (λ i. known_from_parts (known_in (trees_of es) kept) (sym (entry_shape k e is shape shape_is) i) (sym (entry_type k e is ty ty_is) i))
          ∙ each k e is none

  -- what is known of a type of the table is right
  known_right : (kept : List Kept) → length kept ≡ length es → AreRight (table_of es []) kept → (ty : TypeTree) (l : Option Layout) → IsIn (table_of es []) ty → known_in (trees_of es) kept ty ≡ Some l → IsKept (table_of es []) ty l
  known_right kept as_many right ty l h e =
      let k = h.0 in
      let within : k < length (trees_of es) = slice_get_within (trees_of es) k ty h.1 in
      let ty_is : slice_index_or (trees_of es) k tree.VoidType ≡ ty = get_or_from_slice_get (trees_of es) k ty tree.VoidType h.1 in
      let at = known_at (trees_of es) kept are.table.once k within in
      let there : slice_get kept k ≡ Some (Some l) = slice_get-get_or kept k None (omega (arith, as_many, length-trees_of es)) ∙ ap Some (sym at ∙ ap (known_in (trees_of es) kept) ty_is ∙ e) in
      subst (λ t. IsKept (table_of es []) t l) ty_is (right k l there)

  -- what comes to be known of an entry is right
  pub entry_right : (kept : List Kept) → length kept ≡ length es → AreRight (table_of es []) kept → (k : ℕ) (e : Entry) → slice_get es k ≡ Some e → (r : Option Layout) → known_from_parts (known_in (trees_of es) kept) (shape_in (trees_of es) e) (form_tree (trees_of es) e.form) ≡ Some r → IsKept (table_of es []) (slice_index_or (trees_of es) k tree.VoidType) r
  entry_right kept as_many right k e is r h =
      let within : k < length (trees_of es) = omega (arith, slice_get_within es k e is, length-trees_of es) in
      let ty = slice_index_or (trees_of es) k tree.VoidType in
      let ty_there = slice_get-get_or (trees_of es) k tree.VoidType within in
      let ty_is : form_tree (trees_of es) e.form ≡ ty = entry_type k e is ty ty_there in
      parts_right (table_of es []) (known_in (trees_of es) kept) (known_right kept as_many right) ty (shape_in (trees_of es) e) (parts_in ty (k, ty_there)) (has (shape_in (trees_of es) e) ty ty_there refl) r
      (ap (known_from_parts (known_in (trees_of es) kept) (shape_in (trees_of es) e)) (sym ty_is) ∙ h)
    where
      has : (o : Option ShapeTree) (ty : TypeTree) → slice_get (trees_of es) k ≡ Some ty → shape_in (trees_of es) e ≡ o → MatchOption o (Unit {0}) (λ s. HasShape (table_of es []) ty s × AreIn (table_of es []) s)
      has None ty there same = tt
      has (Some s) ty there same =
          let shape : slice_get (table_of es []).shapes k ≡ Some (Some s) = slice_get-map (shape_in (trees_of es)) es k ∙ ap (option_map (shape_in (trees_of es))) is ∙ ap Some same in
          ((k, there, shape), shapes_in k s shape)

  -- an entry at a place, by what is known of it
  pub entry_tells : (kept : List Kept) → length kept ≡ length es → AreRight (table_of es []) kept → (k : ℕ) (e : Entry) → slice_get es k ≡ Some e → slice_get kept k ≡ Some None → (o : Kept) → o ≡ known_from_parts (known_in (trees_of es) kept) (shape_in (trees_of es) e) (form_tree (trees_of es) e.form) → MatchOption o ((x : Entry) → slice_get es k ≡ Some x → slice_get kept k ≡ Some None → known_from_parts (known_in (trees_of es) kept) (shape_in (trees_of es) x) (form_tree (trees_of es) x.form) ≡ None) (λ layout. (slice_get kept k ≡ Some None) × IsKept (table_of es []) (slice_index_or (trees_of es) k tree.VoidType) layout)
  entry_tells kept as_many right k e is none None h = λ x x_is _. subst (λ (y : Entry). known_from_parts (known_in (trees_of es) kept) (shape_in (trees_of es) y) (form_tree (trees_of es) y.form) ≡ None) (same_entry e x (sym is ∙ x_is)) (sym h)
    where
      same_entry : (a b : Entry) → Some a ≡ Some b → a ≡ b
      same_entry a b e = cc
  entry_tells kept as_many right k e is none (Some l) h = (none, entry_right kept as_many right k e is l (sym h))

pub is_unknown : (kept : List Kept) (k : ℕ) → k < length kept → (b : Bool) → b ≡ is_some (slice_index_or kept k None) → b ≡ false → slice_get kept k ≡ Some None
is_unknown kept k within b is f = slice_get-get_or kept k None within ∙ ap Some (at (slice_index_or kept k None) (sym is ∙ f))
  where
    at : (o : Kept) → is_some o ≡ false → o ≡ None
    at None e = refl
    at (Some l) e = cc
