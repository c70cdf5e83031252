-- A value and a form are found again from what they stand for, where each type has one number.
use Rattle.std.specs.Prelude.{◌≡◌, ℕ, zero, suc, ◌<◌, List, [], ◌∷◌, map, length, slice_index_or, Option, Some, None, refl}
use Rattle.std.specs.List.{concat}
use Rattle.std.specs.Option.{option_map}
use Rattle.std.proofs.Common.{sym, ◌∙◌, ap, subst, arith}
use Rattle.zw_types.specs.declared.value.TypeId.{TypeId}
use Rattle.zw_types.specs.declared.value.Value as V
use Rattle.zw_types.specs.declared.value.Value.{Value}
use Rattle.zw_types.specs.declared.value.Value.TheOpen.{Value-F}
use Rattle.zw_types.specs.declared.type_form.TypeForm.{TypeForm}
use Rattle.zw_types.specs.declared.type_form.TypeForm.TheVariants as form
use Rattle.zw_types.specs.TypeTrees as tree
use Rattle.zw_types.specs.TypeTrees.{TypeTree, TypeOption, TypeOptions, ValueTree, ValueOption, ValueTrees, values_from, types_from, type_option}
use Rattle.zw_types.specs.Readings.{type_at, value_layer, value_tree, values_tree, sentinel_tree, form_tree, types_in_layer, types_in, types_in_all, types_in_choice, number_in, types_in_form}
use Rattle.zw_types.specs.SameTypes.{same_type, place_of}
use Rattle.zw_types.proofs.Each.{Each, Each-left, Each-right}
use Rattle.zw_types.proofs.ValueInduction.{Cases, value_induction}
use Rattle.zw_types.proofs.Agreement.{value_tree-roll, types_in-roll}

-- no type stands in the list twice
abbrev pub IsOneEach : List TypeTree → Type 0
IsOneEach ts = (i j : ℕ) → i < length ts → j < length ts → slice_index_or ts i tree.VoidType ≡ slice_index_or ts j tree.VoidType → i ≡ j

-- at the place there is the type
pub place_of-at : (ts : List TypeTree) (k : ℕ) → k < length ts → (place_of (slice_index_or ts k tree.VoidType) ts < length ts) × (slice_index_or ts (place_of (slice_index_or ts k tree.VoidType) ts) tree.VoidType ≡ slice_index_or ts k tree.VoidType)
unfolding place_of
place_of-at [] k h = absurd (omega arith)
place_of-at (x ∷ xs) zero h = elim (same_type x x) as (λ d. (elim d [ yes _ ↦ zero | no _ ↦ suc (place_of x xs) ] < length (x ∷ xs)) × (slice_index_or (x ∷ xs) (elim d [ yes _ ↦ zero | no _ ↦ suc (place_of x xs) ]) tree.VoidType ≡ x)) [ yes _ ↦ (h, refl) | no n ↦ absurd (n refl) ]
place_of-at (x ∷ xs) (suc k) h =
    let t = slice_index_or xs k tree.VoidType in
    let ih = place_of-at xs k (omega arith) in
    elim (same_type t x) as (λ d. (elim d [ yes _ ↦ zero | no _ ↦ suc (place_of t xs) ] < length (x ∷ xs)) × (slice_index_or (x ∷ xs) (elim d [ yes _ ↦ zero | no _ ↦ suc (place_of t xs) ]) tree.VoidType ≡ t)) [ yes e ↦ (omega arith, sym e) | no n ↦ (omega (arith, ih.0), ih.1) ]

module _ (ts : List TypeTree) where
  abbrev id_of : TypeTree → TypeId
  id_of t = record { 0 = place_of t ts }

  abbrev mutual
    value_from : ValueTree → Value
    value_from (tree.NumberValue z) = V.roll-Value (Value-F.Number z)
    value_from (tree.TruthValue b) = V.roll-Value (Value-F.Truth b)
    value_from tree.UndefinedValue = V.roll-Value Value-F.Undefined
    value_from (tree.PartsValue vs) = V.roll-Value (Value-F.Parts (all_from vs))
    value_from (tree.OptionalValue o) = V.roll-Value (Value-F.Optional (choice_from o))
    value_from (tree.ErrorValue n) = V.roll-Value (Value-F.Error n)
    value_from (tree.PayloadValue v) = V.roll-Value (Value-F.Payload (value_from v))
    value_from (tree.TagValue n o) = V.roll-Value (Value-F.Tag n (choice_from o))
    value_from (tree.LiteralValue name) = V.roll-Value (Value-F.Literal name)
    value_from (tree.PointerValue obj path) = V.roll-Value (Value-F.Pointer obj path)
    value_from (tree.SliceValue obj path len) = V.roll-Value (Value-F.Slice obj path len)
    value_from (tree.HeldValue ty at vs) = V.roll-Value (Value-F.Held (id_of ty) at (all_from vs))
    value_from (tree.TypeValue ty) = V.roll-Value (Value-F.OfType (id_of ty))
    value_from (tree.FuncValue file node vs) = V.roll-Value (Value-F.Func file node (all_from vs))
    value_from (tree.InstanceValue n) = V.roll-Value (Value-F.Instance n)

    all_from : ValueTrees → List Value
    all_from tree.no_values = []
    all_from (tree.value_and v vs) = value_from v ∷ all_from vs

    choice_from : ValueOption → Option Value
    choice_from tree.NoValue = None
    choice_from (tree.TheValue v) = Some (value_from v)

  abbrev ids_from : TypeOption → Option TypeId
  ids_from tree.NoType = None
  ids_from (tree.TheType t) = Some (id_of t)

  abbrev all_ids_from : TypeOptions → List (Option TypeId)
  all_ids_from tree.no_types = []
  all_ids_from (tree.type_and o os) = ids_from o ∷ all_ids_from os

  abbrev form_from : TypeTree → TypeForm
  form_from (tree.IntType signed bits size) = form.Int signed bits size
  form_from tree.ComptimeIntType = form.ComptimeInt
  form_from tree.BoolType = form.Bool
  form_from tree.VoidType = form.Void
  form_from tree.NoReturnType = form.NoReturn
  form_from tree.TypeType = form.TypeType
  form_from tree.NullType = form.Null
  form_from tree.UndefinedType = form.Undefined
  form_from tree.EnumLiteralType = form.EnumLiteral
  form_from tree.AnyErrorType = form.AnyError
  form_from (tree.ErrorSetType names inferred) = form.ErrorSet names inferred
  form_from (tree.ArrayType len of sentinel) = form.Array len (id_of of) (choice_from sentinel)
  form_from (tree.PointerType many constant of) = form.Pointer many constant (id_of of)
  form_from (tree.SliceType constant of sentinel) = form.Slice constant (id_of of) (choice_from sentinel)
  form_from (tree.OptionalType of) = form.Optional (id_of of)
  form_from (tree.ErrorUnionType set payload) = form.ErrorUnion (id_of set) (id_of payload)
  form_from (tree.StructType file node captures) = form.Struct (record { file = file; node = node; captures = all_from captures })
  form_from (tree.EnumType file node captures) = form.Enum (record { file = file; node = node; captures = all_from captures })
  form_from (tree.UnionType file node captures) = form.Union (record { file = file; node = node; captures = all_from captures })
  form_from (tree.FuncType params result comptime outside) = form.Func (all_ids_from params) (ids_from result) comptime outside

  -- a number of the table
  abbrev pub Known : ℕ → Type 0
  Known k = k < length ts

  module _ (one : IsOneEach ts) where
    id_back : (id : TypeId) → Known id.0 → id_of (type_at ts id) ≡ id
    id_back id h =
        let p = place_of-at ts id.0 h in
        ap (λ (k : ℕ). let id : TypeId = record { 0 = k } in id) (one _ _ p.0 h p.1)

    abbrev Back : Value → Type 0
    Back x = Each Known (types_in x) → value_from (value_tree ts x) ≡ x

    back_each : (xs : List Value) → Each Back xs → Each Known (types_in_all xs) → all_from (values_from (map (value_tree ts) xs)) ≡ xs
    back_each [] e s = refl
    back_each (x ∷ xs) e s =
        let first = e.0 (Each-left Known (types_in x) (types_in_all xs) s) in
        let rest = back_each xs e.1 (Each-right Known (types_in x) (types_in_all xs) s) in
        cc

    by_layer : (l : Value-F Value) → (Each Known (types_in_layer (V.map-Value _ _ types_in l)) → value_from (value_layer ts (V.map-Value _ _ (value_tree ts) l)) ≡ V.roll-Value l) → Back (V.roll-Value l)
    by_layer l h s = ap value_from (value_tree-roll ts l) ∙ h (subst (Each Known) (types_in-roll l) s)

    back_cases : Cases Back
    back_cases = record {
      number = λ z. by_layer (Value-F.Number z) (λ s. refl);
      truth = λ b. by_layer (Value-F.Truth b) (λ s. refl);
      undefined = by_layer Value-F.Undefined (λ s. refl);
      parts = λ xs e. by_layer (Value-F.Parts xs) (λ s. ap (λ l. V.roll-Value (Value-F.Parts l)) (back_each xs e s));
      null = by_layer (Value-F.Optional None) (λ s. refl);
      optional = λ x e. by_layer (Value-F.Optional (Some x)) (λ s. ap (λ t. V.roll-Value (Value-F.Optional (Some t))) (e (Each-left Known (types_in x) [] s)));
      error = λ n. by_layer (Value-F.Error n) (λ s. refl);
      payload = λ x e. by_layer (Value-F.Payload x) (λ s. ap (λ t. V.roll-Value (Value-F.Payload t)) (e s));
      tag = λ n. by_layer (Value-F.Tag n None) (λ s. refl);
      «union» = λ n x e. by_layer (Value-F.Tag n (Some x)) (λ s. ap (λ t. V.roll-Value (Value-F.Tag n (Some t))) (e (Each-left Known (types_in x) [] s)));
      literal = λ name. by_layer (Value-F.Literal name) (λ s. refl);
      pointer = λ obj path. by_layer (Value-F.Pointer obj path) (λ s. refl);
      slice = λ obj path len. by_layer (Value-F.Slice obj path len) (λ s. refl);
      held = λ ty at xs e. by_layer (Value-F.Held ty at xs) (λ s. let a = id_back ty s.0 in let b = back_each xs e s.1 in cc);
      of_type = λ ty. by_layer (Value-F.OfType ty) (λ s. ap (λ t. V.roll-Value (Value-F.OfType t)) (id_back ty s.0));
      func = λ file node xs e. by_layer (Value-F.Func file node xs) (λ s. ap (λ l. V.roll-Value (Value-F.Func file node l)) (back_each xs e s));
      «instance» = λ n. by_layer (Value-F.Instance n) (λ s. refl);
    }

    pub value_back : (x : Value) → Back x
    value_back = value_induction Back back_cases

    each_back : (xs : List Value) → Each Back xs
    each_back [] = tt
    each_back (x ∷ xs) = (value_back x, each_back xs)

    values_back : (xs : List Value) → Each Known (types_in_all xs) → all_from (values_tree ts xs) ≡ xs
    values_back xs s = back_each xs (each_back xs) s

    choice_back : (x : Option Value) → Each Known (types_in_choice x) → choice_from (sentinel_tree ts x) ≡ x
    choice_back None s = refl
    choice_back (Some x) s = ap Some (value_back x (Each-left Known (types_in x) [] s))

    number_back : (o : Option TypeId) → Each Known (number_in o) → ids_from (type_option (option_map (type_at ts) o)) ≡ o
    number_back None s = refl
    number_back (Some id) s = ap Some (id_back id s.0)

    numbers_back : (os : List (Option TypeId)) → Each Known (concat (map number_in os)) → all_ids_from (types_from (map (option_map (type_at ts)) os)) ≡ os
    numbers_back [] s = refl
    numbers_back (o ∷ os) s =
        let first = number_back o (Each-left Known (number_in o) (concat (map number_in os)) s) in
        let rest = numbers_back os (Each-right Known (number_in o) (concat (map number_in os)) s) in
        cc

    pub form_back : (f : TypeForm) → Each Known (types_in_form f) → form_from (form_tree ts f) ≡ f
    form_back (form.Int signed bits size) s = refl
    form_back form.ComptimeInt s = refl
    form_back form.Bool s = refl
    form_back form.Void s = refl
    form_back form.NoReturn s = refl
    form_back form.TypeType s = refl
    form_back form.Null s = refl
    form_back form.Undefined s = refl
    form_back form.EnumLiteral s = refl
    form_back form.AnyError s = refl
    form_back (form.ErrorSet names inferred) s = refl
    form_back (form.Array len of sentinel) s = let a = id_back of s.0 in let b = choice_back sentinel s.1 in cc
    form_back (form.Pointer many constant of) s = let a = id_back of s.0 in cc
    form_back (form.Slice constant of sentinel) s = let a = id_back of s.0 in let b = choice_back sentinel s.1 in cc
    form_back (form.Optional of) s = let a = id_back of s.0 in cc
    form_back (form.ErrorUnion set payload) s = let a = id_back set s.0 in let b = id_back payload s.1.0 in cc
    form_back (form.Struct owner) s = let a = values_back owner.captures s in ap (λ l. form.Struct (record owner { captures = l })) a
    form_back (form.Enum owner) s = let a = values_back owner.captures s in ap (λ l. form.Enum (record owner { captures = l })) a
    form_back (form.Union owner) s = let a = values_back owner.captures s in ap (λ l. form.Union (record owner { captures = l })) a
    form_back (form.Func params result comptime outside) s =
        let a = numbers_back params (Each-left Known (concat (map number_in params)) (number_in result) s) in
        let b = number_back result (Each-right Known (concat (map number_in params)) (number_in result) s) in
        cc

    -- equal types have equal forms
    pub one_form : (f g : TypeForm) → Each Known (types_in_form f) → Each Known (types_in_form g) → form_tree ts f ≡ form_tree ts g → f ≡ g
    one_form f g s t e = sym (form_back f s) ∙ ap form_from e ∙ form_back g t
