-- What a value or a form stands for depends on the types alone whose numbers it mentions.
use Rattle.std.specs.Prelude.{◌≡◌, ℕ, List, [], ◌∷◌, map, slice_index_or, Option, Some, None, refl}
use Rattle.std.specs.List.{concat}
use Rattle.std.specs.Option.{option_map}
use Rattle.std.proofs.Common.{sym, ◌∙◌, ap, subst}
use Rattle.zw_types.specs.declared.value.TypeId.{TypeId}
use Rattle.zw_types.specs.declared.value.Value as V
use Rattle.zw_types.specs.declared.value.Value.{Value}
use Rattle.zw_types.specs.declared.value.Value.TheOpen.{Value-F}
use Rattle.zw_types.specs.declared.type_form.TypeForm.{TypeForm}
use Rattle.zw_types.specs.declared.type_form.TypeForm.TheVariants as form
use Rattle.zw_types.specs.declared.type_form.FieldShape.{FieldShape}
use Rattle.zw_types.specs.declared.type_form.Shape.{Shape}
use Rattle.zw_types.specs.TypeTrees as tree
use Rattle.zw_types.specs.TypeTrees.{TypeTree, values_from, types_from, type_option}
use Rattle.zw_types.specs.Readings.{type_at, value_layer, value_tree, values_tree, sentinel_tree, form_tree, types_in_layer, types_in, types_in_all, types_in_choice, number_in, types_in_form, types_in_field, types_in_shape, field_tree, shape_tree}
use Rattle.zw_types.proofs.Each.{Each, Each-left, Each-right}
use Rattle.zw_types.proofs.ValueInduction.{Cases, value_induction}

-- one level of a reading
pub value_tree-roll : (ts : List TypeTree) (l : Value-F Value) → value_tree ts (V.roll-Value l) ≡ value_layer ts (V.map-Value _ _ (value_tree ts) l)
value_tree-roll ts l = V.fold-roll-Value _ _ l

pub types_in-roll : (l : Value-F Value) → types_in (V.roll-Value l) ≡ types_in_layer (V.map-Value _ _ types_in l)
types_in-roll l = V.fold-roll-Value _ _ l

module _ (ts us : List TypeTree) where
  -- both lists have one type at a number
  abbrev pub Same : ℕ → Type 0
  Same k = slice_index_or ts k tree.VoidType ≡ slice_index_or us k tree.VoidType

  abbrev pub Agrees : Value → Type 0
  Agrees x = Each Same (types_in x) → value_tree ts x ≡ value_tree us x

  agree_each : (xs : List Value) → Each Agrees xs → Each Same (types_in_all xs) → map (value_tree ts) xs ≡ map (value_tree us) xs
  agree_each [] e s = refl
  agree_each (x ∷ xs) e s =
      let first = e.0 (Each-left Same (types_in x) (types_in_all xs) s) in
      let rest = agree_each xs e.1 (Each-right Same (types_in x) (types_in_all xs) s) in
      cc

  -- at a layer whose readings are equal
  by_layer : (l : Value-F Value) → (Each Same (types_in_layer (V.map-Value _ _ types_in l)) → value_layer ts (V.map-Value _ _ (value_tree ts) l) ≡ value_layer us (V.map-Value _ _ (value_tree us) l)) → Agrees (V.roll-Value l)
  by_layer l h s = value_tree-roll ts l ∙ h (subst (Each Same) (types_in-roll l) s) ∙ sym (value_tree-roll us l)

  agree_cases : Cases Agrees
  agree_cases = record {
    number = λ z. by_layer (Value-F.Number z) (λ s. refl);
    truth = λ b. by_layer (Value-F.Truth b) (λ s. refl);
    undefined = by_layer Value-F.Undefined (λ s. refl);
    parts = λ xs e. by_layer (Value-F.Parts xs) (λ s. ap (λ l. tree.PartsValue (values_from l)) (agree_each xs e s));
    null = by_layer (Value-F.Optional None) (λ s. refl);
    optional = λ x e. by_layer (Value-F.Optional (Some x)) (λ s. ap (λ t. tree.OptionalValue (tree.TheValue t)) (e (Each-left Same (types_in x) [] s)));
    error = λ n. by_layer (Value-F.Error n) (λ s. refl);
    payload = λ x e. by_layer (Value-F.Payload x) (λ s. ap tree.PayloadValue (e s));
    tag = λ n. by_layer (Value-F.Tag n None) (λ s. refl);
    «union» = λ n x e. by_layer (Value-F.Tag n (Some x)) (λ s. ap (λ t. tree.TagValue n (tree.TheValue t)) (e (Each-left Same (types_in x) [] s)));
    literal = λ name. by_layer (Value-F.Literal name) (λ s. refl);
    pointer = λ obj path. by_layer (Value-F.Pointer obj path) (λ s. refl);
    slice = λ obj path len. by_layer (Value-F.Slice obj path len) (λ s. refl);
    held = λ ty at xs e. by_layer (Value-F.Held ty at xs) (λ s. let a = s.0 in let b = agree_each xs e s.1 in cc);
    of_type = λ ty. by_layer (Value-F.OfType ty) (λ s. ap tree.TypeValue s.0);
    func = λ file node xs e. by_layer (Value-F.Func file node xs) (λ s. ap (λ l. tree.FuncValue file node (values_from l)) (agree_each xs e s));
    «instance» = λ n. by_layer (Value-F.Instance n) (λ s. refl);
  }

  pub value_agrees : (x : Value) → Agrees x
  value_agrees = value_induction Agrees agree_cases

  each_agrees : (xs : List Value) → Each Agrees xs
  each_agrees [] = tt
  each_agrees (x ∷ xs) = (value_agrees x, each_agrees xs)

  pub values_agree : (xs : List Value) → Each Same (types_in_all xs) → values_tree ts xs ≡ values_tree us xs
  values_agree xs s = ap values_from (agree_each xs (each_agrees xs) s)

  pub sentinel_agrees : (x : Option Value) → Each Same (types_in_choice x) → sentinel_tree ts x ≡ sentinel_tree us x
  sentinel_agrees None s = refl
  sentinel_agrees (Some x) s = ap tree.TheValue (value_agrees x (Each-left Same (types_in x) [] s))

  id_agrees : (o : Option TypeId) → Each Same (number_in o) → type_option (option_map (type_at ts) o) ≡ type_option (option_map (type_at us) o)
  id_agrees None s = refl
  id_agrees (Some id) s = ap tree.TheType s.0

  ids_agree : (os : List (Option TypeId)) → Each Same (concat (map number_in os)) → types_from (map (option_map (type_at ts)) os) ≡ types_from (map (option_map (type_at us)) os)
  ids_agree [] s = refl
  ids_agree (o ∷ os) s =
      let first = id_agrees o (Each-left Same (number_in o) (concat (map number_in os)) s) in
      let rest = ids_agree os (Each-right Same (number_in o) (concat (map number_in os)) s) in
      cc

  pub form_agrees : (f : TypeForm) → Each Same (types_in_form f) → form_tree ts f ≡ form_tree us f
  form_agrees (form.Int signed bits size) s = refl
  form_agrees form.ComptimeInt s = refl
  form_agrees form.Bool s = refl
  form_agrees form.Void s = refl
  form_agrees form.NoReturn s = refl
  form_agrees form.TypeType s = refl
  form_agrees form.Null s = refl
  form_agrees form.Undefined s = refl
  form_agrees form.EnumLiteral s = refl
  form_agrees form.AnyError s = refl
  form_agrees (form.ErrorSet names inferred) s = refl
  form_agrees (form.Array len of sentinel) s = let a = s.0 in let b = sentinel_agrees sentinel s.1 in cc
  form_agrees (form.Pointer many constant of) s = let a = s.0 in cc
  form_agrees (form.Slice constant of sentinel) s = let a = s.0 in let b = sentinel_agrees sentinel s.1 in cc
  form_agrees (form.Optional of) s = let a = s.0 in cc
  form_agrees (form.ErrorUnion set payload) s = let a = s.0 in let b = s.1.0 in cc
  form_agrees (form.Struct owner) s = let a = values_agree owner.captures s in cc
  form_agrees (form.Enum owner) s = let a = values_agree owner.captures s in cc
  form_agrees (form.Union owner) s = let a = values_agree owner.captures s in cc
  form_agrees (form.Func params result comptime outside) s =
      let a = ids_agree params (Each-left Same (concat (map number_in params)) (number_in result) s) in
      let b = id_agrees result (Each-right Same (concat (map number_in params)) (number_in result) s) in
      cc

  -- ---- shapes

  default_agrees : (x : Option Value) → Each Same (types_in_choice x) → option_map (value_tree ts) x ≡ option_map (value_tree us) x
  default_agrees None s = refl
  default_agrees (Some x) s = ap Some (value_agrees x (Each-left Same (types_in x) [] s))

  tag_agrees : (o : Option TypeId) → Each Same (number_in o) → option_map (type_at ts) o ≡ option_map (type_at us) o
  tag_agrees None s = refl
  tag_agrees (Some id) s = ap Some s.0

  field_agrees : (f : FieldShape) → Each Same (types_in_field f) → field_tree ts f ≡ field_tree us f
  field_agrees f s = λ i. record { name = f.name; ty = s.0 i; default = default_agrees f.default s.1 i; number = f.number }

  fields_agree : (fs : List FieldShape) → Each Same (concat (map types_in_field fs)) → map (field_tree ts) fs ≡ map (field_tree us) fs
  fields_agree [] s = refl
  fields_agree (f ∷ fs) s =
      let rest = concat (map types_in_field fs) in
      λ i. field_agrees f (Each-left Same (types_in_field f) rest s) i ∷ fields_agree fs (Each-right Same (types_in_field f) rest s) i

  pub shape_agrees : (s : Shape) → Each Same (types_in_shape s) → shape_tree ts s ≡ shape_tree us s
  shape_agrees s e =
      let fields = concat (map types_in_field s.fields) in
      λ i. record { fields = fields_agree s.fields (Each-left Same fields (number_in s.tag) e) i; tag = tag_agrees s.tag (Each-right Same fields (number_in s.tag) e) i }
