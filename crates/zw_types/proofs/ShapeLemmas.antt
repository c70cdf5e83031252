-- The types that the fields of a container mention.
use Rattle.std.specs.Prelude.{ℕ, ◌<◌, List, [], ◌∷◌, map, All, Option, Some, None, MatchOption}
use Rattle.std.specs.List.{concat}
use Rattle.zw_types.specs.declared.value.TypeId.{TypeId}
use Rattle.zw_types.specs.declared.type_form.FieldShape.{FieldShape}
use Rattle.zw_types.specs.declared.type_form.Shape.{Shape}
use Rattle.zw_types.specs.Readings.{types_in_field, types_in_shape, number_in}
use Rattle.zw_types.proofs.Each.{Each, Each-left, Each-right, Each-from_All, All-from_Each}

each_held : (n : ℕ) (fields : List FieldShape) → Each (λ k. k < n) (concat (map types_in_field fields)) → Each (λ (f : FieldShape). f.ty.0 < n) fields
each_held n [] e = tt
each_held n (f ∷ fields) e =
    let first = Each-left (λ k. k < n) (types_in_field f) (concat (map types_in_field fields)) e in
    let rest = Each-right (λ k. k < n) (types_in_field f) (concat (map types_in_field fields)) e in
    (first.0, each_held n fields rest)

pub fields_each_held : (n : ℕ) (s : Shape) → All (λ k. k < n) (types_in_shape s) → Each (λ (f : FieldShape). f.ty.0 < n) s.fields
fields_each_held n s h = each_held n s.fields (Each-left (λ k. k < n) (concat (map types_in_field s.fields)) (number_in s.tag) (Each-from_All (λ k. k < n) (types_in_shape s) h))

pub fields_held : (n : ℕ) (s : Shape) → All (λ k. k < n) (types_in_shape s) → All (λ (f : FieldShape). f.ty.0 < n) s.fields
fields_held n s h = All-from_Each (λ (f : FieldShape). f.ty.0 < n) s.fields (fields_each_held n s h)

pub tag_held : (n : ℕ) (s : Shape) → All (λ k. k < n) (types_in_shape s) → All (λ k. k < n) (number_in s.tag)
tag_held n s h = All-from_Each (λ k. k < n) (number_in s.tag) (Each-right (λ k. k < n) (concat (map types_in_field s.fields)) (number_in s.tag) (Each-from_All (λ k. k < n) (types_in_shape s) h))

held_tag : (n : ℕ) (o : Option TypeId) → Each (λ k. k < n) (number_in o) → MatchOption o (Unit {0}) (λ id. id.0 < n)
held_tag n None e = tt
held_tag n (Some id) e = e.0

pub tag_is_held : (n : ℕ) (s : Shape) → All (λ k. k < n) (types_in_shape s) → MatchOption s.tag (Unit {0}) (λ id. id.0 < n)
tag_is_held n s h = held_tag n s.tag (Each-from_All (λ k. k < n) (number_in s.tag) (tag_held n s h))
