-- The fields and the tag of a shape mention types of the table.
use Rattle.std.proofs.Common.{◌<◌, List, length, All, MatchOption, Option, sym, subst}
use Rattle.zw_types.specs.declared.value.TypeId.{TypeId}
use Rattle.zw_types.specs.declared.type_form.FieldShape.{FieldShape}
use Rattle.zw_types.proofs.ShapeLemmas.{fields_held, tag_held, tag_is_held}
use Rattle.zw_types.proofs.kept.known_container.Goals as goal

pub known_fields-requires-clause-held : goal.known_fields-requires-clause-held
known_fields-requires-clause-held c = subst (λ (l : List FieldShape). All (λ (f : FieldShape). f.ty.0 < length c.args.entries.now) l) (sym c.as_slice.ensures) (fields_held (length c.args.entries.now) c.args.shape.now c.requires.held)

pub known-requires-clause-held : goal.known-requires-clause-held
known-requires-clause-held c = subst (λ (o : Option TypeId). MatchOption o (Unit {0}) (λ id. id.0 < length c.args.entries.now)) c.in-Some.is (tag_is_held (length c.args.entries.now) c.args.shape.now c.requires.held)

pub known_fields-requires-in_default : goal.known_fields-requires-in_default
known_fields-requires-in_default c = record {
  entries = c.requires.entries;
  as_many = c.requires.as_many;
  held = subst (λ (l : List FieldShape). All (λ (f : FieldShape). f.ty.0 < length c.args.entries.now) l) (sym c.as_slice-in_default.ensures) (fields_held (length c.args.entries.now) c.args.shape.now c.requires.held);
  right = c.requires.right;
}

pub known_tag-requires : goal.known_tag-requires
known_tag-requires c = record {
  entries = c.requires.entries;
  as_many = c.requires.as_many;
  held = tag_held (length c.args.entries.now) c.args.shape.now c.requires.held;
  right = c.requires.right;
}
