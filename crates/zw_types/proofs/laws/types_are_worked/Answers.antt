-- A struct's captures are read one level after the other.
use Rattle.std.proofs.Common.{◌≡◌, ℕ, List, [], ◌∷◌, ◌++◌, refl, sym, ◌∙◌, ap}
use Rattle.zw_types.specs.declared.value.Value.TheVariants as v
use Rattle.zw_types.specs.declared.value.Value.TheOpen.{Value-F}
use Rattle.zw_types.specs.declared.type_form.TypeForm.{TypeForm}
use Rattle.zw_types.specs.declared.type_form.TypeForm.TheVariants as form
use Rattle.zw_types.specs.TypeTrees as tree
use Rattle.zw_types.specs.TypeTrees.{TypeTree, ValueTree, values_from}
use Rattle.zw_types.specs.Readings.{type_at, value_tree, trees_from}
use Rattle.zw_types.specs.WorkedTypes.{id, holder, holder_of, u8}
use Rattle.zw_types.proofs.Agreement.{value_tree-roll}
use Rattle.zw_types.proofs.laws.types_are_worked.Goals as goal

of_type : (known : List TypeTree) (k : ℕ) (ty : TypeTree) → type_at known (id k) ≡ ty → value_tree known (v.OfType (id k)) ≡ tree.TypeValue ty
of_type known k ty h = ap (value_tree known) (sym (v.rolls-OfType (id k))) ∙ value_tree-roll known (Value-F.OfType (id k)) ∙ ap tree.TypeValue h

-- a struct whose name stands for this type joins the types before it
holder_joins : (known : List TypeTree) (a b : ℕ) (ty : TypeTree) (more : List TypeForm) → type_at known (id a) ≡ tree.TypeType → type_at known (id b) ≡ ty → trees_from known (holder a b ∷ more) ≡ trees_from (known ++ holder_of ty ∷ []) more
holder_joins known a b ty more ha hb =
    let pair : ValueTree → ValueTree → ValueTree = λ x y. tree.PartsValue (values_from (x ∷ y ∷ [])) in
    let read : value_tree known (v.Parts (v.OfType (id a) ∷ v.OfType (id b) ∷ [])) ≡ pair (tree.TypeValue tree.TypeType) (tree.TypeValue ty) =
    ap (value_tree known) (sym (v.rolls-Parts (v.OfType (id a) ∷ v.OfType (id b) ∷ []))) ∙ value_tree-roll known (Value-F.Parts (v.OfType (id a) ∷ v.OfType (id b) ∷ [])) ∙ (λ i. pair (of_type known a tree.TypeType ha i) (of_type known b ty hb i)) in
    ap (λ (x : ValueTree). trees_from (known ++ tree.StructType 0 5 (values_from (x ∷ [])) ∷ []) more) read

pub returns : goal.returns
returns c = record {
  nested =
      holder_joins (tree.TypeType ∷ u8 ∷ []) 0 1 u8 (holder 0 2 ∷ form.Optional (id 3) ∷ []) refl refl
      ∙ holder_joins (tree.TypeType ∷ u8 ∷ holder_of u8 ∷ []) 0 2 (holder_of u8) (form.Optional (id 3) ∷ []) refl refl;
  turned =
      holder_joins (u8 ∷ tree.BoolType ∷ tree.TypeType ∷ []) 2 0 u8 (holder 2 3 ∷ []) refl refl
      ∙ holder_joins (u8 ∷ tree.BoolType ∷ tree.TypeType ∷ holder_of u8 ∷ []) 2 3 (holder_of u8) [] refl refl;
  of_bool = holder_joins (tree.TypeType ∷ tree.BoolType ∷ []) 0 1 tree.BoolType [] refl refl;
  without_names = refl;
}
