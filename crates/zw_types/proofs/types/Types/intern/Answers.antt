-- A form that isn't among the entries stands for a type that isn't in the table.
use Rattle.std.proofs.Common.{◌≡◌, ◌<◌, length, List, All, Contains, slice_get, Some, ap, subst, arith, refl, inl}
use Rattle.std.proofs.lemmas.List.Elements.{All-weaker}
use Rattle.zw_types.specs.declared.types.Entry.{Entry}
use Rattle.zw_types.specs.TypeTrees.{TypeTree}
use Rattle.zw_types.specs.Readings.{form_tree, types_in_form}
use Rattle.zw_types.specs.Tables.{TypeTable}
use Rattle.zw_types.specs.Entries.{trees_of, forms_of}
use Rattle.zw_types.proofs.EntryLemmas.{length-trees_of}
use Rattle.zw_types.proofs.TableLemmas.{fresh_tree, named_tree}
use Rattle.zw_types.proofs.types.Types.intern.Goals as goal

pub add-requires-clause-fresh : goal.add-requires-clause-fresh
add-requires-clause-fresh c =
    let es = c.self.inside.entries.items in
    let f = c.args.form in
    let same : trees_of es ≡ c.args.self.now.trees = ap (λ (t : TypeTable). t.trees) c.self.view_is in
    let known : All (λ k. k < length es) (types_in_form f) = All-weaker (λ k. k < length c.args.self.now.trees) (λ k. k < length es) (λ k l. omega (arith, length-trees_of es, ap (length {A = TypeTree}) same)) (types_in_form f) c.requires.known in
    let fresh : Contains (forms_of es) f → ⊥ = subst (λ (l : List Entry). Contains (forms_of l) f → ⊥) c.as_slice.ensures.value c.in-None.ensures in
    subst (λ (ts : List TypeTree). Contains ts (form_tree ts f) → ⊥) same (fresh_tree es f c.self.invariant.0 known fresh)

pub returns-in-Some-clause-ok : goal.returns-in-Some-clause-ok
returns-in-Some-clause-ok c =
    let es = c.self.inside.entries.items in
    let f = c.args.form in
    let same : trees_of es ≡ c.args.self.now.trees = ap (λ (t : TypeTable). t.trees) c.self.view_is in
    let held : slice_get (forms_of es) c.in-Some.number ≡ Some f = subst (λ (l : List Entry). slice_get (forms_of l) c.in-Some.number ≡ Some f) c.as_slice.ensures.value c.in-Some.ensures in
    record {
      named = subst (λ (ts : List TypeTree). slice_get ts c.in-Some.number ≡ Some (form_tree ts f)) same (named_tree es f c.self.invariant.0 c.in-Some.number held);
      grown = inl refl;
    }
