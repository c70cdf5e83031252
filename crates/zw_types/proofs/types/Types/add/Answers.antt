-- The table after a push is the table before with one more type.
use Rattle.std.proofs.Common.{◌≡◌, ◌<◌, ℕ, length, List, [], ◌∷◌, ◌++◌, None, All, Contains, sym, ◌∙◌, ap, subst, arith}
use Rattle.std.proofs.lemmas.List.Elements.{All-weaker}
use Rattle.zw_types.specs.declared.types.Entry.{Entry}
use Rattle.zw_types.specs.TypeTrees.{TypeTree}
use Rattle.zw_types.specs.Readings.{form_tree, types_in_form}
use Rattle.zw_types.specs.Tables.{TypeTable, IsFormed, IsInterned, Keeps}
use Rattle.zw_types.specs.Entries.{AreEntries, table_of, trees_of}
use Rattle.std.proofs.lemmas.List.{length_push}
use Rattle.zw_types.specs.KeptLayouts.{Kept, AreRight, AreKept}
use Rattle.zw_types.proofs.EntryLemmas.{length-trees_of}
use Rattle.zw_types.proofs.KeptTables.{right_grown, as_many_grown}
use Rattle.zw_types.proofs.TableLemmas.{pushed, AreEntries-push, IsInterned-pushed, Keeps-pushed, table_of-push}
use Rattle.zw_types.proofs.types.Types.add.Goals as goal

pub settle-requires : goal.settle-requires
settle-requires c =
    let es = c.self.inside.entries.items in
    let f = c.args.form in
    let e : Entry = record { form = f; shape = None } in
    let kept = c.self.inside.kept.items in
    let same : trees_of es ≡ c.args.self.now.trees = ap (λ (t : TypeTable). t.trees) c.self.view_is in
    let known : All (λ k. k < length es) (types_in_form f) = All-weaker (λ k. k < length c.args.self.now.trees) (λ k. k < length es) (λ k l. omega (arith, length-trees_of es, ap (length {A = TypeTree}) same)) (types_in_form f) c.requires.known in
    let grown : c.as_slice.result.now ≡ es ++ e ∷ [] = c.as_slice.ensures.value ∙ c.in_ok-grow.ensures.entries in
    let kept_grown : c.grow.new.kept.items ≡ kept ++ None ∷ [] = c.in_ok-grow.ensures.kept in
    record {
      entries = subst AreEntries (sym grown)
          (AreEntries-push es f c.self.invariant.0 (omega arith) known
          (subst (λ (ts : List TypeTree). IsFormed (form_tree ts f)) (sym same) c.requires.formed)
          (subst (λ (ts : List TypeTree). Contains ts (form_tree ts f) → ⊥) (sym same) c.requires.fresh));
      as_many = ap (length {A = Kept}) kept_grown ∙ as_many_grown es f kept c.self.invariant.2 ∙ sym (ap (length {A = Entry}) grown);
      right = subst (λ (l : List Entry). AreRight (table_of l []) c.grow.new.kept.items) (sym grown) (subst (λ (l : List Kept). AreRight (table_of (es ++ e ∷ []) []) l) (sym kept_grown) (right_grown es f kept c.self.invariant.0 c.self.invariant.2));
    }

pub invariant_of-self-2 : goal.invariant_of-self-2
invariant_of-self-2 c =
    let es = c.self.inside.entries.items in
    let f = c.args.form in
    let same : trees_of es ≡ c.args.self.now.trees = ap (λ (t : TypeTable). t.trees) c.self.view_is in
    let known : All (λ k. k < length es) (types_in_form f) = All-weaker (λ k. k < length c.args.self.now.trees) (λ k. k < length es) (λ k l. omega (arith, length-trees_of es, ap (length {A = TypeTree}) same)) (types_in_form f) c.requires.known in (
      subst AreEntries (sym c.in_ok-grow.ensures.entries)
          (AreEntries-push es f c.self.invariant.0 (omega arith) known
          (subst (λ (ts : List TypeTree). IsFormed (form_tree ts f)) (sym same) c.requires.formed)
          (subst (λ (ts : List TypeTree). Contains ts (form_tree ts f) → ⊥) (sym same) c.requires.fresh)),
      c.self.invariant.1,
      subst (λ (l : List Entry). AreKept (table_of l []) c.settle.new.kept.items) c.as_slice.ensures.value c.settle.ensures,
    )

pub returns-clause-ok : goal.returns-clause-ok
returns-clause-ok c =
    let es = c.self.inside.entries.items in
    let errors = c.self.inside.errors.items in
    let f = c.args.form in
    let old : TypeTable = table_of es errors in
    let same : trees_of es ≡ c.args.self.now.trees = ap (λ (t : TypeTable). t.trees) c.self.view_is in
    let new : table_of c.grow.new.entries.items errors ≡ pushed old (form_tree old.trees f) = ap (λ (l : List Entry). table_of l errors) c.in_ok-grow.ensures.entries ∙ table_of-push es errors f c.self.invariant.0.known in
    let fresh : Contains old.trees (form_tree old.trees f) → ⊥ = subst (λ (ts : List TypeTree). Contains ts (form_tree ts f) → ⊥) (sym same) c.requires.fresh in
    let P : TypeTable → Type 0 = λ t. IsInterned t (table_of c.grow.new.entries.items errors) (form_tree t.trees f) (length t.trees) in
    let interned : P c.args.self.now = subst P c.self.view_is (subst (λ (t : TypeTable). IsInterned old t (form_tree old.trees f) (length old.trees)) (sym new) (IsInterned-pushed old (form_tree old.trees f) fresh)) in
    let number : length c.args.self.now.trees ≡ c.len-number.result = omega (arith, length-trees_of es, ap (length {A = TypeTree}) same, c.len-number.ensures) in
    subst (λ (n : ℕ). IsInterned c.args.self.now (table_of c.grow.new.entries.items errors) (form_tree c.args.self.now.trees f) n) number interned

pub returns-clause-kept : goal.returns-clause-kept
returns-clause-kept c =
    let es = c.self.inside.entries.items in
    let errors = c.self.inside.errors.items in
    let old : TypeTable = table_of es errors in
    let new : table_of c.grow.new.entries.items errors ≡ pushed old (form_tree old.trees c.args.form) = ap (λ (l : List Entry). table_of l errors) c.in_ok-grow.ensures.entries ∙ table_of-push es errors c.args.form c.self.invariant.0.known in
    subst (λ (t : TypeTable). Keeps t (table_of c.grow.new.entries.items errors)) c.self.view_is
    (subst (λ (t : TypeTable). Keeps old t) (sym new) (Keeps-pushed old (form_tree old.trees c.args.form)))

pub returns-clause-held : goal.returns-clause-held
returns-clause-held c = omega (arith, length-trees_of c.grow.new.entries.items, c.len-number.ensures, ap (length {A = Entry}) c.in_ok-grow.ensures.entries, length_push c.self.inside.entries.items (record { form = c.args.form; shape = None }))

pub returns-clause-longer : goal.returns-clause-longer
returns-clause-longer c =
    let es = c.self.inside.entries.items in
    let same : trees_of es ≡ c.args.self.now.trees = ap (λ (t : TypeTable). t.trees) c.self.view_is in
    omega (arith, length-trees_of c.grow.new.entries.items, length-trees_of es, ap (length {A = TypeTree}) same, ap (length {A = Entry}) c.in_ok-grow.ensures.entries, length_push c.self.inside.entries.items (record { form = c.args.form; shape = None }))
