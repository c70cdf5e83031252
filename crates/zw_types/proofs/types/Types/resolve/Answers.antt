-- The table with the fields in one entry is the table before, resolved.
use Rattle.std.proofs.Common.{◌≡◌, ◌<◌, length, List, All, ◌∙◌, sym, ap, subst, arith, slice_set, refl, IsTrue, []}
use Rattle.std.proofs.lemmas.List.Elements.{All-weaker}
use Rattle.zw_types.specs.TypeTrees.{TypeTree, is_container}
use Rattle.zw_types.specs.Readings.{type_at, shape_tree, types_in_shape}
use Rattle.zw_types.specs.Tables.{TypeTable, IsOpen, IsShapeOf, Keeps, resolved}
use Rattle.zw_types.specs.Entries.{trees_of, table_of, AreEntries}
use Rattle.zw_types.specs.declared.types.Entry.{Entry}
use Rattle.zw_types.specs.KeptLayouts.{AreRight, AreKept}
use Rattle.zw_types.proofs.EntryLemmas.{length-trees_of}
use Rattle.zw_types.proofs.KeptTables.{right_resolved, as_many_resolved}
use Rattle.zw_types.proofs.TableLemmas.{with_errors, with_shape, AreEntries-set, table_of-set, Keeps-resolved}
use Rattle.zw_types.proofs.types.Types.resolve.Goals as goal

pub settle-requires : goal.settle-requires
settle-requires c =
    let es = c.self.inside.entries.items in
    let same : trees_of es ≡ c.args.self.now.trees = ap (λ (t : TypeTable). t.trees) c.self.view_is in
    let within : c.args.id.0 < length es = omega (arith, length-trees_of es, ap (length {A = TypeTree}) same) in
    let known : All (λ j. j < length es) (types_in_shape c.args.shape) = All-weaker (λ j. j < length c.args.self.now.trees) (λ j. j < length es) (λ j l. omega (arith, length-trees_of es, ap (length {A = TypeTree}) same)) (types_in_shape c.args.shape) c.requires.known in
    let is_open : IsOpen (table_of es c.self.inside.errors.items) c.args.id.0 = subst (λ (t : TypeTable). IsOpen t c.args.id.0) (sym c.self.view_is) (c.if-not-is_open.ensures.0 refl) in
    let container : IsTrue (is_container (type_at c.args.self.now.trees c.args.id)) = (c.if-not-is_open.ensures.0 refl).0 in
    let P : TypeTable → Type 0 = λ t. IsShapeOf t (type_at t.trees c.args.id) (shape_tree t.trees c.args.shape) in
    let fits : P (table_of es c.self.inside.errors.items) = subst P (sym c.self.view_is) (c.requires.fits container) in
    let fitting = with_errors es c.self.inside.errors.items [] (type_at (trees_of es) c.args.id) (shape_tree (trees_of es) c.args.shape) fits in
    let e = c.index_mut.result.now in
    let kept = c.self.inside.kept.items in
    let now : c.as_slice.result.now ≡ slice_set es c.args.id.0 (with_shape e c.args.shape) = c.as_slice.ensures.value in
    record {
      entries = subst AreEntries (sym now) (AreEntries-set es c.args.id.0 c.index_mut.result.now within c.index_mut.ensures.value c.args.shape c.self.invariant.0 is_open known fitting);
      as_many = as_many_resolved es c.args.id.0 e c.args.shape kept c.self.invariant.2 ∙ sym (ap (length {A = Entry}) now);
      right = subst (λ (l : List Entry). AreRight (table_of l []) kept) (sym now) (right_resolved es c.args.id.0 e c.args.shape kept within c.index_mut.ensures.value is_open c.self.invariant.2);
    }

pub invariant_of-self : goal.invariant_of-self
invariant_of-self c =
    let es = c.self.inside.entries.items in
    let same : trees_of es ≡ c.args.self.now.trees = ap (λ (t : TypeTable). t.trees) c.self.view_is in
    let within : c.args.id.0 < length es = omega (arith, length-trees_of es, ap (length {A = TypeTree}) same) in
    let known : All (λ j. j < length es) (types_in_shape c.args.shape) = All-weaker (λ j. j < length c.args.self.now.trees) (λ j. j < length es) (λ j l. omega (arith, length-trees_of es, ap (length {A = TypeTree}) same)) (types_in_shape c.args.shape) c.requires.known in
    let is_open : IsOpen (table_of es c.self.inside.errors.items) c.args.id.0 = subst (λ (t : TypeTable). IsOpen t c.args.id.0) (sym c.self.view_is) (c.if-not-is_open.ensures.0 refl) in
    let container : IsTrue (is_container (type_at c.args.self.now.trees c.args.id)) = (c.if-not-is_open.ensures.0 refl).0 in
    let P : TypeTable → Type 0 = λ t. IsShapeOf t (type_at t.trees c.args.id) (shape_tree t.trees c.args.shape) in
    let fits : P (table_of es c.self.inside.errors.items) = subst P (sym c.self.view_is) (c.requires.fits container) in
    let fitting = with_errors es c.self.inside.errors.items [] (type_at (trees_of es) c.args.id) (shape_tree (trees_of es) c.args.shape) fits in
    (AreEntries-set es c.args.id.0 c.index_mut.result.now within c.index_mut.ensures.value c.args.shape c.self.invariant.0 is_open known fitting, c.self.invariant.1, subst (λ (l : List Entry). AreKept (table_of l []) c.settle.new.kept.items) c.as_slice.ensures.value c.settle.ensures)

pub returns-clause-done : goal.returns-clause-done
returns-clause-done c =
    let es = c.self.inside.entries.items in
    let errors = c.self.inside.errors.items in
    let e = c.index_mut.result.now in
    let same : trees_of es ≡ c.args.self.now.trees = ap (λ (t : TypeTable). t.trees) c.self.view_is in
    let within : c.args.id.0 < length es = omega (arith, length-trees_of es, ap (length {A = TypeTree}) same) in
    let new = table_of-set es c.args.id.0 e within c.index_mut.ensures.value errors c.args.shape in (
      c.if-not-is_open.ensures.0 refl,
      subst (λ (t : TypeTable). table_of (slice_set es c.args.id.0 (with_shape e c.args.shape)) errors ≡ resolved t c.args.id.0 (shape_tree t.trees c.args.shape)) c.self.view_is new,
    )

pub returns-clause-kept : goal.returns-clause-kept
returns-clause-kept c =
    let es = c.self.inside.entries.items in
    let errors = c.self.inside.errors.items in
    let e = c.index_mut.result.now in
    let old : TypeTable = table_of es errors in
    let same : trees_of es ≡ c.args.self.now.trees = ap (λ (t : TypeTable). t.trees) c.self.view_is in
    let within : c.args.id.0 < length es = omega (arith, length-trees_of es, ap (length {A = TypeTree}) same) in
    let is_open : IsOpen old c.args.id.0 = subst (λ (t : TypeTable). IsOpen t c.args.id.0) (sym c.self.view_is) (c.if-not-is_open.ensures.0 refl) in
    let new = table_of-set es c.args.id.0 e within c.index_mut.ensures.value errors c.args.shape in
    subst (λ (t : TypeTable). Keeps t (table_of (slice_set es c.args.id.0 (with_shape e c.args.shape)) errors)) c.self.view_is
    (subst (λ (t : TypeTable). Keeps old t) (sym new) (Keeps-resolved old c.args.id.0 (shape_tree old.trees c.args.shape) is_open))
