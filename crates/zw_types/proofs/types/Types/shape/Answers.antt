-- The fields of an entry fit it.
use Rattle.std.proofs.Common.{◌≡◌, ◌<◌, length, MatchOption, Option, Some, None, Bor, sym, ap, subst, arith}
use Rattle.std.specs.Option.{option_copied}
use Rattle.zw_types.specs.declared.type_form.Shape.{Shape}
use Rattle.zw_types.specs.TypeTrees.{TypeTree}
use Rattle.zw_types.specs.Readings.{type_at, shape_tree}
use Rattle.zw_types.specs.Tables.{TypeTable, IsShapeOf}
use Rattle.zw_types.specs.Entries.{trees_of, table_of}
use Rattle.zw_types.proofs.EntryLemmas.{length-trees_of}
use Rattle.zw_types.proofs.TableLemmas.{entry_fits}
use Rattle.zw_types.proofs.types.Types.shape.Goals as goal

pub returns-clause-fits : goal.returns-clause-fits
returns-clause-fits c =
    let es = c.self.inside.entries.items in
    let same : trees_of es ≡ c.args.self.now.trees = ap (λ (t : TypeTable). t.trees) c.self.view_is in
    let within : c.args.id.0 < length es = omega (arith, length-trees_of es, ap (length {A = TypeTree}) same) in
    let P : TypeTable → Type 0 = λ t. MatchOption c.as_ref.result (Unit {0}) (λ shape. IsShapeOf t (type_at t.trees c.args.id) (shape_tree t.trees shape.now)) in
    let e = c.index.result.now in
    let fits = entry_fits es c.args.id.0 e within c.index.ensures c.self.inside.errors.items c.self.invariant.0 in
    subst P c.self.view_is (each (λ s. IsShapeOf (table_of es c.self.inside.errors.items) (type_at (trees_of es) c.args.id) (shape_tree (trees_of es) s)) e.shape c.as_ref.result c.as_ref.ensures.value fits)
  where
    each : (P : Shape → Type 0) (held : Option Shape) (o : Option (Bor Shape)) → option_copied o ≡ held → ((s : Shape) → held ≡ Some s → P s) → MatchOption o (Unit {0}) (λ r. P r.now)
    each P held None h p = tt
    each P held (Some r) h p = p r.now (sym h)
