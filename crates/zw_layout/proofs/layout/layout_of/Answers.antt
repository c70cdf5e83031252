-- The form of a type tells its layout.
use Rattle.std.proofs.Common.{Option, IsTrue, sym, subst}
use Rattle.zw_types.specs.TypeTrees.{TypeTree}
use Rattle.zw_types.specs.Readings.{form_tree, type_at}
use Rattle.zw_layout.specs.declared.layout.Layout.{Layout}
use Rattle.zw_layout.specs.Sizes.{is_simple, HasLayout}
use Rattle.zw_layout.specs.FormLayouts.{form_layout}
use Rattle.zw_layout.proofs.LayoutLemmas.{form_has_layout}
use Rattle.zw_layout.proofs.layout.layout_of.Goals as goal

pub returns : goal.returns
returns c =
    let table = c.args.types.now in
    let f = c.get.result.now in
    let simple : IsTrue (is_simple (form_tree table.trees f)) = subst (λ (t : TypeTree). IsTrue (is_simple t)) (sym c.get.ensures.form) c.requires.simple in
    subst (λ (l : Option Layout). HasLayout table (type_at table.trees c.args.ty) l) (sym c.form_layout.ensures)
    (subst (λ (t : TypeTree). HasLayout table t (form_layout f)) c.get.ensures.form (form_has_layout table table.trees f simple))
