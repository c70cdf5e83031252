use Rattle.std.proofs.Common.{◌++◌, List, sym, ap, ◌∙◌, subst}
use Rattle.zw_tree.specs.Numbering.{below}
use Rattle.zw_scope_sites.specs.Scopes.{binds_local}
use Rattle.zw_scope_sites.specs.Sites.{Surrounds, with_siblings}
use Rattle.zw_scope_sites.specs.declared.lists.Binding.{Binding}
use Rattle.zw_scope_sites.proofs.SiteLemmas.{binds-none}
use Rattle.zw_scope_sites.proofs.sites.bind_local.Goals as goal

pub returns-in_default : goal.returns-in_default
returns-in_default c = record {
  grows = record { bindings = λ head bs h. h; labels = λ head ls h. h };
  surrounds = λ a h.
      let inside = below c.args.ast.now c.args.n in
      let none = ap (λ k. binds_local k c.args.n inside a.siblings) (sym c.kind.ensures)
      ∙ binds-none c.kind.result c.args.n inside a.siblings c.in_default.not-Const c.in_default.not-Var c.in_default.not-Capture c.in_default.not-PointerCapture c.in_default.not-Parameter in
      subst (λ (bs : List Binding). Surrounds c.args.lists.now c.args.around (with_siblings a (bs ++ a.siblings))) (sym none) h;
}
