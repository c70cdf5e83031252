use Rattle.std.proofs.Common.{ℕ, ◌∷◌, ◌∙◌, sym, subst}
use Rattle.zw_scope_sites.specs.Lists.{IsLabels}
use Rattle.zw_scope_sites.specs.Scopes.{Scope}
use Rattle.zw_scope_sites.specs.Sites.{Shows}
use Rattle.zw_scope_sites.specs.declared.sites.View.{View}
use Rattle.zw_scope_sites.proofs.SiteLemmas.{labelled-is}
use Rattle.zw_scope_sites.proofs.sites.labelled.Goals as goal

pub returns-clause-shows : goal.returns-clause-shows
returns-clause-shows c = λ scope h.
    let is = labelled-is c.args.ast.now c.in-Some.label c.in-Some.ensures.0 c.in_ok-name.name (c.in_ok-name.ensures ∙ c.text.ensures) _ c.in-Some.ensures.1 c.args.is_loop scope in
    let view : View = record { names = c.args.view.names; labels = c.in_ok-labels.labels; innermost_loop = c.args.view.innermost_loop; in_function = c.args.view.in_function; defers = c.args.view.defers } in
    subst (λ (s : Scope). Shows c.open.new.lists view s) (sym is) (record {
      names = c.in_ok-labels.ensures.grows.bindings c.args.view.names scope.visible h.names;
      labels = subst (λ (d : ℕ). IsLabels c.open.new.lists c.in_ok-labels.labels (record { name = c.in_ok-name.name; is_loop = c.args.is_loop; defers = d } ∷ scope.labels)) h.defers (c.in_ok-labels.ensures.head scope.labels h.labels);
      innermost_loop = h.innermost_loop;
      in_function = h.in_function;
      defers = h.defers;
    })
