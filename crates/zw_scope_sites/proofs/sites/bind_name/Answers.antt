use Rattle.std.proofs.Common.{◌++◌, ℕ, List, ◌∙◌, sym, subst}
use Rattle.std.proofs.lemmas.Result.{IfOk-weaker}
use Rattle.zw_scope_sites.specs.Lists.{IsBindings}
use Rattle.zw_scope_sites.specs.declared.lists.Binding.{Binding}
use Rattle.zw_scope_sites.proofs.SiteLemmas.{bound-is}
use Rattle.zw_scope_sites.proofs.sites.bind_name.Goals as goal

pub returns-clause-head : goal.returns-clause-head
returns-clause-head c =
    let is = bound-is c.args.ast.now c.in-Some.name c.in-Some.ensures.0 c.in_ok-name.name (c.in_ok-name.ensures ∙ c.text.ensures) _ c.in-Some.ensures.1 c.args.n c.args.is_local in
    IfOk-weaker c.bind.result _ _ (λ (head : ℕ) h bs at. subst (λ (ns : List Binding). IsBindings c.bind.new.lists head (ns ++ bs)) (sym is) (h bs at)) c.bind.ensures.head
