use Rattle.std.proofs.Common.{◌∙◌, true, Bor}
use Rattle.zw_scope_sites.specs.declared.lists.Binding.{Binding}
use Rattle.zw_scope_sites.proofs.SiteLemmas.{bound-is, binds-found, first-bound}
use Rattle.zw_scope_sites.proofs.sites.is_repeated.Goals as goal

pub returns-in-Some : goal.returns-in-Some
returns-in-Some c = λ bs h.
    let is = bound-is c.args.ast.now c.in-Some.name c.in-Some.ensures.0 c.text.result.now c.text.ensures _ c.in-Some.ensures.1 c.args.n true in
    let found = binds-found (λ (b : Bor Binding). b.now) c.innermost.result bs c.text.result.now (c.innermost.ensures bs h) in
    first-bound bs _ _ c.is_some.result is (c.is_some.ensures ∙ found)
