use Rattle.std.proofs.Common.{◌∙◌, Bor}
use Rattle.zw_scope_sites.specs.declared.lists.Binding.{Binding}
use Rattle.zw_scope_sites.proofs.SiteLemmas.{binds-found}
use Rattle.zw_scope_sites.proofs.lists.binds.Goals as goal

pub returns : goal.returns
returns c = λ bs h. c.is_some.ensures ∙ binds-found (λ (b : Bor Binding). b.now) c.innermost.result bs c.args.name.now (c.innermost.ensures bs h)
