use Rattle.std.proofs.Common.{◌∙◌, sym}
use Rattle.zw_scope.proofs.ReadLemmas.{read-is, no-site}
use Rattle.zw_scope.proofs.check.named.Goals as goal

pub returns-in-Some : goal.returns-in-Some
returns-in-Some c = λ s got. c.named_at.ensures s (read-is c.args.ast.now c.args.sites.now.lists c.args.sites.now.list.items c.requires.placed c.args.n s got c.in-Some.site (sym c.site_at.ensures ∙ c.in-Some.is))

pub returns-in-None : goal.returns-in-None
returns-in-None c = λ s got. absurd (no-site c.args.ast.now c.args.sites.now.lists c.args.sites.now.list.items c.requires.placed c.args.n s got (sym c.site_at.ensures ∙ c.in-None.is))
