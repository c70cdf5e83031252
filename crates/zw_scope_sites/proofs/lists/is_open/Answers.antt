use Rattle.std.proofs.Common.{◌∙◌, Bor}
use Rattle.zw_scope_sites.specs.declared.lists.OpenLabel.{OpenLabel}
use Rattle.zw_scope_sites.proofs.ListLemmas.{open-found}
use Rattle.zw_scope_sites.proofs.lists.is_open.Goals as goal

pub returns : goal.returns
returns c = λ ls h. c.is_some.ensures ∙ open-found (λ (l : Bor OpenLabel). l.now) c.open_label.result ls c.args.name.now (c.open_label.ensures ls h)
