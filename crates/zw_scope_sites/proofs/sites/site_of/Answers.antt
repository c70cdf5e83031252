use Rattle.std.proofs.Common.{◌∙◌, sym, inl, inr}
use Rattle.zw_scope_sites.proofs.SiteLemmas.{site-is}
use Rattle.zw_scope_sites.proofs.sites.site_of.Goals as goal
use Rattle.zw_scope_sites.proofs.sites.site_of.Goals.{then-is_else, else-is_else}

pub returns : goal.returns
returns c = λ lists a n root inside behind h kind is_end.
    let part = c.part_of-part.ensures lists a behind h is_end in
    site-is lists a n root inside behind c.args.around c.part_of-part.result c.args.kind c.if-is_else.names h kind part
    (elim c.if-is_else.branch [
      | then-is_else w ↦ inl (sym c.is_else.ensures ∙ w.if-is_else.true, w.names-is)
      | else-is_else w ↦ inr (sym c.is_else.ensures ∙ w.if-is_else.false, w.names-is)
    ])
