use Rattle.zw_scope_sites.proofs.tables.+put.Given as goal

abbrev pub decreases-put : goal.decreases-put
decreases-put l = l.key
