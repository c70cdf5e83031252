use Rattle.zw_scope_sites.proofs.tables.+get.Given as goal

abbrev pub decreases-get : goal.decreases-get
decreases-get l = l.key
