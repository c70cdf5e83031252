use Rattle.zw_leb.proofs.get.+signed.Given as goal

abbrev pub decreases-signed : goal.decreases-signed
decreases-signed l = l.bits
