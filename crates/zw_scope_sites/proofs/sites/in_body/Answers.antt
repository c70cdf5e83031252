use Rattle.std.proofs.Common.{refl}
use Rattle.zw_scope_sites.specs.Lists.{at_end}
use Rattle.zw_scope_sites.proofs.sites.in_body.Goals as goal

pub returns : goal.returns
returns c = λ lists scope h. record { names = h.names; labels = at_end; innermost_loop = refl; in_function = refl; defers = refl }
