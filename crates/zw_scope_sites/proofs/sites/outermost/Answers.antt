use Rattle.std.proofs.Common.{None, false, refl}
use Rattle.zw_scope_sites.specs.Lists.{at_end}
use Rattle.zw_scope_sites.specs.Scopes.{nowhere}
use Rattle.zw_scope_sites.specs.Sites.{Shows}
use Rattle.zw_scope_sites.proofs.BoundLemmas.{nothing-bound}
use Rattle.zw_scope_sites.proofs.sites.outermost.Goals as goal

pub returns : goal.returns
returns c = λ lists.
    let shows : Shows lists (record { names = 0; labels = 0; innermost_loop = None; in_function = false; defers = 0 }) nowhere = record { names = nothing-bound lists; labels = at_end; innermost_loop = refl; in_function = refl; defers = refl } in
    record {
      parent = refl;
      plain = record { shows = shows; seen = nothing-bound lists };
      taken = record { shows = shows; seen = nothing-bound lists };
      siblings = nothing-bound lists;
    }
