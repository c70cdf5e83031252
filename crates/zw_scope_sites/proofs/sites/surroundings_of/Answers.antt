use Rattle.std.proofs.Common.{Some, ap}
use Rattle.zw_scope_sites.proofs.BoundLemmas.{nothing-bound}
use Rattle.zw_scope_sites.proofs.SiteLemmas.{shows-kept}
use Rattle.zw_scope_sites.proofs.sites.surroundings_of.Goals as goal

pub returns-clause-surrounds : goal.returns-clause-surrounds
returns-clause-surrounds c = λ scope h.
    let taken = c.in_ok-taken.ensures.shows scope h in
    record {
      parent = ap Some c.kind.ensures;
      plain = record { shows = shows-kept c.args.lists.now c.taken.new.lists c.in_ok-taken.ensures.grows c.args.view scope h; seen = c.in_ok-taken.ensures.grows.bindings c.args.view.names scope.visible h.names };
      taken = record { shows = taken; seen = taken.names };
      siblings = nothing-bound c.taken.new.lists;
    }
