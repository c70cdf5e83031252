use Rattle.std.proofs.Common.{◌∙◌, ap}
use Rattle.zw_scope_sites.specs.Scopes.{is_else}
use Rattle.zw_scope_sites.proofs.PlaceLemmas.{end-some, end-none}
use Rattle.zw_scope_sites.proofs.place.is_end.Goals as goal

pub returns-in-Some : goal.returns-in-Some
returns-in-Some c = λ n are.
    let at = c.in-Some.ensures.lookup in
    c.is_else.ensures ∙ ap is_else c.kind.ensures ∙ end-some c.args.ast.now n c.args.index c.in-Some.next.now c.args.nodes.now are at.3.0 at.1

pub returns-in-None : goal.returns-in-None
returns-in-None c = λ n are. end-none c.args.ast.now n c.args.index c.args.nodes.now are c.in-None.ensures.lookup.3
