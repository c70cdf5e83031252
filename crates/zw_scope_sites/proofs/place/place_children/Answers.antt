use Rattle.std.proofs.Common.{get_or, length, ap, ◌∙◌, sym, subst, arith}
use Rattle.std.proofs.lemmas.List.{length-set}
use Rattle.zw_scope_sites.specs.Sites.{Surrounds}
use Rattle.zw_scope_sites.specs.Scopes.{Around}
use Rattle.zw_scope_sites.proofs.SayLemmas.{child-item, item-within}
use Rattle.zw_scope_sites.proofs.PlaceLemmas.{child-site, walked-child, placed-more, others-more, all-children, no-children}
use Rattle.zw_scope_sites.proofs.place.place_children.Goals as goal

pub bounds-sites-child : goal.bounds-sites-child
bounds-sites-child c =
    let within = item-within c.args.ast.now c.args.n c.children-nodes.result.now c.children-nodes.ensures c.loop-k.k (omega arith) in
    omega (arith, within, c.loop-k.invariant.sized)

pub loop-k-preserved : goal.loop-k-preserved
loop-k-preserved c =
    let file = c.args.ast.now in
    let n = c.args.n in
    let nodes = c.children-nodes.result.now in
    let k = c.loop-k.k in
    let child = get_or nodes k 0 in
    let at = child-item file n nodes c.children-nodes.ensures k (omega arith) in
    let within = item-within file n nodes c.children-nodes.ensures k (omega arith) in
    let grows = c.in_ok-around-2.ensures.grows in
    let old = c.loop-k.invariant.grows in
    record {
      sized = length-set c.loop-k.sites child c.site_of.result ∙ c.loop-k.invariant.sized;
      grows = record { bindings = λ head bs h. grows.bindings head bs (old.bindings head bs h); labels = λ head ls h. grows.labels head ls (old.labels head ls h) };
      around = λ s got has.
          subst (λ (a : Around). Surrounds c.pass.new.lists c.in_ok-around-2.around a) (sym (walked-child file n c.requires.within s got k child at))
          (c.in_ok-around-2.ensures.surrounds _ (c.loop-k.invariant.around s got has));
      placed = λ s got has.
          placed-more file n c.loop-k.lists c.pass.new.lists grows c.loop-k.sites c.loop-k.invariant.sized k child at within c.site_of.result
          (c.loop-k.invariant.placed s got has)
          (λ t there. child-site file n c.requires.within s got k child at c.loop-k.lists c.site_of.result c.kind.result c.is_end.result t
          (λ root inside behind. c.site_of.ensures c.loop-k.lists _ child root inside behind (c.loop-k.invariant.around s got has))
          c.kind.ensures (c.is_end.ensures n c.children-nodes.ensures) there);
      others = others-more file n c.loop-k.lists c.pass.new.lists grows c.loop-k.sites c.loop-k.invariant.sized k child at within c.site_of.result c.args.sites.now c.loop-k.invariant.others;
    }

pub returns-clause-placed : goal.returns-clause-placed
returns-clause-placed c = λ s got has.
    let size = ap length c.children-nodes.ensures in
    all-children c.args.ast.now c.args.n c.loop-k.k (omega arith) c.loop-k.lists c.loop-k.sites (c.loop-k.invariant.placed s got has)

pub returns-clause-others : goal.returns-clause-others
returns-clause-others c = λ m no. c.loop-k.invariant.others m (no-children c.args.ast.now c.args.n m c.requires.within no)
