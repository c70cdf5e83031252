use Rattle.zw_scope.specs.MembersOf.{Names}
use Rattle.zw_scope.proofs.MemberLemmas.{each-more, sized-more}
use Rattle.zw_scope.proofs.members.named_of.Goals as goal

pub loop-n-preserved : goal.loop-n-preserved
loop-n-preserved c = record {
  sized = sized-more c.loop-n.list.items c.push.new.self.items c.named.result c.loop-n.n c.in_ok-push.ensures.items c.loop-n.invariant.sized;
  each = each-more (Names c.args.ast.now) c.loop-n.list.items c.push.new.self.items c.named.result c.loop-n.n c.in_ok-push.ensures.items c.loop-n.invariant.sized c.loop-n.invariant.each c.named.ensures;
}
