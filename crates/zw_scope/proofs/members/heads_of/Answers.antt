use Rattle.std.proofs.Common.{[]}
use Rattle.zw_scope_sites.proofs.BoundLemmas.{nothing-bound}
use Rattle.zw_scope.specs.MembersOf.{Declares}
use Rattle.zw_scope.proofs.MemberLemmas.{each-more, sized-more, declares-kept, declares-now}
use Rattle.zw_scope.proofs.members.heads_of.Goals as goal

pub loop-n-preserved : goal.loop-n-preserved
loop-n-preserved c = record {
  sized = sized-more c.loop-n.heads.items c.push.new.self.items c.in_ok-head.head c.loop-n.n c.in_ok-push.ensures.items c.loop-n.invariant.sized;
  each = each-more (Declares c.args.ast.now c.declare.new.lists) c.loop-n.heads.items c.push.new.self.items c.in_ok-head.head c.loop-n.n c.in_ok-push.ensures.items c.loop-n.invariant.sized
      (declares-kept c.args.ast.now c.loop-n.lists c.declare.new.lists c.in_ok-head.ensures.grows c.loop-n.heads.items c.loop-n.n c.loop-n.invariant.each)
      (declares-now c.args.ast.now c.declare.new.lists c.loop-n.n c.in_ok-head.head (c.in_ok-head.ensures.head [] (nothing-bound c.loop-n.lists)));
}
