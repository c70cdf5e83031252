use Rattle.std.proofs.Common.{arith}
use Rattle.zw_scope.proofs.RepeatLemmas.{there-more, names-more, names-end}
use Rattle.zw_scope.proofs.repeats.names_by.Goals as goal

pub loop-child-preserved : goal.loop-child-preserved
loop-child-preserved c = record {
  there = there-more c.args.ast.now c.args.n c.children-child-items.result.now c.children-child-items.ensures c.loop-child.child-index (omega arith) c.args.named c.name_of.result c.name_of.ensures c.loop-child.names.items c.push.new.names.items c.in_ok-push.ensures c.loop-child.invariant.there;
  are = names-more c.args.ast.now c.args.n c.children-child-items.result.now c.children-child-items.ensures c.loop-child.child-index (omega arith) c.args.named c.name_of.result c.name_of.ensures c.loop-child.names.items c.push.new.names.items c.in_ok-push.ensures c.loop-child.invariant.are;
}

pub returns-clause-are : goal.returns-clause-are
returns-clause-are c = names-end c.args.ast.now c.args.n c.children-child-items.result.now c.children-child-items.ensures c.loop-child.child-index (omega arith) c.args.named c.loop-child.names.items c.loop-child.invariant.are
