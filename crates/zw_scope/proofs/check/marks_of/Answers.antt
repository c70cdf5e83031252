use Rattle.std.proofs.Common.{arith}
use Rattle.zw_scope.proofs.MarkLemmas.{mentioned-next, mentioned-whole}
use Rattle.zw_scope.proofs.check.marks_of.Goals as goal

pub loop-n-preserved : goal.loop-n-preserved
loop-n-preserved c = mentioned-next c.args.ast.now c.loop-n.n (omega arith) _ c.named.result c.named.ensures (c.mark.ensures c.args.ast.now _ c.loop-n.invariant)

pub returns : goal.returns
returns c = mentioned-whole c.args.ast.now c.loop-n.n (omega arith) c.loop-n.marks.items c.loop-n.invariant
