use Rattle.std.proofs.Common.{ap}
use Rattle.zw_base.specs.declared.stop.Stop.{Stop}
use Rattle.zw_base.specs.declared.stop.StopKind.TheVariants.{Error}
use Rattle.zw_tree.specs.declared.ast.Node.{Node}
use Rattle.zw_scope.proofs.CheckLemmas.{place-is}
use Rattle.zw_scope.proofs.check.stop_at.Goals as goal

pub returns : goal.returns
returns c = λ entry at.
    ap (λ (n : Node). let s : Stop = record { kind = Error c.args.told.error; place = n.place } in s) (place-is c.args.ast.now c.args.told.node c.requires c.node.result.now c.node.ensures entry at)
