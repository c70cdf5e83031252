use Rattle.std.proofs.Common.{◌-◌, ap, ◌∙◌, arith}
use Rattle.zw_tree.specs.Trees.{preorder}
use Rattle.zw_tree.proofs.Nodes.{count-preorder}
use Rattle.zw_files.specs.Discovery.{follow_all}
use Rattle.zw_files.specs.Gathering.{paths_in}
use Rattle.zw_files.proofs.FollowLemmas.{imports-end}
use Rattle.zw_files.proofs.follow.follow_all.Goals as goal

pub returns-clause-named : goal.returns-clause-named
returns-clause-named c =
    let n = c.loop-literal.literal - 1 in
    c.loop-literal.invariant.same
    ∙ ap (follow_all c.args.root.now c.args.path.now (paths_in c.loop-literal.paths) c.loop-literal.numbers)
    (imports-end (preorder c.args.ast.now) n n (omega (arith, count-preorder c.args.ast.now)))
