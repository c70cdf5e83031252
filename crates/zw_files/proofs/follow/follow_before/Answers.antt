use Rattle.std.proofs.Common.{Some, ap, ◌∙◌, ◌<◌, length, drop, arith}
use Rattle.zw_tree.specs.Trees.{preorder}
use Rattle.zw_tree.proofs.Nodes.{count-preorder}
use Rattle.zw_files.specs.Discovery.{follow_all}
use Rattle.zw_files.specs.Gathering.{paths_in}
use Rattle.zw_files.specs.Imports.{imports_from}
use Rattle.zw_files.proofs.FollowLemmas.{follows-no, follows-stop, follows-on}
use Rattle.zw_files.proofs.follow.follow_before.Goals as goal

pub returns-then-not-is_import-clause-named : goal.returns-then-not-is_import-clause-named
returns-then-not-is_import-clause-named c =
    let within : c.args.literal < length (preorder c.args.ast.now) = omega (arith, count-preorder c.args.ast.now) in
    follows-no c.args.root.now c.args.path.now (paths_in c.args.paths.now) c.args.numbers.now (preorder c.args.ast.now) c.args.literal c.requires.some within
    (c.is_import.ensures ∙ ap Some c.if-not-is_import.true)

pub returns-in-Err-clause-named : goal.returns-in-Err-clause-named
returns-in-Err-clause-named c =
    let within : c.args.literal < length (preorder c.args.ast.now) = omega (arith, count-preorder c.args.ast.now) in
    follows-stop c.args.root.now c.args.path.now (paths_in c.args.paths.now) (paths_in c.follow.new.paths) c.args.numbers.now (preorder c.args.ast.now) c.args.literal
    c.node.result.now c.name.result.now c.requires.some within (c.is_import.ensures ∙ ap Some c.if-not-is_import.false) c.node.ensures c.name.ensures
    (follow_all c.args.root.now c.args.path.now (paths_in c.follow.new.paths) c.args.numbers.now (imports_from c.args.literal (drop c.args.literal (preorder c.args.ast.now))))
    c.in-Err.refused c.in-Err.ensures.named

pub returns-clause-named : goal.returns-clause-named
returns-clause-named c =
    let within : c.args.literal < length (preorder c.args.ast.now) = omega (arith, count-preorder c.args.ast.now) in
    follows-on c.args.root.now c.args.path.now (paths_in c.args.paths.now) (paths_in c.follow.new.paths) c.args.numbers.now (preorder c.args.ast.now) c.args.literal
    c.node.result.now c.name.result.now c.requires.some within (c.is_import.ensures ∙ ap Some c.if-not-is_import.false) c.node.ensures c.name.ensures
    c.in-Ok.number c.push.new.self c.in-Ok.ensures.named c.in_ok-push.ensures.ok
