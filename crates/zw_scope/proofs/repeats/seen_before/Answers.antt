use Rattle.zw_scope.proofs.RepeatLemmas.{seen-new, seen-old}
use Rattle.zw_scope.proofs.repeats.seen_before.Goals as goal

pub returns-then-branch-clause-told : goal.returns-then-branch-clause-told
returns-then-branch-clause-told c = λ before passes. seen-new c.args.ast.now c.args.name c.text.result.now c.text.ensures before _ _ passes (rw c.if-branch.true at c.in_ok-insert.ensures)

pub returns-else-branch-clause-told : goal.returns-else-branch-clause-told
returns-else-branch-clause-told c = λ before passes. seen-old c.args.ast.now c.args.name c.text.result.now c.text.ensures before _ _ passes (rw c.if-branch.false at c.in_ok-insert.ensures)
