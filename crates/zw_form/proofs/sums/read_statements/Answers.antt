use Rattle.std.proofs.Common.{◌<◌, length, arith}
use Rattle.zw_form.proofs.WorkLemmas.{statement-then}
use Rattle.zw_form.proofs.sums.read_statements.Goals as goal

pub loop-n-preserved : goal.loop-n-preserved
loop-n-preserved c =
    let within : c.loop-n.n-index < length c.args.nodes.now = omega arith in
    let read = rw c.if-not-branch.false at c.in_ok-read_statement.ensures in
    (read.1, statement-then c.args.text.now c.args.tokens.now c.args.ast.now c.args.nodes.now c.loop-n.n-index within c.loop-n.reader c.read_statement.new.reader _ read.0 c.loop-n.invariant.1)
