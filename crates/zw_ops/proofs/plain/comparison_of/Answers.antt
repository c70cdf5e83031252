-- Both operands mention types of the table.
use Rattle.std.proofs.Common.{length}
use Rattle.zw_ops.proofs.OperandLemmas.{held_two}
use Rattle.zw_ops.proofs.plain.comparison_of.Goals as goal

pub compare-requires-clause-a_held : goal.compare-requires-clause-a_held
compare-requires-clause-a_held c = (held_two (length c.args.types.now.trees) c.args.args.now c.in-Some.a.now c.in-Some.b.now c.in-Some.ensures c.requires).0

pub compare-requires-clause-b_held : goal.compare-requires-clause-b_held
compare-requires-clause-b_held c = (held_two (length c.args.types.now.trees) c.args.args.now c.in-Some.a.now c.in-Some.b.now c.in-Some.ensures c.requires).1
