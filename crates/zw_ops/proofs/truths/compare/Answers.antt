-- Operands of type `type` name types of the table.
use Rattle.std.proofs.Common.{length}
use Rattle.zw_ops.proofs.OperandLemmas.{held_type}
use Rattle.zw_ops.proofs.truths.compare.Goals as goal

pub is_same-requires-clause-a_held : goal.is_same-requires-clause-a_held
is_same-requires-clause-a_held c = held_type (length c.args.types.now.trees) c.args.a.now c.in-OfType-OfType.a c.requires.a_held c.in-OfType-OfType.is-0

pub is_same-requires-clause-b_held : goal.is_same-requires-clause-b_held
is_same-requires-clause-b_held c = held_type (length c.args.types.now.trees) c.args.b.now c.in-OfType-OfType.b c.requires.b_held c.in-OfType-OfType.is-1
