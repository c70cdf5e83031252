-- The operand names a type of the table.
use Rattle.std.proofs.Common.{length}
use Rattle.zw_ops.proofs.OperandLemmas.{held_type, held_one}
use Rattle.zw_ops.proofs.measures.measure.Goals as goal

pub measure_of-requires-clause-held : goal.measure_of-requires-clause-held
measure_of-requires-clause-held c =
    let count = length c.args.types.now.trees in
    held_type count c.in-Some.operand.now c.in-OfType.ty (held_one count c.args.args.now c.in-Some.operand.now c.in-Some.ensures c.requires.held) c.in-OfType.is
