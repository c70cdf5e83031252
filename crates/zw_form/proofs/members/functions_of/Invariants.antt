use Rattle.std.proofs.Common.{take}
use Rattle.zw_form.specs.Listed.{AreFunctions, declared_at}
use Rattle.zw_form.proofs.members.functions_of.Given as goal

abbrev pub invariant-loop-member : goal.invariant-loop-member
invariant-loop-member l = AreFunctions (declared_at l.text l.tokens l.ast (take l.member-index l.members)) l.functions
