use Rattle.std.proofs.Common.{◌≡◌, Some, drop}
use Rattle.zw_wasm.specs.Typing.{all_taken}
use Rattle.zw_wasm_check.specs.Operands.{operands_of}
use Rattle.zw_wasm_check.proofs.operands.take_all.Given as goal

abbrev pub invariant-loop-place : goal.invariant-loop-place
invariant-loop-place l = all_taken (drop l.place l.types) (operands_of l.initial.operands) l.unreachable ≡ Some (operands_of l.operands)
