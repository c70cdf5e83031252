use Rattle.std.proofs.Common.{refl}
use Rattle.zw_wasm.proofs.ClosedCode.{closed-code}
use Rattle.zw_wasm.proofs.StructuredCode.{spelled-code}
use Rattle.zw_wasm.proofs.execution.code_is_structured.Goals as goal

pub returns : goal.returns
returns c = record {
  spelled = spelled-code;
  read = closed-code;
  behind_end = refl;
  one = refl;
  two = refl;
  empty = refl;
  in_turn = refl;
  nested = refl;
  outer_else = refl;
  in_else = refl;
  block = refl;
  loop = refl;
  block_in_if = refl;
}
