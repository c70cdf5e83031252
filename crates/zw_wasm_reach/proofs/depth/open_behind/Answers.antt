use Rattle.std.proofs.Common.{arith}
use Rattle.zw_wasm_reach.proofs.Opening.{behind-beginning, behind-other}
use Rattle.zw_wasm_reach.proofs.depth.open_behind.Goals as goal

pub returns-in_default : goal.returns-in_default
returns-in_default c = record {
  most = λ is. behind-other c.args.before c.args.instr.now is c.in_default.not-Block c.in_default.not-Loop c.in_default.not-If c.in_default.not-End;
  by_one = omega arith;
}

pub returns-in-Block-clause-most : goal.returns-in-Block-clause-most
returns-in-Block-clause-most c = λ is. behind-beginning c.args.before c.args.instr.now is c.in-Block.is
