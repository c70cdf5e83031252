use Rattle.std.proofs.Common.{refl, rules}
use Rattle.zw_wasm.specs.declared.module.Instr.TheVariants as instr
use Rattle.zw_wasm_run.proofs.Executing.{executes_locals}
use Rattle.zw_wasm_run.proofs.operands.local_set.Goals as goal

pub returns-clause-executes : goal.returns-clause-executes
returns-clause-executes c =
    executes_locals c.args.m.now (instr.LocalSet c.args.n) c.args.shared.now c.args.stacks.now c.set.result c.taken.result _ c.taken.ensures (search rules) refl refl refl
