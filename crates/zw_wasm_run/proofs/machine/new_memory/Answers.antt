use Rattle.std.proofs.Common.{◌+◌, rules, subst}
use Rattle.zw_wasm_run.proofs.Beginning.{memory_outside}
use Rattle.zw_wasm_run.specs.Machines.{IsOutOfRange}
use Rattle.zw_wasm_run.proofs.machine.new_memory.Goals as goal

pub returns-in-Some-clause-value : goal.returns-in-Some-clause-value
returns-in-Some-clause-value c =
    memory_outside c.args.m.now c.in-Some.outside c.out_of_range.result (search rules)
    (subst (λ k. IsOutOfRange (k + c.in-Some.outside) c.out_of_range.result) c.len.ensures c.out_of_range.ensures)
