use Rattle.std.proofs.Common.{rules}
use Rattle.zw_wasm_run.proofs.Beginning.{table_outside}
use Rattle.zw_wasm_run.proofs.machine.new_table.Goals as goal

pub returns-in-Some : goal.returns-in-Some
returns-in-Some c = table_outside c.args.m.now c.in-Some.outside c.out_of_range.result (search rules) c.out_of_range.ensures
