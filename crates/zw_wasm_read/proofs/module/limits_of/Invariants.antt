use Rattle.std.proofs.Common.{◌≡◌, ◌++◌, drop, map}
use Rattle.zw_wasm_read.specs.declared.vectors.TableType.{TableType}
use Rattle.zw_wasm_read.proofs.module.limits_of.Given as goal

-- the limits so far, and those of the other tables
abbrev pub invariant-loop-table : goal.invariant-loop-table
invariant-loop-table l = l.limits ++ map (λ (table : TableType). table.limits) (drop l.table-index l.tables) ≡ map (λ (table : TableType). table.limits) l.tables
