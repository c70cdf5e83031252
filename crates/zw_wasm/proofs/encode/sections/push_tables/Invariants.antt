use Rattle.std.proofs.Common.{◌≡◌, ◌++◌, take, All}
use Rattle.std.specs.List.{flat_map}
use Rattle.zw_wasm.specs.Spelling.{table_type}
use Rattle.zw_wasm.specs.Fits.{FitsLimits}
use Rattle.zw_wasm.proofs.encode.sections.push_tables.Given as goal

-- the tables so far stand at the end, and fit
abbrev pub invariant-loop-table : goal.invariant-loop-table
invariant-loop-table l = record {
  spelled : l.out.items ≡ l.fn.out.items ++ flat_map table_type (take l.table-index l.tables);
  fit : All FitsLimits (take l.table-index l.tables);
}
