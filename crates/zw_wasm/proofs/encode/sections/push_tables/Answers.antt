use Rattle.zw_wasm.specs.Fits.{FitsLimits}
use Rattle.zw_wasm.specs.Spelling.{table_type}
use Rattle.zw_wasm.proofs.Lists.{all_more, each_more}
use Rattle.zw_wasm.proofs.encode.sections.push_tables.Goals as goal

pub loop-table-preserved : goal.loop-table-preserved
loop-table-preserved c = record {
  spelled = each_more table_type _ _ _ _ _ _ c.loop-table-test.true c.loop-table.invariant.spelled c.in_ok-push_table.ensures.spelled;
  fit = all_more FitsLimits _ _ _ c.loop-table-test.true c.loop-table.invariant.fit c.in_ok-push_table.ensures.fit;
}
