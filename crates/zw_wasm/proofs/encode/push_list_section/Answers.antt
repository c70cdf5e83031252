use Rattle.std.proofs.Common.{sym}
use Rattle.zw_wasm.proofs.Lists.{no_entries}
use Rattle.zw_wasm.proofs.encode.push_list_section.Goals as goal

pub returns-then-is_empty-clause-fit : goal.returns-then-is_empty-clause-fit
returns-then-is_empty-clause-fit g c = no_entries _ _ _ (sym c.if-is_empty.ensures)
