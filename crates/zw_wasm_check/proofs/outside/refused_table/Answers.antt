use Rattle.std.proofs.Common.{None, sym}
use Rattle.zw_wasm.specs.declared.module.Limits.{Limits}
use Rattle.zw_wasm.specs.Validity.{in_limits}
use Rattle.zw_wasm_check.proofs.RefusedLemmas.{refused_second}
use Rattle.zw_wasm_check.proofs.outside.refused_table.Goals as goal

pub returns-in-len1-up-2 : goal.returns-in-len1-up-2
returns-in-len1-up-2 c =
    sym (refused_second (λ (l : Limits). in_limits l.least l.greatest) c.args.tables.now (record { least = 0; greatest = None }) c.in-len1-up-2.len_at_least c.if-not-are_in_order.ensures)
