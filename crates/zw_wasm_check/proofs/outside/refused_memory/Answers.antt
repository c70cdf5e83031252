use Rattle.std.proofs.Common.{None, sym}
use Rattle.zw_wasm.specs.Validity.{memory_ok}
use Rattle.zw_wasm_check.proofs.RefusedLemmas.{refused_second}
use Rattle.zw_wasm_check.proofs.outside.refused_memory.Goals as goal

pub returns-in-len1-up-2 : goal.returns-in-len1-up-2
returns-in-len1-up-2 c =
    sym (refused_second memory_ok c.args.memories.now (record { least = 0; greatest = None }) c.in-len1-up-2.len_at_least c.if-not-are_pages.ensures)
