use Rattle.zw_wasm.specs.ModuleBytes.{IsByteVector, IsU32}
use Rattle.zw_wasm_read.proofs.Exits.{part_unfit, unfit}
use Rattle.zw_wasm_read.proofs.SectionLemmas.{frame, unframed, start_no_frame, start_no_end, start_no_index, start_section}
use Rattle.zw_wasm_read.proofs.sections.read_start.Goals as goal

pub returns-in-Err-Unfit : goal.returns-in-Err-Unfit
returns-in-Err-Unfit c = start_no_frame _ _ _ c.stop.ensures (unframed 8 _ c.requires.first (part_unfit IsByteVector _ _ c.in-Err-Unfit.ensures c.in-Err-Unfit.field-0-is))

pub returns-then-not-is_empty : goal.returns-then-not-is_empty
returns-then-not-is_empty c = start_no_end _ _ _ _ _ _ _ _ c.stop-then-not-is_empty.ensures (frame 8 _ _ _ c.requires.first c.in-Ok.ensures) c.in-Ok-read_u32.ensures c.is_empty.ensures c.if-not-is_empty.true

pub returns-else-not-is_empty : goal.returns-else-not-is_empty
returns-else-not-is_empty c = start_section _ _ _ _ _ _ (frame 8 _ _ _ c.requires.first c.in-Ok.ensures) c.in-Ok-read_u32.ensures c.is_empty.ensures c.if-not-is_empty.false

pub returns-in-Err-Unfit-read_u32 : goal.returns-in-Err-Unfit-read_u32
returns-in-Err-Unfit-read_u32 c = start_no_index _ _ _ _ _ c.stop-in-Err-Unfit-read_u32.ensures (frame 8 _ _ _ c.requires.first c.in-Ok.ensures) (unfit IsU32 _ _ c.in-Err-Unfit-read_u32.ensures c.in-Err-Unfit-read_u32.field-0-is)
