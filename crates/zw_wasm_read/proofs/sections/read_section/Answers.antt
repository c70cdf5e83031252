use Rattle.zw_wasm.specs.ModuleBytes.{IsByteVector, IsVector}
use Rattle.zw_wasm_read.proofs.Exits.{part_unfit}
use Rattle.zw_wasm_read.proofs.SectionLemmas.{frame, unframed, of_frame, stop_no_frame, stop_no_end, stop_no_entry, no_end_of, no_entry_of}
use Rattle.zw_wasm_read.proofs.sections.read_section.Goals as goal

pub returns-in-Err-Unfit : goal.returns-in-Err-Unfit
returns-in-Err-Unfit g c = stop_no_frame _ g.T.Decode.spells _ _ _ c.stop.ensures (unframed _ _ c.requires.first (part_unfit IsByteVector _ _ c.in-Err-Unfit.ensures c.in-Err-Unfit.field-0-is))

pub returns-in-Ok-read_entries : goal.returns-in-Ok-read_entries
returns-in-Ok-read_entries g c = of_frame _ (IsVector g.T.Decode.spells _) _ _ _ (frame _ _ _ _ c.requires.first c.in-Ok.ensures) c.in-Ok-read_entries.ensures

pub returns-in-Err-NoEnd : goal.returns-in-Err-NoEnd
returns-in-Err-NoEnd g c = stop_no_end _ g.T.Decode.spells _ _ _ _ _ c.stop-in-Err-NoEnd.ensures (frame _ _ _ _ c.requires.first c.in-Ok.ensures) (no_end_of g.T.Decode.spells _ _ c.in-Err-NoEnd.ensures c.in-Err-NoEnd.field-0-is)

pub returns-in-Err-NoEntry : goal.returns-in-Err-NoEntry
returns-in-Err-NoEntry g c =
    let n = no_entry_of g.T.Decode.spells _ _ _ c.in-Err-NoEntry.ensures c.in-Err-NoEntry.field-0-is in
    stop_no_entry _ g.T.Decode.spells _ _ _ _ _ n.0 _ c.stop-in-Err-NoEntry.ensures (frame _ _ _ _ c.requires.first c.in-Ok.ensures) n.1 n.2
