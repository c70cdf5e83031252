use Rattle.zw_wasm.specs.ModuleBytes.{IsByteVector, IsName}
use Rattle.zw_wasm_read.proofs.Exits.{part_unfit}
use Rattle.zw_wasm_read.proofs.SectionLemmas.{frame, unframed, custom, nameless, custom_stop}
use Rattle.zw_wasm_read.specs.Stops.{IsBadCustom}
use Rattle.zw_wasm_read.proofs.sections.pass_custom.Goals as goal

pub returns-in-Err-Unfit : goal.returns-in-Err-Unfit
returns-in-Err-Unfit c = custom_stop _ _ _ c.stop.ensures (IsBadCustom.no_frame (unframed 0 _ c.requires.first (part_unfit IsByteVector _ _ c.in-Err-Unfit.ensures c.in-Err-Unfit.field-0-is)))

pub returns-in-Ok-read_text : goal.returns-in-Ok-read_text
returns-in-Ok-read_text c = custom _ _ _ _ _ (frame 0 _ _ _ c.requires.first c.in-Ok.ensures) c.in-Ok-read_text.ensures

pub returns-in-Err-Unfit-read_text : goal.returns-in-Err-Unfit-read_text
returns-in-Err-Unfit-read_text c = custom_stop _ _ _ c.stop-in-Err-Unfit-read_text.ensures (IsBadCustom.no_name _ _ (frame 0 _ _ _ c.requires.first c.in-Ok.ensures) (nameless _ (part_unfit IsName _ _ c.in-Err-Unfit-read_text.ensures c.in-Err-Unfit-read_text.field-0-is)))
