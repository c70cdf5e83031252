use Rattle.std.proofs.Common.{refl}
use Rattle.zw_wasm_read.specs.Sections.{OptionalStart}
use Rattle.zw_wasm_read.proofs.SectionLemmas.{is_first, not_first, start_past}
use Rattle.zw_wasm_read.proofs.sections.read_optional_start.Goals as goal

pub returns-then-not-begins_with : goal.returns-then-not-begins_with
returns-then-not-begins_with c = OptionalStart.left_out refl (not_first 8 _ _ c.begins_with.ensures c.if-not-begins_with.true)

pub returns-in_err-rest : goal.returns-in_err-rest
returns-in_err-rest c = start_past _ _ _ _ _ _ c.from_residual-in_err-rest.ensures.1 c.in_ok-index.ensures c.in_err-rest.ensures

pub returns : goal.returns
returns c = OptionalStart.there _ _ (is_first 8 _ _ c.begins_with.ensures c.if-not-begins_with.false) c.in_ok-index.ensures c.in_ok-rest.ensures
