use Rattle.zw_wasm_read.specs.Sections.{Optional}
use Rattle.zw_wasm_read.proofs.SectionLemmas.{is_first, optional_past}
use Rattle.zw_wasm_read.proofs.sections.read_optional.Goals as goal

pub returns-in_err-rest : goal.returns-in_err-rest
returns-in_err-rest g c = optional_past _ g.T.Decode.spells _ _ _ _ _ _ c.from_residual-in_err-rest.ensures.1 c.in_ok-items.ensures c.in_err-rest.ensures

pub returns : goal.returns
returns g c = Optional.there _ (is_first _ _ _ c.begins_with.ensures c.if-not-begins_with.false) c.in_ok-items.ensures c.in_ok-rest.ensures
