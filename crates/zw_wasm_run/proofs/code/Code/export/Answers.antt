use Rattle.std.proofs.Common.{◌≡◌, List, ap, subst, ◌∙◌}
use Rattle.std.specs.Prelude.{option_copied, slice_get}
use Rattle.zw_wasm.specs.declared.module.ExportDef.{ExportDef}
use Rattle.zw_wasm.specs.declared.module.Module.{Module}
use Rattle.zw_wasm.specs.Validity.{IsValid}
use Rattle.zw_names.specs.NameSets.{names_in}
use Rattle.zw_wasm_run.specs.ExportNames.{export_names}
use Rattle.zw_wasm_run.proofs.ExportLemmas.{exported_so}
use Rattle.zw_wasm_run.proofs.code.Code.export.Goals as goal

pub returns : goal.returns
returns c =
    let m = c.args.self.now in
    let same : c.module.result.now ≡ m = c.module.ensures.same ∙ c.self.view_is in
    let exports : c.as_slice.result.now ≡ m.exports = c.as_slice.ensures ∙ ap (λ (x : Module). x.exports) same in
    let found = c.at.ensures ∙ ap (λ (es : List ExportDef). slice_get es c.number_in-number.result) exports ∙ ap (slice_get m.exports) c.number_in-number.ensures in
    let names = c.self.invariant.1 ∙ ap (λ (x : Module). export_names x.exports) c.self.view_is in
    c.of_kind.ensures
    ∙ exported_so m c.args.kind c.args.name.now (names_in c.self.inside.names) (option_copied c.at.result) (subst IsValid same c.module.ensures.valid) names found
