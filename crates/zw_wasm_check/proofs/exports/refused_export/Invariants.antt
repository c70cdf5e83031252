use Rattle.std.proofs.Common.{◌≡◌, map, take, drop}
use Rattle.zw_wasm.specs.Validity.{export_ok, first_refused}
use Rattle.zw_wasm.specs.declared.module.ExportDef.{ExportDef}
use Rattle.zw_names.specs.NameSets.{names_in}
use Rattle.zw_wasm_check.proofs.exports.refused_export.Given as goal

abbrev pub invariant-loop-number : goal.invariant-loop-number
invariant-loop-number l = record {
  before : names_in l.names ≡ map (λ (e : ExportDef). e.name) (take l.number l.m.exports);
  goes_on : first_refused (export_ok l.m) 0 l.m.exports ≡ first_refused (export_ok l.m) l.number (drop l.number l.m.exports);
}
