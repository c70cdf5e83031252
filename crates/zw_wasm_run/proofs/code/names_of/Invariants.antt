use Rattle.std.proofs.Common.{◌≡◌, take}
use Rattle.zw_names.specs.NameSets.{names_in}
use Rattle.zw_wasm_run.specs.ExportNames.{export_names}
use Rattle.zw_wasm_run.proofs.code.names_of.Given as goal

abbrev pub invariant-loop-export : goal.invariant-loop-export
invariant-loop-export l = names_in l.names ≡ export_names (take l.export-index l.m.exports)
