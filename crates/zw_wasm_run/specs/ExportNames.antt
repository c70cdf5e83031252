-- ExportNames: exports by their names.
use Rattle.std.specs.Prelude.{ℕ, List, map, nat_eq, Option, Some, None, if◌then◌else◌}
use Rattle.zw_wasm.specs.declared.module.ExportDef.{ExportDef}

-- the names, in the order of the exports
abbrev pub export_names : List ExportDef → List (List ℕ)
export_names exports = map (λ (e : ExportDef). e.name) exports

-- the number of what is exported, where it is of this kind
abbrev pub of_kind : ℕ → Option ExportDef → Option ℕ
of_kind kind None = None
of_kind kind (Some e) = if nat_eq e.kind kind then Some e.index else None
