use Rattle.std.proofs.Common.{◌≡◌, None, sym, ap, subst, ◌∙◌, rules}
use Rattle.zw_wasm.specs.declared.module.Module.{Module}
use Rattle.zw_wasm.specs.Functions.{func_type}
use Rattle.zw_wasm.specs.Validity.{IsValid}
use Rattle.zw_wasm_run.proofs.Functions.{typed_export}
use Rattle.zw_wasm_run.proofs.held.Machine.export_type.Goals as goal

pub unreachable-requires : goal.unreachable-requires
unreachable-requires c =
    let m = c.module-module.result.now in
    let same : m ≡ c.args.self.now.code = c.module-module.ensures.same ∙ c.checked.ensures in
    let none : func_type m c.args.export ≡ None = search rules in
    typed_export c.args.self.now.code c.args.export (subst IsValid same c.module-module.ensures.valid) c.requires (ap (λ (x : Module). func_type x c.args.export) (sym same) ∙ none)
