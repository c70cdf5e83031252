use Rattle.std.proofs.Common.{ap, sym, ◌∙◌}
use Rattle.zw_wasm.specs.ModuleMachine.{param_types}
use Rattle.zw_rows_modules.proofs.machines.call.Goals as goal

pub call-requires-clause-typed : goal.call-requires-clause-typed
call-requires-clause-typed c = c.are_of.ensures c.if-not-are_of.false ∙ (c.as_slice.ensures ∙ sym (ap param_types c.export_type.ensures))
