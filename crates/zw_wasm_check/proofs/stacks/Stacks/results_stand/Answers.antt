use Rattle.std.proofs.Common.{sym, ap, ◌∙◌}
use Rattle.zw_wasm.specs.Typing.{all_taken}
use Rattle.zw_wasm_check.proofs.Ends.{as_list, end_rule}
use Rattle.zw_wasm_check.specs.Operands.{operands_of}
use Rattle.zw_wasm_check.specs.Stacks.{control_of}
use Rattle.zw_wasm_check.proofs.stacks.Stacks.results_stand.Goals as goal

pub returns-clause-rule : goal.returns-clause-rule
returns-clause-rule c = λ go.
    let s = c.args.self.now in
    end_rule (control_of s.control) (operands_of s.operands) _ c.is_empty.result go
    (ap (λ ts. all_taken ts (operands_of s.operands) s.control.unreachable) (sym (as_list s.control.result_type _ c.as_slice.ensures)) ∙ c.if-not-take_all.ensures)
    c.is_empty.ensures
