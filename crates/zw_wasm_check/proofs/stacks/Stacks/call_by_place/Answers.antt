use Rattle.std.proofs.Common.{sym, ap, ◌∙◌, List}
use Rattle.std.specs.Option.{option_to_list}
use Rattle.zw_wasm.specs.declared.module.ValType.TheVariants.{I32}
use Rattle.zw_wasm.specs.Typing.{Checked, Goes, Operand, all_taken, put_on, with_operands}
use Rattle.zw_wasm_check.proofs.Ends.{if_ok_from}
use Rattle.zw_wasm_check.proofs.Taking.{last_first}
use Rattle.zw_wasm_check.specs.Operands.{operands_of}
use Rattle.zw_wasm_check.specs.Stacks.{checked_of, control_of, outer_of}
use Rattle.zw_wasm_check.proofs.stacks.Stacks.call_by_place.Goals as goal

pub returns-then-not-take : goal.returns-then-not-take
returns-then-not-take c =
    let s = c.args.self.now in
    let t = c.args.ty.now in
    let go : List Operand → Checked = λ rest. Goes (put_on (option_to_list t.result) rest) (control_of s.control) (outer_of s.outer) in
    last_first t.params I32 (operands_of s.operands) s.control.unreachable go
    ∙ ap (λ o. with_operands o (λ rest. with_operands (all_taken t.params rest s.control.unreachable) go)) c.if-not-take.ensures

pub returns : goal.returns
returns c =
    let s = c.args.self.now in
    let t = c.args.ty.now in
    let go : List Operand → Checked = λ rest. Goes (put_on (option_to_list t.result) rest) (control_of s.control) (outer_of s.outer) in
    if_ok_from _ _ (λ q. checked_of q c.replace.new.self) c.replace.result
    (last_first t.params I32 (operands_of s.operands) s.control.unreachable go
    ∙ ap (λ o. with_operands o (λ rest. with_operands (all_taken t.params rest s.control.unreachable) go)) c.if-not-take.ensures
    ∙ ap (λ ts. with_operands (all_taken ts (operands_of c.take.new.operands) s.control.unreachable) go) (sym c.as_slice.ensures))
    c.replace.ensures
