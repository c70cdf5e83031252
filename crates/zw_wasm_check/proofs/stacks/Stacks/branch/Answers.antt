use Rattle.std.proofs.Common.{◌-◌, ap, ◌∙◌, get_or, option_map, Some, arith}
use Rattle.std.specs.Option.{option_to_list}
use Rattle.zw_wasm.specs.Typing.{Control}
use Rattle.zw_wasm_check.specs.declared.stacks.Entry.{Entry}
use Rattle.zw_wasm_check.proofs.Coding.{branch_outer}
use Rattle.zw_wasm_check.specs.Stacks.{control_of}
use Rattle.zw_wasm_check.proofs.stacks.Stacks.branch.Goals as goal

pub returns : goal.returns
returns c =
    ap (option_map (λ (d : Control). d.branch))
    (branch_outer (control_of c.args.self.now.control) c.args.self.now.outer c.args.label (c.len-2.result - c.args.label) c.index-as_slice-place.result
    (c.index-as_slice-place.is ∙ ap (λ es. get_or es (c.len-2.result - c.args.label) c.index-as_slice-place.result) c.as_slice.ensures) (omega arith) (omega arith))
    ∙ ap (λ (e : Entry). Some (option_to_list e.branch_type)) c.index-as_slice-place.is
