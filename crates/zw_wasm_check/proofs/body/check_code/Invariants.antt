use Rattle.std.proofs.Common.{◌≡◌, []}
use Rattle.std.specs.Option.{option_to_list}
use Rattle.zw_wasm.specs.Typing.{body_control, check_code}
use Rattle.zw_wasm_check.specs.Stacks.{context_of}
use Rattle.zw_wasm_check.proofs.Coding.{goes_on}
use Rattle.zw_wasm_check.proofs.body.check_code.Given as goal

abbrev pub invariant-loop-at : goal.invariant-loop-at
invariant-loop-at l =
    check_code (context_of l.m l.ty l.locals) 0 l.instrs [] (body_control (option_to_list l.ty.result)) []
    ≡ goes_on (context_of l.m l.ty l.locals) l.at l.instrs l.stacks
