use Rattle.std.proofs.Common.{sym, ap, ◌∙◌}
use Rattle.zw_wasm.specs.declared.module.Module.{Module}
use Rattle.zw_wasm_run.specs.Performing.{back, of_other}
use Rattle.zw_wasm_run.specs.Running.{body_of}
use Rattle.zw_wasm_run.proofs.Beginnings.{steps_so}
use Rattle.zw_wasm_run.proofs.sequences.enter_loop.Goals as goal

pub returns-clause-performs : goal.returns-clause-performs
returns-clause-performs c =
    let m = c.args.m.now in
    let old = c.args.stacks.now in
    of_other (steps_so m c.args.shared.now (back old) c.in_ok-effect.effect c.taken.result c.repeat.new.stacks c.taken.ensures
    (c.in_ok-effect.ensures.takes m (c.instrs.ensures ∙ ap (λ (x : Module). body_of x old.frame.body) (sym c.requires.same))))
