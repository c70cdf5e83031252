use Rattle.std.proofs.Common.{sym, ap, ◌∙◌}
use Rattle.zw_wasm.specs.Typing.{turned}
use Rattle.zw_wasm_check.specs.Stacks.{control_of, outer_of}
use Rattle.zw_wasm_check.proofs.stacks.Stacks.turn.Goals as goal

pub returns-then-not-results_stand : goal.returns-then-not-results_stand
returns-then-not-results_stand c = λ x. c.if-not-results_stand.ensures.rule _

pub returns : goal.returns
returns c = λ x.
    c.if-not-results_stand.ensures.rule _
    ∙ ap (λ e. turned (control_of e) (outer_of c.args.self.now.outer)) (sym c.results_stand.ensures.control)
    ∙ ap (λ es. turned (control_of c.results_stand.new.self.control) (outer_of es)) (sym c.results_stand.ensures.outer)
    ∙ c.begin_else.ensures
