use Rattle.std.proofs.Common.{sym, ap, ◌∙◌}
use Rattle.zw_wasm.specs.Typing.{closed, closed_at_end}
use Rattle.zw_wasm_check.proofs.Ends.{if_ok_from}
use Rattle.zw_wasm_check.specs.Stacks.{checked_of, control_of, outer_of}
use Rattle.zw_wasm_check.proofs.stacks.Stacks.end.Goals as goal

pub returns-then-not-results_stand : goal.returns-then-not-results_stand
returns-then-not-results_stand c = λ x. c.if-not-results_stand.ensures.rule _

pub returns-then-lacks_else : goal.returns-then-lacks_else
returns-then-lacks_else c = λ x.
    c.if-not-results_stand.ensures.rule _
    ∙ ap (λ e. closed_at_end (control_of e) (outer_of c.args.self.now.outer)) (sym c.results_stand.ensures.control)
    ∙ c.if-lacks_else.ensures (outer_of c.args.self.now.outer)

pub returns : goal.returns
returns c = λ x.
    if_ok_from _ _ (λ s. checked_of s c.close.new.self) c.close.result
    (c.if-not-results_stand.ensures.rule _
    ∙ ap (λ e. closed_at_end (control_of e) (outer_of c.args.self.now.outer)) (sym c.results_stand.ensures.control)
    ∙ c.if-lacks_else.ensures (outer_of c.args.self.now.outer)
    ∙ ap (λ es. closed (control_of c.results_stand.new.self.control) (outer_of es)) (sym c.results_stand.ensures.outer))
    c.close.ensures
