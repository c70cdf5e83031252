use Rattle.std.proofs.Common.{ℕ, Some, ◌∙◌, sym, ap}
use Rattle.zw_scope.specs.NameRules.{label_takes}
use Rattle.zw_scope.proofs.RuleLemmas.{jump-read}
use Rattle.zw_scope.proofs.rules.takes_jump.Goals as goal

pub returns-in-None : goal.returns-in-None
returns-in-None c = λ scope h.
    let jump = jump-read c.args.ast.now c.in-Some.name c.in-Some.ensures.0 _ c.in-Some.ensures.1 c.text.result.now c.text.ensures c.args.wants_loop scope in
    sym (jump ∙ ap (label_takes c.args.wants_loop scope.defers) (c.in-None.ensures scope.labels h.labels))

pub returns-in-Some-open_label : goal.returns-in-Some-open_label
returns-in-Some-open_label c = λ scope h.
    let jump = jump-read c.args.ast.now c.in-Some.name c.in-Some.ensures.0 _ c.in-Some.ensures.1 c.text.result.now c.text.ensures c.args.wants_loop scope in
    c.label_takes.ensures
    ∙ ap (λ (d : ℕ). label_takes c.args.wants_loop d (Some c.in-Some-open_label.label.now)) h.defers
    ∙ sym (jump ∙ ap (label_takes c.args.wants_loop scope.defers) (c.in-Some-open_label.ensures scope.labels h.labels))
