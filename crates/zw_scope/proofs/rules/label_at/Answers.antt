use Rattle.std.proofs.Common.{◌∙◌, sym, ap}
use Rattle.zw_scope_sites.specs.Scopes.{opens_label, is_label}
use Rattle.zw_scope.proofs.RuleLemmas.{label-told, label-kept}
use Rattle.zw_scope.proofs.rules.label_at.Goals as goal

pub returns-then-opens_label-is_open-clause-told : goal.returns-then-opens_label-is_open-clause-told
returns-then-opens_label-is_open-clause-told c = λ s read.
    let is = sym (c.is_label.ensures ∙ ap is_label c.kind.ensures) ∙ c.if-not-is_label.false in
    label-told c.args.ast.now c.args.lists.now c.args.site c.args.n s read c.in_ok-name.name c.in_ok-name.ensures.0 c.in_ok-name.ensures.1 c.text.result.now c.text.ensures c.opens_label.result c.is_open-is_open.result is
    (c.opens_label.ensures ∙ ap opens_label read.placed.parent) (c.is_open-is_open.ensures s.scope.labels read.placed.scope.labels) c.if-opens_label-is_open.true

pub returns-else-opens_label-is_open-clause-told : goal.returns-else-opens_label-is_open-clause-told
returns-else-opens_label-is_open-clause-told c = λ s read.
    let is = sym (c.is_label.ensures ∙ ap is_label c.kind.ensures) ∙ c.if-not-is_label.false in
    label-kept c.args.ast.now c.args.lists.now c.args.site c.args.n s read c.in_ok-name.name c.in_ok-name.ensures.0 c.in_ok-name.ensures.1 c.text.result.now c.text.ensures c.opens_label.result c.is_open-is_open.result is
    (c.opens_label.ensures ∙ ap opens_label read.placed.parent) (c.is_open-is_open.ensures s.scope.labels read.placed.scope.labels) c.if-opens_label-is_open.false
