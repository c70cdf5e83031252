use Rattle.std.proofs.Common.{◌∙◌, sym, ap, arith}
use Rattle.zw_tree.specs.Numbering.{below}
use Rattle.zw_scope_sites.specs.Scopes.{is_label, label_in}
use Rattle.zw_scope_sites.proofs.SayLemmas.{label-found, label-passed, items-end, found-through}
use Rattle.zw_scope_sites.proofs.nodes.label_in.Goals as goal

pub returns-then-is_label : goal.returns-then-is_label
returns-then-is_label c =
    let is = sym (ap is_label c.kind.ensures) ∙ sym c.is_label.ensures ∙ c.if-is_label.true in
    let found = label-found c.args.ast.now c.args.n c.children-child-items.result.now c.children-child-items.ensures c.loop-child.child-index (omega arith) is in
    found-through c.name_in.result (label_in (below c.args.ast.now c.args.n)) _ c.args.ast.now (sym c.loop-child.invariant ∙ found) c.name_in.ensures

pub loop-child-preserved : goal.loop-child-preserved
loop-child-preserved c =
    let is = sym (ap is_label c.kind.ensures) ∙ sym c.is_label.ensures ∙ c.if-is_label.false in
    label-passed c.args.ast.now c.args.n c.children-child-items.result.now c.children-child-items.ensures c.loop-child.child-index (omega arith) is ∙ c.loop-child.invariant

pub returns : goal.returns
returns c =
    sym c.loop-child.invariant ∙ ap label_in (items-end c.args.ast.now c.args.n c.loop-child.child-index c.children-child-items.result.now c.children-child-items.ensures (omega arith))
