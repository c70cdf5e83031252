use Rattle.std.proofs.Common.{◌∙◌, sym, ap, arith}
use Rattle.zw_scope_sites.specs.Scopes.{is_name, name_in}
use Rattle.zw_scope_sites.proofs.SayLemmas.{item-within, name-found, name-passed, items-end}
use Rattle.zw_scope_sites.proofs.nodes.name_in.Goals as goal

pub returns-then-is_name : goal.returns-then-is_name
returns-then-is_name c =
    let is = sym (ap is_name c.kind.ensures) ∙ sym c.is_name.ensures ∙ c.if-is_name.true in (
      item-within c.args.ast.now c.args.n c.children-child-items.result.now c.children-child-items.ensures c.loop-child.child-index (omega arith),
      sym c.loop-child.invariant ∙ name-found c.args.ast.now c.args.n c.children-child-items.result.now c.children-child-items.ensures c.loop-child.child-index (omega arith) is,
    )

pub loop-child-preserved : goal.loop-child-preserved
loop-child-preserved c =
    let is = sym (ap is_name c.kind.ensures) ∙ sym c.is_name.ensures ∙ c.if-is_name.false in
    name-passed c.args.ast.now c.args.n c.children-child-items.result.now c.children-child-items.ensures c.loop-child.child-index (omega arith) is ∙ c.loop-child.invariant

pub returns : goal.returns
returns c =
    sym c.loop-child.invariant ∙ ap name_in (items-end c.args.ast.now c.args.n c.loop-child.child-index c.children-child-items.result.now c.children-child-items.ensures (omega arith))
