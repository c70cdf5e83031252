use Rattle.std.proofs.Common.{◌++◌, List, subst}
use Rattle.zw_scope_sites.specs.Lists.{IsBindings}
use Rattle.zw_scope_sites.specs.declared.lists.Binding.{Binding}
use Rattle.zw_scope_sites.proofs.SiteLemmas.{declared-members}
use Rattle.zw_scope_sites.proofs.sites.declare.Goals as goal

pub returns-clause-head : goal.returns-clause-head
returns-clause-head c = λ bs h.
    subst (λ (ns : List Binding). IsBindings c.loop-left.lists c.loop-left.head (ns ++ bs)) (declared-members c.args.ast.now c.args.n c.children-members.result.now c.children-members.ensures c.loop-left.left c.loop-left-test.false) (c.loop-left.invariant.head bs h)
