use Rattle.std.proofs.Common.{◌≤◌, ◌++◌, List, drop, length}
use Rattle.std.specs.List.{flat_map}
use Rattle.zw_scope_sites.specs.Lists.{Grows, IsBindings}
use Rattle.zw_scope_sites.specs.Sites.{declared_by}
use Rattle.zw_scope_sites.specs.declared.lists.Binding.{Binding}
use Rattle.zw_scope_sites.proofs.sites.declare.Given as goal

abbrev pub invariant-loop-left : goal.invariant-loop-left
invariant-loop-left l = record {
  within : l.left ≤ length l.members;
  grows : Grows l.initial.lists l.lists;
  head : (bs : List Binding) → IsBindings l.initial.lists l.next bs → IsBindings l.lists l.head (flat_map (declared_by l.ast) (drop l.left l.members) ++ bs);
}

abbrev pub decreases-loop-left : goal.decreases-loop-left
decreases-loop-left l = l.left
