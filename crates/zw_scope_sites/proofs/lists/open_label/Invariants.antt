use Rattle.std.proofs.Common.{◌≡◌, List}
use Rattle.zw_scope_sites.specs.Lists.{IsLabels}
use Rattle.zw_scope_sites.specs.declared.lists.OpenLabel.{OpenLabel}
use Rattle.zw_scope_sites.specs.Scopes.{open_label}
use Rattle.zw_scope_sites.proofs.lists.open_label.Given as goal

abbrev pub invariant-loop-link : goal.invariant-loop-link
invariant-loop-link l = (ls : List OpenLabel) → IsLabels l.lists l.head ls → (rest : List OpenLabel) × IsLabels l.lists l.at rest × (open_label ls l.name ≡ open_label rest l.name)

abbrev pub decreases-loop-link : goal.decreases-loop-link
decreases-loop-link l = l.at
