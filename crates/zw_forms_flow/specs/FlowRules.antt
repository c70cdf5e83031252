-- The rules of blocks, choices, loops, leaving, assignments and calls: one case for each kind of node, and none for a kind that isn't of this crate.
use Rattle.std.specs.Prelude.{Option, Some}
use Rattle.zw_tree.specs.declared.kind.NodeKind.{NodeKind}
use Rattle.zw_tree.specs.declared.kind.NodeKind.TheVariants as kind
use Rattle.zw_env.specs.FlowParts.{Rule}
use Rattle.zw_forms_flow.specs.Blocks.{block_rule}
use Rattle.zw_forms_flow.specs.Choices.{if_rule}
use Rattle.zw_forms_flow.specs.Loops.{while_rule, for_rule}
use Rattle.zw_forms_flow.specs.Leaving.{break_rule, continue_rule, return_rule, unreachable_rule}
use Rattle.zw_forms_flow.specs.Assignments.{assign_rule, update_of, operator_of}
use Rattle.zw_forms_flow.specs.Calls.{call_rule}

abbrev pub flow_rule : {N : Type 0} → NodeKind → Option (Rule N)
flow_rule kind.Block = Some block_rule
flow_rule kind.If = Some if_rule
flow_rule kind.While = Some while_rule
flow_rule kind.For = Some for_rule
flow_rule kind.Break = Some break_rule
flow_rule kind.Continue = Some continue_rule
flow_rule kind.Return = Some return_rule
flow_rule kind.Unreachable = Some unreachable_rule
flow_rule kind.Assign = Some assign_rule
flow_rule kind.Call = Some call_rule
flow_rule other = update_of (operator_of other)
