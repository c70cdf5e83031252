-- Each text computes.
use Rattle.std.proofs.Common.{refl}
use Rattle.zw_num.specs.Arithmetic.{power}
use Rattle.zw_values.specs.Sameness.{is_same}
use Rattle.zw_sema.proofs.laws.statements_are_worked.Goals as goal

pub returns : goal.returns
unfolding power is_same
returns c = record {
  first = record { seven = refl; constant = refl; variable = refl; either = refl; other = refl };
  loops = record { steps = refl; steps_short = refl; otherwise = refl; otherwise_none = refl; for_ever = refl; left = refl; outer = refl; outer_short = refl; value_found = refl; value = refl; plain_continue = refl; step_continue = refl; never = refl; host = refl; host_running = refl; host_wants = refl };
  ranges = record { three = refl; three_short = refl; beside = refl; down = refl; down_open = refl; down_open_up = refl; down_open_empty = refl; differ = refl; differ_open = refl; differ_open_same = refl; first_down = refl; range_else = refl; range_else_none = refl; capture_written = refl; capture_count = refl; no_end = refl; not_truth = refl; body_value = refl };
  blocks = record { two_out = refl; two_out_other = refl; changed = refl; known = refl; joined = refl; joined_other = refl; chain = refl; chain_second = refl; chain_third = refl; chain_last = refl; unknown = refl; unknown_other = refl; unknown_past = refl; discarded = refl; discarded_done = refl; nothing = refl; behind_return = refl; ended = refl; arm = refl; arm_other = refl; dead = refl; dead_other = refl };
  calls = record { nested = refl; nested_short = refl; nested_past = refl; order = refl; each_other = refl; each_other_short = refl; unevaluated = refl; type_of = refl; reached = refl; second_unit = refl; never = refl; by_name = refl; nothing_back = refl };
  active = record { recursion = refl; recursion_short = refl; active = refl; active_less = refl; endless_none = refl; endless_one = refl; endless_five = refl; argument = refl; never_back = refl; local_name = refl; depth = refl; depth_less = refl; behind_arguments = refl; behind_arguments_running = refl };
  refused = record { breaks = refl; lost = refl; lost_sum = refl; arm_alone = refl; arm_known = refl; loop_value = refl; behind = refl; returns_void = refl; returns_value = refl; ends = refl; goes_back = refl; bound = refl; bound_type = refl };
  stops = record { left_value = refl; left_call = refl; falls = refl; no_peer = refl; two_known = refl; no_type = refl; too_big = refl; too_big_break = refl; arguments = refl; argument = refl; no_function = refl; unreached = refl; parameter_early = refl; itself = refl; no_truth = refl; early_call = refl; early_loop = refl };
  stores = record { to_constant = refl; to_parameter = refl; right_first = refl; update_constant = refl; to_file = refl; to_value = refl; to_local = refl; parens = refl; wider = refl; shifted_zero = refl; shifted = refl; wrapped = refl; amount = refl; zero = refl; signed = refl; discard_void = refl; discard_function = refl; quota = refl };
  ends = record { known_loop = refl; chosen = refl; or_return = refl; or_return_other = refl; step_left = refl; step_left_other = refl; break_in_step = refl; out_of_inner = refl; out_of_inner_inner = refl; next_of_range = refl; next_of_range_short = refl; past_end = refl; past_blank = refl; else_returns = refl; else_returns_none = refl; each_turn = refl; stays = refl };
  counted = record { seven = refl; variable = refl; through_call = refl; choice = refl; range = refl; for_ever = refl; twice = refl };
  passing = record { returned_twice = refl; const_ends = refl; store_ends = refl; condition_ends = refl; bound_ends = refl; both_return = refl; both_return_other = refl; may_fall = refl; inner_break = refl; break_unwalked = refl; continue_ends = refl; peer_range = refl; break_range = refl; no_else = refl; once = refl; through_constant = refl };
  early = record { block = refl; first = refl; past_inner = refl; past_rest = refl; in_sum = refl; value = refl; range = refl; variable = refl; inside = refl; signature = refl; export_order = refl; comptime_parameter = refl; type_of_call = refl; type_of_return = refl; unreachable_part = refl };
  whole = record { container_variable = refl; not_mentioned = refl; unevaluated = refl; two_functions = refl; own_variables = refl; host_loop = refl; host_loop_wants = refl; host_loop_running = refl; many = refl; many_one = refl; many_two = refl; many_none = refl; truth = refl; truth_other = refl; nothing_variable = refl; sessions = refl; division = refl; unused_operand = refl; before_export = refl; to_capture_operator = refl; argument_range = refl };
  reaching = record { not_called = refl; known_arm = refl; open_arm = refl; peer = refl; peer_other = refl; deep = refl; deep_too_deep = refl; known_sum = refl; spin = refl; spin_more = refl; block_first = refl; export_first = refl; inline = refl; known_parameter = refl };
}
