-- Each example computes.
use Rattle.std.proofs.Common.{refl}
use Rattle.zw_num.specs.Arithmetic.{power, reversed}
use Rattle.zw_values.specs.Sameness.{is_same}
use Rattle.zw_values.proofs.laws.worked_operations.Goals as goal

pub returns-clause-integers : goal.returns-clause-integers
unfolding power reversed lib.Count.count_leading_zeros lib.Count.count_trailing_zeros lib.Count.ones
returns-clause-integers c = record { sum = refl; sum_past = refl; difference_past = refl; difference_least = refl; product_past = refl; sum_wraps = refl; difference_wraps = refl; product_wraps = refl; sum_stays = refl; difference_stays = refl; product_stays = refl; quotient = refl; by_zero = refl; rest = refl; rest_by_zero = refl; truncated = refl; truncated_past = refl; floored = refl; exact = refl; exact_rest = refl; exact_past = refl; rem = refl; rem_least = refl; modulo = refl; modulo_by_negative = refl; both = refl; either = refl; just_one = refl; turned = refl; turned_signed = refl; left = refl; left_past = refl; right = refl; left_stays = refl; left_exact = refl; right_exact = refl; negated = refl; negated_past = refl; negated_wraps = refl; absolute = refl; least = refl; greatest = refl; zeros_before = refl; zeros_behind = refl; ones = refl; bytes = refl; bits = refl; cast = refl; cast_past = refl; cast_negative = refl; cast_signed = refl; lowest = refl; lowest_of_any = refl; same_bits = refl; as_number = refl }

pub returns-clause-comptime_numbers : goal.returns-clause-comptime_numbers
unfolding power
returns-clause-comptime_numbers c = record { last_power = refl; past_power = refl; sum_past = refl; product_past = refl; negated_past = refl; absolute_past = refl; by_zero = refl; negative_amount = refl }

pub returns-clause-values : goal.returns-clause-values
unfolding is_same power
returns-clause-values c = record { less = refl; not_less = refl; at_most = refl; greater = refl; at_least = refl; same = refl; differ = refl; same_truths = refl; truths_differ = refl; same_types = refl; types_differ = refl; negation = refl; both = refl; first_decides = refl; second_is_it = refl; either = refl; integer_bits = refl; truth_bits = refl; as_type = refl; copied = refl; computed = refl; times_nothing = refl; shifted = refl; negated = refl; counted = refl; compared = refl; decided = refl; denied = refl; least = refl }
