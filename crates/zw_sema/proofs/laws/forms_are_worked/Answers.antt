-- Each example computes.
use Rattle.std.proofs.Common.{refl}
use Rattle.zw_num.specs.Arithmetic.{power}
use Rattle.zw_values.specs.Sameness.{is_same}
use Rattle.zw_sema.proofs.laws.forms_are_worked.Goals as goal

pub returns-clause-operators : goal.returns-clause-operators
unfolding power is_same
returns-clause-operators c =
    record {
      quotient = refl;
      by_zero = refl;
      by_known_zero = refl;
      literal_by_zero = refl;
      negative_numerator = refl;
      negated_byte = refl;
      not_number = refl;
      not_literal = refl;
      truth_sum = refl;
      truth_order = refl;
      truth_number = refl;
      exact = refl;
      wraps = refl;
      stays = refl;
      least = refl;
      from_truth = refl;
      same_bits = refl;
      one_operand = refl;
      unbuilt = refl;
      unknown_literal = refl;
      returned_literal = refl;
      cast_literal = refl;
      past_literal = refl;
      deep = refl;
    }

pub returns-clause-functions : goal.returns-clause-functions
unfolding power is_same
returns-clause-functions c =
    record {
      empty = refl;
      no_return = refl;
      bare_return = refl;
      odd_width = refl;
      reserved = refl;
      odd_extern = refl;
      unmentioned = refl;
      ignored = refl;
      no_function = refl;
      unbuilt_statement = refl;
      behind_return = refl;
      unknown = refl;
    }

pub returns-clause-types : goal.returns-clause-types
unfolding power is_same
returns-clause-types c =
    record {
      same = refl;
      wider = refl;
      signed = refl;
      truths = refl;
      size = refl;
      literal = refl;
      no_peer = refl;
      no_order = refl;
      of_parameter = refl;
      of_peers = refl;
      by_name = refl;
      by_name_past = refl;
    }
