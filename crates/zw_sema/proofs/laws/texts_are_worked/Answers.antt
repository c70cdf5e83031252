-- Each example computes.
use Rattle.std.proofs.Common.{refl}
use Rattle.zw_num.specs.Arithmetic.{power}
use Rattle.zw_values.specs.Sameness.{is_same}
use Rattle.zw_sema.proofs.laws.texts_are_worked.Goals as goal

pub returns-clause-integers : goal.returns-clause-integers
unfolding power is_same
returns-clause-integers c =
    record {
      sum_is_fine = refl;
      sum_holds = refl;
      sum_past = refl;
      shift_is_fine = refl;
      shift_past = refl;
      product_past = refl;
      product_zero = refl;
      quotient_past = refl;
      quotient_of_zero = refl;
      rest = refl;
      rest_of_zero = refl;
      negative = refl;
      past_type = refl;
      no_number = refl;
      too_wide = refl;
    }

pub returns-clause-constants : goal.returns-clause-constants
unfolding power is_same
returns-clause-constants c = record { loop = refl; known_sum_past = refl; known_sum = refl; not_reached = refl; function_not_reached = refl }

pub returns-clause-host : goal.returns-clause-host
unfolding power is_same
returns-clause-host c =
    record {
      before_sum = refl;
      behind_sum = refl;
      sum = refl;
      in_argument = refl;
      second_panics = refl;
      three = refl;
      reply = refl;
      truth_reply = refl;
      no_reply = refl;
      argument_past = refl;
      no_argument = refl;
      at_compile_time = refl;
    }

pub returns-clause-truths : goal.returns-clause-truths
unfolding power is_same
returns-clause-truths c =
    record {
      not_analysed = refl;
      analysed = refl;
      the_other = refl;
      and_true = refl;
      and_false = refl;
      or_true = refl;
      or_not_analysed = refl;
      or_analysed = refl;
      left_number = refl;
    }

pub returns-clause-wanted : goal.returns-clause-wanted
unfolding power is_same
returns-clause-wanted c =
    record {
      initialiser = refl;
      as_operand = refl;
      in_parentheses = refl;
      in_sum = refl;
      peer = refl;
      narrow = refl;
      amount = refl;
      amount_fits = refl;
      cast = refl;
      cast_of_none = refl;
      cast_past = refl;
      measured = refl;
      type_of = refl;
      literal_amount = refl;
      no_amount = refl;
      saturating_amount = refl;
      negative_amount = refl;
      in_least = refl;
    }
