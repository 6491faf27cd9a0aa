-- The example programs have these obligations and havoc runs: by computation.
use Rattle.std.proofs.Common.{refl}
use Rattle.c_core.specs.Types.{residue, signed_of, wrapped}
use Rattle.meaning_examples.specs.ExampleHavocRuns.{ExampleHavocRuns}

pub example_havoc_runs : ExampleHavocRuns
unfolding residue signed_of wrapped
example_havoc_runs = record {
  steps_of_a_char = refl;
  a_char_wraps = refl;
  duties_of_a_loop = refl;
  kept = refl;
  dismissed = refl;
  left_with_it = refl;
  duties_of_a_weaker_one = refl;
  too_weak = refl;
  strong_enough_here = refl;
  beyond_the_bound = refl;
  duties_of_a_false_one = refl;
  false_on_arrival = refl;
  duties_of_counting = refl;
  last_turn = refl;
  after_the_last_turn = refl;
  out_of_bounds = refl;
  duties_of_adding = refl;
  last_sum = refl;
  no_more_sums = refl;
  greatest_is_dismissed = refl;
  duty_of_a_call = refl;
  difference_is_zero = refl;
  duties_of_calls = refl;
  counted_in_a_call = refl;
  no_turn_left = refl;
  already_counted = refl;
  all_cells = refl;
  duties_of_an_inner_loop = refl;
  left_untested = refl;
  duty_of_a_sum = refl;
  overflows_in_32_bits = refl;
  duty_of_a_long_sum = refl;
  fits_in_64_bits = refl;
  duty_behind_a_switch = refl;
  falls_through = refl;
  leaves_by_break = refl;
  goes_by_default = refl;
  continued_in_an_arm = refl;
  rows_reach_the_error = refl;
  no_such_column = refl;
}
