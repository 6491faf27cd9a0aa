-- The example programs run as they must: by computation.
use Rattle.std.proofs.Common.{refl}
use Rattle.c_core.specs.Types.{residue, signed_of, wrapped}
use Rattle.meaning_examples.specs.ExampleRuns.{ExampleRuns}

pub example_runs : ExampleRuns
unfolding residue signed_of wrapped
example_runs = record {
  five_violates = refl;
  ten_steps_are_spent = refl;
  six_ends = refl;
  six_ends_in_ten = refl;
  given_five_violates = refl;
  no_value_draws_zero = refl;
  greatest_overflows = refl;
  least_by_minus_one_overflows = refl;
  by_zero_is_undefined = refl;
  three_is_counted_down = refl;
  ten_is_reached = refl;
  three_calls_are_counted = refl;
  error_after_three_turns = refl;
  error_after_recursion = refl;
  one_falls_through = refl;
  two_is_left_by_break = refl;
  seven_goes_by_default = refl;
  jumps_of_arms = refl;
  rows_are_filled = refl;
  fourth_of_three_columns = refl;
  third_of_two_rows = refl;
  room_for_two = refl;
  no_room_for_three = refl;
}
