-- Which values are hits, by computation.
use Rattle.std.proofs.Common.{refl}
use Rattle.c_core.specs.Types.{residue, signed_of, wrapped}
use Rattle.seek_examples.specs.ExampleSeeks.{ExampleBounds, ExampleSeeks}

pub example_bounds : ExampleBounds
unfolding residue signed_of wrapped
example_bounds = record {
  three_turns = λ w. refl;
  third_turn_beyond = λ w. refl;
  four_deep = λ w. refl;
  fourth_call_beyond = λ w. refl;
  two_deep_twice = refl;
  two_deep_beyond = refl;
  calls_in_a_loop = refl;
  no_call = refl;
  left_in_second = refl;
  left_beyond = refl;
  do_within = refl;
  do_beyond = refl;
  inner_anew = refl;
  inner_beyond = refl;
  endless_within = refl;
  endless_beyond = refl;
  last_test = refl;
  switches_within = refl;
  switches_beyond = refl;
}

pub example_seeks : ExampleSeeks
unfolding residue signed_of wrapped
example_seeks = record {
  five = refl;
  five_is_drawn = refl;
  six = refl;
  no_value = refl;
  fitted = refl;
  five_is_not_six = refl;
  six_is_no_error = refl;
  elsewhere = refl;
  on_its_line = refl;
  no_segment = refl;
  seven_in_a_cell = refl;
  eight_in_a_cell = refl;
  overflows = refl;
  wraps = refl;
  quotient = refl;
  by_zero = refl;
  later_position = refl;
  avoided_itself = refl;
  avoided_before = refl;
  avoided_after = refl;
  assumptions_share = refl;
  three_share = refl;
  returns_differ = refl;
  never_back = refl;
  entered = refl;
  entered_four_times = refl;
  not_five_times = refl;
  entry_avoided = refl;
  parameter_is_zero = refl;
  parameter_is_one = refl;
  returned = refl;
  meets_none = refl;
  avoids_none = refl;
  first_way = refl;
  second_way = refl;
  loop_left = refl;
  loop_left_avoided = refl;
  case_chosen = refl;
  other_case = refl;
  default_way = refl;
  case_avoided = refl;
  each_way = refl;
}
