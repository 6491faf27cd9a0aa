-- The example waypoints are passed as they must: by computation.
use Rattle.std.proofs.Common.{refl}
use Rattle.c_core.specs.Types.{residue, signed_of, wrapped}
use Rattle.way_examples.specs.ExamplePassing.{ExamplePassing}

pub example_passing : ExamplePassing
unfolding residue signed_of wrapped
example_passing = record {
  unsigned_equals = refl;
  unsigned_greater = refl;
  unsigned_in_long_long = refl;
  promoted = refl;
  int_equals = refl;
  int_differs = refl;
  undefined_constant = refl;
  wrapped_constant = refl;
  no_value = refl;
  no_constraint = refl;
  return_elsewhere = refl;
  holds = refl;
  does_not_hold = refl;
  any_value_but_zero = refl;
  wraps = refl;
  undefined = refl;
  no_such_cell = refl;
  statement_elsewhere = refl;
  statement = refl;
  full_expression = refl;
  call = refl;
  no_call = refl;
  other_column = refl;
  line_of_call = refl;
  other_line = refl;
  no_violation = refl;
  entered = refl;
  not_returned = refl;
  not_entered = refl;
  taken = refl;
  other_way = refl;
  other_branching = refl;
  chosen = refl;
  other_arm = refl;
  by_default = refl;
  no_default = refl;
}
