-- The example witnesses give these values: by computation.
use Rattle.std.proofs.Common.{refl}
use Rattle.c_core.specs.Types.{residue, signed_of, wrapped}
use Rattle.way_examples.specs.ExampleGiven.{ExampleGiven}

pub example_given : ExampleGiven
unfolding residue signed_of wrapped
example_given = record {
  equals = refl;
  equals_turned = refl;
  in_a_declaration = refl;
  first_of_chain = refl;
  first_of_chain_grouped = refl;
  name_passed_over = refl;
  undefined_counts = refl;
  either = refl;
  negated = refl;
  differs = refl;
  other_object = refl;
  labelled = refl;
  cast = refl;
  compound = refl;
  element = refl;
  two_names = refl;
  inner_block = refl;
  same_arm = refl;
  next_arm = refl;
  returned = refl;
  defined_call = refl;
  greater = refl;
  avoided = refl;
  fitted_return = refl;
  fitted_assumption = refl;
}
