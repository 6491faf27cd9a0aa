-- The example programs weigh and draw so much: by computation.
use Rattle.std.proofs.Common.{refl}
use Rattle.weight_examples.specs.ExampleWeights.{ExampleWeights}

pub example_weights : ExampleWeights
example_weights = record {
  step_of_a_char = refl;
  an_input = refl;
  bits_of_an_input = refl;
  a_loop = refl;
  bits_of_a_loop = refl;
  a_loop_invariant = refl;
  a_location_invariant = refl;
  no_place = refl;
  calls = refl;
  bits_of_statics = refl;
  a_chain = refl;
  an_argument = refl;
  bits_of_two = refl;
  an_array = refl;
  bits_of_an_array = refl;
  two_dimensions = refl;
  bits_of_two_dimensions = refl;
  a_switch = refl;
  two_calls = refl;
  one_deep = refl;
  too_heavy = refl;
  not_too_heavy = refl;
}
