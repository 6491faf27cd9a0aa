-- Weights of runs within a bound, by computation.
use Rattle.std.proofs.Common.{refl}
use Rattle.seek_examples.specs.ExampleSeekWeights.{ExampleSeekWeights}

pub example_seek_weights : ExampleSeekWeights
example_seek_weights = record {
  one_turn = refl;
  two_turns = refl;
  three_turns = refl;
  one_deep = refl;
  two_deep = refl;
  callee_alone = refl;
  both_callees = refl;
  none_deeper = refl;
  a_return = refl;
  an_assumption_and_a_way = refl;
  steps_of_two_turns = refl;
  bits_of_an_input = refl;
  bits_of_a_cell = refl;
  no_bits = refl;
}
