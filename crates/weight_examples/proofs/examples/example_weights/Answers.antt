use Rattle.weight_examples.proofs.ExampleWeights.{example_weights}
use Rattle.weight_examples.proofs.examples.example_weights.Goals as goal

pub returns : goal.returns
returns c = example_weights
