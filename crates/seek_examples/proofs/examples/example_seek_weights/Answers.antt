use Rattle.seek_examples.proofs.ExampleSeekWeights.{example_seek_weights}
use Rattle.seek_examples.proofs.examples.example_seek_weights.Goals as goal

pub returns : goal.returns
returns c = example_seek_weights
