use Rattle.way_examples.proofs.ExamplePassing.{example_passing}
use Rattle.way_examples.proofs.examples.example_passing.Goals as goal

pub returns : goal.returns
returns c = example_passing
