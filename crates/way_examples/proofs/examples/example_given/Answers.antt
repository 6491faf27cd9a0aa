use Rattle.way_examples.proofs.ExampleGiven.{example_given}
use Rattle.way_examples.proofs.examples.example_given.Goals as goal

pub returns : goal.returns
returns c = example_given
