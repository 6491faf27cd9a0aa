use Rattle.seek_examples.proofs.ExampleSeeks.{example_bounds}
use Rattle.seek_examples.proofs.examples.example_bounds.Goals as goal

pub returns : goal.returns
returns c = example_bounds
