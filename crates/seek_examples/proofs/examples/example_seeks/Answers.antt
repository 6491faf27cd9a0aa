use Rattle.seek_examples.proofs.ExampleSeeks.{example_seeks}
use Rattle.seek_examples.proofs.examples.example_seeks.Goals as goal

pub returns : goal.returns
returns c = example_seeks
