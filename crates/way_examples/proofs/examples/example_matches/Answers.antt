use Rattle.way_examples.proofs.ExampleVerdicts.{example_matches}
use Rattle.way_examples.proofs.examples.example_matches.Goals as goal

pub returns : goal.returns
returns c = example_matches
