use Rattle.way_examples.proofs.ExampleVerdicts.{example_verdicts}
use Rattle.way_examples.proofs.examples.example_verdicts.Goals as goal

pub returns : goal.returns
returns c = example_verdicts
