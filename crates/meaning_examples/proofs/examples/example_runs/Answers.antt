use Rattle.meaning_examples.proofs.ExampleRuns.{example_runs}
use Rattle.meaning_examples.proofs.examples.example_runs.Goals as goal

pub returns : goal.returns
returns c = example_runs
