use Rattle.meaning_examples.proofs.ExampleHavocRuns.{example_havoc_runs}
use Rattle.meaning_examples.proofs.examples.example_havoc_runs.Goals as goal

pub returns : goal.returns
returns c = example_havoc_runs
