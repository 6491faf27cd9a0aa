use Rattle.seek_examples.proofs.ExampleJudgedRuns.{example_judged_runs}
use Rattle.seek_examples.proofs.examples.example_judged_runs.Goals as goal

pub returns : goal.returns
returns c = example_judged_runs
