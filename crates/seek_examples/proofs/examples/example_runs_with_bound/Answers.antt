use Rattle.seek_examples.proofs.ExampleRunsWithBound.{example_runs_with_bound}
use Rattle.seek_examples.proofs.examples.example_runs_with_bound.Goals as goal

pub returns : goal.returns
returns c = example_runs_with_bound
