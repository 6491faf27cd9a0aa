use Rattle.author_runs.proofs.Violating.{violations_end}
use Rattle.author_runs.proofs.laws.violations_end_runs.Goals as goal

pub returns : goal.returns
returns c = violations_end
