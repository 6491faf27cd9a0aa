use Rattle.demo_run.proofs.Violated.{demo_violates}
use Rattle.demo_run.proofs.laws.demos_violate.Goals as goal

pub returns : goal.returns
returns c = demo_violates
