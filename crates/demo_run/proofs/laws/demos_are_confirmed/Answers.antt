use Rattle.demo_run.proofs.Violated.{demo_is_confirmed}
use Rattle.demo_run.proofs.laws.demos_are_confirmed.Goals as goal

pub returns : goal.returns
returns c = demo_is_confirmed
