use Rattle.c_duties.proofs.Numbers.{fails_at_duties, tells_obligations}
use Rattle.c_duties.proofs.laws.failing_runs_fail_at_duties.Goals as goal

pub returns : goal.returns
returns c = record { at_duties = fails_at_duties; by_number = tells_obligations }
