use Rattle.demo_run.proofs.Violated.{correct_checked, faulty_checked}
use Rattle.demo_run.proofs.laws.demos_are_typed.Goals as goal

pub returns-clause-correct : goal.returns-clause-correct
returns-clause-correct c = correct_checked

pub returns-clause-faulty : goal.returns-clause-faulty
returns-clause-faulty c = faulty_checked
