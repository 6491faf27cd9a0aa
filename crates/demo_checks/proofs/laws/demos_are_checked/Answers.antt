use Rattle.demo_checks.proofs.Programs.{correct_checked, faulty_checked}
use Rattle.demo_checks.proofs.laws.demos_are_checked.Goals as goal

pub returns-clause-correct : goal.returns-clause-correct
returns-clause-correct c = correct_checked

pub returns-clause-faulty : goal.returns-clause-faulty
returns-clause-faulty c = faulty_checked
