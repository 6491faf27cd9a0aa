use Rattle.demo_checks.proofs.Programs.{correct_has_program, faulty_has_program}
use Rattle.demo_checks.proofs.laws.demos_have_programs.Goals as goal

pub returns-clause-correct : goal.returns-clause-correct
returns-clause-correct c = correct_has_program

pub returns-clause-faulty : goal.returns-clause-faulty
returns-clause-faulty c = faulty_has_program
