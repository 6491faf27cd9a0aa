use Rattle.check_wellformed.proofs.Law.{checked_program}
use Rattle.check_wellformed.proofs.laws.checked_programs_fit.Goals as goal

pub returns : goal.returns
returns c = checked_program
