use Rattle.sym_duties.proofs.Ends.{one_fails}
use Rattle.sym_duties.proofs.laws.one_obligation_fails.Goals as goal

pub returns : goal.returns
returns c = one_fails
