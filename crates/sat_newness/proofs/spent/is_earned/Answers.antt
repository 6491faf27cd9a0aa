use Rattle.sat_newness.proofs.Settled.{earned_by}
use Rattle.sat_newness.proofs.spent.is_earned.Goals as goal

pub returns : goal.returns
returns c = λ e j d. earned_by c.args.cnf.now.variables c.args.cnf.now.clauses c.args.budget c.in-Some.k c.in-Some.ensures.1 (c.in_ok-undecided.ensures e) j d
