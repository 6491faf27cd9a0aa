use Rattle.seek_meaning.proofs.Agreeing.{agrees}
use Rattle.seek_meaning.proofs.laws.bounded_runs_agree.Goals as goal

pub returns : goal.returns
returns c = λ p. agrees p (c.bounds_are_never_met.ensures p)
