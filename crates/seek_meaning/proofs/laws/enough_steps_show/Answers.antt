use Rattle.seek_meaning.proofs.Decided.{shown}
use Rattle.seek_meaning.proofs.laws.enough_steps_show.Goals as goal

pub returns : goal.returns
returns c = λ p. shown p (c.bounds_are_never_met.ensures p)
