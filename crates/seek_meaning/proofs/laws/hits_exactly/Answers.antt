use Rattle.seek_meaning.proofs.Decided.{decided}
use Rattle.seek_meaning.proofs.laws.hits_exactly.Goals as goal

pub returns : goal.returns
returns c = λ p. decided p (c.bounds_are_never_met.ensures p)
