use Rattle.circuits.proofs.HintLaws.{true_after}
use Rattle.circuits.proofs.hints.Hints.told.Goals as goal

pub returns-clause-hints : goal.returns-clause-hints
returns-clause-hints c = true_after c.polynomial.new.self c.requires.hints c.polynomial.ensures.words c.polynomial.ensures.more
