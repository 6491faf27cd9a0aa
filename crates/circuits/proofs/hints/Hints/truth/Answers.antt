use Rattle.circuits.proofs.HintLaws.{true_after}
use Rattle.circuits.proofs.hints.Hints.truth.Goals as goal

pub returns-clause-hints : goal.returns-clause-hints
returns-clause-hints c = true_after c.truth.new.self c.requires.hints c.truth.ensures.words c.truth.ensures.more
