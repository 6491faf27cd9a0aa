use Rattle.circuits.proofs.HintLaws.{true_after}
use Rattle.circuits.proofs.hints.Hints.note.Goals as goal

pub returns : goal.returns
returns c = record { hints = true_after c.note.new.self c.requires.hints c.note.ensures.words c.note.ensures.more }
