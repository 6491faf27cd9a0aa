use Rattle.circuits.specs.Net.{holds}
use Rattle.circuits.specs.Chosen.{AreAlike}
use Rattle.circuits.proofs.chosen.settled.Given as goal

abbrev pub invariant-loop-choice : goal.invariant-loop-choice
invariant-loop-choice l = AreAlike l.nodes (λ v. holds v l.nodes l.fn.live) l.bits l.word.items
