use Rattle.std.proofs.Common.{true, take}
use Rattle.circuits.specs.Facts.{Condition, IsAnswer}
use Rattle.circuits.specs.Chosen.{AreAlike}
use Rattle.circuits.proofs.chosen.rest_of_word.Given as goal

abbrev pub invariant-loop-at : goal.invariant-loop-at
invariant-loop-at l = (here : Condition) → IsAnswer l.nodes here l.test true → AreAlike l.nodes here (take l.at l.word) l.rest.items
