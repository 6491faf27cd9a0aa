use Rattle.circuits.specs.Words.{bits_of}
use Rattle.circuits.specs.Facts.{AllFollow, Condition, IsRest}
use Rattle.circuits.proofs.truths.specialised.Given as goal

abbrev pub invariant-loop-at : goal.invariant-loop-at
invariant-loop-at l = (here : Condition) → AllFollow l.nodes here l.known → IsRest l.nodes (bits_of l.hints.words.list.items) here l.width l.polynomial l.rest
