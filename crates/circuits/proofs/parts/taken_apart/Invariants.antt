use Rattle.circuits.specs.Facts.{Condition, AllFollow}
use Rattle.circuits.proofs.parts.taken_apart.Given as goal

abbrev pub invariant-loop-step : goal.invariant-loop-step
invariant-loop-step l = (here : Condition) → AllFollow l.nodes here l.fn.known.items → AllFollow l.nodes here l.all.items
