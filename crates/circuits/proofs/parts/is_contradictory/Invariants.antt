use Rattle.circuits.proofs.parts.is_contradictory.Given as goal

abbrev pub invariant-loop-at : goal.invariant-loop-at
invariant-loop-at l = Unit {0}
