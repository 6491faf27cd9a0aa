use Rattle.std.proofs.Common.{◌≡◌, ◌-◌, false, length, drop}
use Rattle.way_tests.specs.Code.{is_yes, taken}
use Rattle.way_tests.proofs.answer.answer.Given as goal

abbrev pub invariant-loop-at : goal.invariant-loop-at
invariant-loop-at l = is_yes (taken l.model l.memory.cells 0 l.yes (drop l.at l.steps)) ≡ is_yes (taken l.model l.memory.cells 0 false l.steps)

abbrev pub decreases-loop-at : goal.decreases-loop-at
decreases-loop-at l = length l.steps - l.at
