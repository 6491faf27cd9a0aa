use Rattle.c_meaning.specs.Slots.{Passes}
use Rattle.c_meaning.proofs.slots.scan.Given as goal

-- none so far ends the search
abbrev pub invariant-loop-at : goal.invariant-loop-at
invariant-loop-at l = Passes (record { object = l.object; index = l.index }) l.slots l.from l.at
