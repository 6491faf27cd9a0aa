use Rattle.std.proofs.Common.{◌≡◌, take, length}
use Rattle.c_meaning.proofs.memory.Memory.cut.Given as goal

-- the cells to be kept are those of the start
abbrev pub invariant-loop-self : goal.invariant-loop-self
invariant-loop-self l = record {
  cells : take l.cells l.self.cells ≡ take l.cells l.initial.self.cells;
  room : l.self.room ≡ l.initial.self.room;
}

abbrev pub decreases-loop-self : goal.decreases-loop-self
decreases-loop-self l = length l.self.cells
