use Rattle.std.proofs.Common.{◌≡◌, ◌≤◌, ◌++◌}
use Rattle.c_meaning.specs.Cells.{cells_from}
use Rattle.run_state.proofs.cells.add_started.Given as goal

-- so many stand behind the first ones, and no room is lost
abbrev pub invariant-loop-index : goal.invariant-loop-index
invariant-loop-index l = record {
  cells : l.memory.cells ≡ l.initial.memory.cells ++ cells_from l.object 0 l.index l.values;
  kept : l.initial.memory.room ≤ l.memory.room;
}
