use Rattle.std.proofs.Common.{◌≡◌, ◌≤◌, ◌+◌, length, drop}
use Rattle.flow_laws.specs.Acting.{with_parameters}
use Rattle.flow_machine.proofs.calling.set_parameters.Given as goal

-- what is left gives what the whole gives; each parameter so far has a cell
abbrev pub invariant-loop-index : goal.invariant-loop-index
invariant-loop-index l = record {
  cells : with_parameters (drop l.index l.parameters) (drop l.index l.values) l.memory.cells ≡ with_parameters l.parameters l.values l.initial.memory.cells;
  count : length l.memory.cells ≡ length l.initial.memory.cells + l.index;
  room : l.initial.memory.room ≤ l.memory.room;
}
