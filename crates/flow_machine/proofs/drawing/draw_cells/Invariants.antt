use Rattle.std.proofs.Common.{◌≡◌, ◌+◌, ◌-◌}
use Rattle.std.specs.Prelude.{vec_len}
use Rattle.flow_laws.specs.Acting.{cells_drawn}
use Rattle.flow_machine.specs.Rooms.{IsCounted, KeepsRooms}
use Rattle.flow_machine.specs.Views.{state_of}
use Rattle.flow_machine.proofs.drawing.draw_cells.Given as goal

-- what is left does what the whole does; each cell so far was a draw
abbrev pub invariant-loop-index : goal.invariant-loop-index
invariant-loop-index g l = record {
  gives : (x : g.W.Watcher.Seen) → cells_drawn l.code g.W.Watcher.Seen g.W.Watcher.after l.spot l.object l.ty l.index (l.size - l.index) (state_of l.run x)
      ≡ cells_drawn l.code g.W.Watcher.Seen g.W.Watcher.after l.spot l.object l.ty 0 l.size (state_of l.initial.run x);
  rooms : KeepsRooms l.initial.run l.run;
  draws : vec_len l.run.draws ≡ vec_len l.initial.run.draws + l.index;
  counted : IsCounted l.initial.run → IsCounted l.run;
}
