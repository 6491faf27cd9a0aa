use Rattle.flow_laws.specs.Stepping.{Reaches}
use Rattle.flow_machine.specs.Rooms.{KeepsRooms, KeepsStacks}
use Rattle.flow_machine.specs.Views.{machine_of}
use Rattle.flow_machine.proofs.stepping.go.Given as goal
use Rattle.flow_rooms.specs.Paces.{IsInOrder, still}

-- operations led here, where the machine is in order, with the room that it had
abbrev pub invariant-turns : goal.invariant-turns
invariant-turns g l = record {
  reaches : Reaches l.code g.W.Watcher.Seen g.W.Watcher.after (machine_of l.initial.control l.initial.run (g.W.Watcher.seen l.initial.watcher)) (machine_of l.control l.run (g.W.Watcher.seen l.watcher));
  order : IsInOrder l.code (machine_of l.control l.run (g.W.Watcher.seen l.watcher));
  kept : KeepsStacks l.initial.control l.control;
  rooms : KeepsRooms l.initial.run l.run;
}

-- each operation lowers this number
abbrev pub decreases-turns : goal.decreases-turns
decreases-turns g l = still l.code (machine_of l.control l.run (g.W.Watcher.seen l.watcher))
