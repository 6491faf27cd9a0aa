use Rattle.std.proofs.Common.{◌≡◌, ℕ, ◌-◌}
use Rattle.run_state.proofs.Giving.{Behind}
use Rattle.c_core.specs.View.{program_view}
use Rattle.run_state.specs.Interpreting.{state_of, cells_drawn_from}
use Rattle.run_state.proofs.cells.draw_cells.Given as goal

-- what is left does what the whole does
abbrev pub invariant-loop-index : goal.invariant-loop-index
invariant-loop-index g l = record {
  spends : l.machine.steps ≡ l.initial.machine.steps;
  value : (n : ℕ) (x : g.W.Watcher.Seen) → Behind (cells_drawn_from (program_view l.program) g.W.Watcher.Seen g.W.Watcher.after n l.spot l.object l.index (l.size - l.index) (state_of l.machine x))
      (cells_drawn_from (program_view l.program) g.W.Watcher.Seen g.W.Watcher.after n l.spot l.object 0 l.size (state_of l.initial.machine x));
}
