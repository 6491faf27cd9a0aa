use Rattle.std.proofs.Common.{◌≡◌, drop}
use Rattle.run_state.proofs.Giving.{Behind}
use Rattle.c_core.specs.View.{program_view}
use Rattle.run_state.specs.Interpreting.{state_of, pairs_of, parameters_set}
use Rattle.run_state.proofs.parameters.set_parameters.Given as goal

-- what is left does what the whole does
abbrev pub invariant-loop-index : goal.invariant-loop-index
invariant-loop-index g l = record {
  spends : l.machine.steps ≡ l.initial.machine.steps;
  value : (x : g.W.Watcher.Seen) → Behind (parameters_set (program_view l.program) g.W.Watcher.Seen g.W.Watcher.after (drop l.index l.parameters) (pairs_of (drop l.index l.values)) (state_of l.machine x))
      (parameters_set (program_view l.program) g.W.Watcher.Seen g.W.Watcher.after l.parameters (pairs_of l.values) (state_of l.initial.machine x));
}
