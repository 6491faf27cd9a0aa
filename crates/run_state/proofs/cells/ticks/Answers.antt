use Rattle.std.proofs.Common.{refl, ◌<◌, arith}
use Rattle.run_state.specs.Interpreting.{state_of}
use Rattle.run_state.proofs.Taking.{enough, too_few}
use Rattle.run_state.proofs.cells.ticks.Goals as goal

pub returns-then-count-machine-clause-gives : goal.returns-then-count-machine-clause-gives
returns-then-count-machine-clause-gives g c = λ p t x.
    enough p g.W.Watcher.Seen g.W.Watcher.after t c.args.count (state_of c.args.machine.now x) _ refl c.if-count-machine.true

pub returns-else-count-machine-clause-gives : goal.returns-else-count-machine-clause-gives
returns-else-count-machine-clause-gives g c = λ p t x.
    let h : c.args.machine.now.steps < c.args.count = omega arith in
    too_few p g.W.Watcher.Seen g.W.Watcher.after t c.args.count (state_of c.args.machine.now x) _ refl h
