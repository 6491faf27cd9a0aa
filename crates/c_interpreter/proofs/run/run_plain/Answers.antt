use Rattle.std.proofs.Common.{ap, sym, ◌∙◌, rules}
use Rattle.c_core.specs.View.{program_view}
use Rattle.c_meaning.specs.Run.{Moments}
use Rattle.run_state.specs.Interpreting.{state_of}
use Rattle.run_state.proofs.Fronting.{saw_nothing}
use Rattle.c_interpreter.proofs.Running.{watched_outcome, watched_from, watched_front, on_err}
use Rattle.c_interpreter.proofs.run.run_plain.Goals as goal

pub returns-in_err-machine-clause-front : goal.returns-in_err-machine-clause-front
returns-in_err-machine-clause-front g c =
    let p = program_view c.args.program.now in
    let x = g.W.Watcher.seen c.args.watcher.now in
    on_err c.from_residual.result (saw_nothing p g.W.Watcher.Seen g.W.Watcher.after x c.args.choices.now c.args.steps (Moments p c.args.choices.now c.args.steps))

pub returns-in_err-machine-clause-framed : goal.returns-in_err-machine-clause-framed
returns-in_err-machine-clause-framed g c = c.heads_are_framed.ensures (program_view c.args.program.now) c.args.program.now.checked c.args.choices.now c.args.steps

pub returns-in_err-end-clause-front : goal.returns-in_err-end-clause-front
returns-in_err-end-clause-front g c =
    let p = program_view c.args.program.now in
    let x = g.W.Watcher.seen c.args.watcher.now in
    let e = watched_from p g.W.Watcher.Seen g.W.Watcher.after x c.args.choices.now c.args.steps c.in_ok-machine.machine c.in_ok-machine.ensures in
    on_err c.from_residual-in_err-end.result
    (watched_front p g.W.Watcher.Seen g.W.Watcher.after x c.args.choices.now c.args.steps c.run_main.result
    (state_of c.run_main.new.machine (g.W.Watcher.seen c.run_main.new.watcher)) c.in_err-end.ensures.refused (rw e at c.run_main.ensures.gives))

pub returns-in_err-end-clause-framed : goal.returns-in_err-end-clause-framed
returns-in_err-end-clause-framed g c = c.heads_are_framed.ensures (program_view c.args.program.now) c.args.program.now.checked c.args.choices.now c.args.steps

pub returns : goal.returns
returns g c =
    let p = program_view c.args.program.now in
    let x = g.W.Watcher.seen c.args.watcher.now in
    let e = watched_from p g.W.Watcher.Seen g.W.Watcher.after x c.args.choices.now c.args.steps c.in_ok-machine.machine c.in_ok-machine.ensures in
    let w = watched_outcome p g.W.Watcher.Seen g.W.Watcher.after x c.args.choices.now c.args.steps c.run_main.result c.in_ok-end.end
    (state_of c.run_main.new.machine (g.W.Watcher.seen c.run_main.new.watcher)) c.in_ok-end.ensures.end (rw e at c.run_main.ensures.gives) in
    record {
      run = w.ran;
      seen = w.saw;
      front = search rules;
      framed = c.heads_are_framed.ensures p c.args.program.now.checked c.args.choices.now c.args.steps;
      room = λ first few deep. c.runs_have_room.ensures p c.args.program.now.checked first few c.args.choices.now c.args.steps (ap (λ r. r.end) (sym w.ran) ∙ deep);
    }
