use Rattle.std.proofs.Common.{suc, sym}
use Rattle.c_core.specs.View.{program_view, function_view}
use Rattle.run_state.specs.Interpreting.{state_of}
use Rattle.run_state.proofs.Starting.{function_at, no_function_at}
use Rattle.c_interpreter.proofs.Executing.{main_is, no_main}
use Rattle.c_interpreter.proofs.run.run_main.Goals as goal

pub returns-in-Some-clause-gives : goal.returns-in-Some-clause-gives
returns-in-Some-clause-gives g c =
    let p = program_view c.args.program.now in
    let s = state_of c.args.machine.now (g.W.Watcher.seen c.args.watcher.now) in
    let h = function_at c.args.program.now.functions c.args.program.now.main c.in-Some.function.now (sym c.in-Some.ensures.item) in
    let k = main_is p g.W.Watcher.Seen g.W.Watcher.after (suc c.args.steps) (function_view c.in-Some.function.now) s h in
    rw k c.body.ensures.gives

pub returns-in-None-clause-gives : goal.returns-in-None-clause-gives
returns-in-None-clause-gives g c =
    let p = program_view c.args.program.now in
    let s = state_of c.args.machine.now (g.W.Watcher.seen c.args.watcher.now) in
    no_main p g.W.Watcher.Seen g.W.Watcher.after (suc c.args.steps) s (no_function_at c.args.program.now.functions c.args.program.now.main (sym c.in-None.ensures.item))
