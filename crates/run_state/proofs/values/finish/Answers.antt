use Rattle.c_core.specs.View.{program_view}
use Rattle.run_state.specs.Interpreting.{where_of, state_of}
use Rattle.run_state.proofs.Evaluating.{overflow_violates}
use Rattle.run_state.proofs.values.finish.Goals as goal

pub returns-in-NoOverflow : goal.returns-in-NoOverflow
returns-in-NoOverflow g c =
    let p = program_view c.args.program.now in
    record {
      gives = overflow_violates p g.W.Watcher.Seen g.W.Watcher.after 0 (where_of c.args.at) c.args.spot c.in-Overflow.value c.args.done
          (state_of c.args.machine.now (g.W.Watcher.seen c.args.watcher.now)) (state_of c.args.machine.now (g.W.Watcher.seen c.violate.new.watcher)) c.violate.result c.in-NoOverflow.is c.in-Overflow.is (c.violate.ensures.gives p);
    }
