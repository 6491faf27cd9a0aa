use Rattle.c_core.specs.View.{program_view}
use Rattle.run_state.specs.Interpreting.{site_of, where_of, state_of}
use Rattle.run_state.proofs.Evaluating.{error_reached}
use Rattle.run_state.proofs.callees.reach.Goals as goal

pub returns-in-UnreachCall : goal.returns-in-UnreachCall
returns-in-UnreachCall g c = record {
  gives = error_reached (program_view c.args.program.now) g.W.Watcher.Seen g.W.Watcher.after 0 c.args.program.now.property (where_of c.args.at) (site_of c.args.site)
      (state_of c.args.machine.now (g.W.Watcher.seen c.args.watcher.now)) (state_of c.args.machine.now (g.W.Watcher.seen c.violate.new.watcher)) c.violate.result c.in-UnreachCall.is (c.violate.ensures.gives (program_view c.args.program.now));
}
