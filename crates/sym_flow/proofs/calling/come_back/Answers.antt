use Rattle.c_core.specs.View.{program_view}
use Rattle.sym_flow.proofs.Calls.{came_back}
use Rattle.sym_flow.proofs.calling.come_back.Goals as goal

pub returns : goal.returns
returns c =
    came_back (program_view c.args.program.now) c.args.sym.now c.all_ways.new.net c.in_ok-live.live c.args.caller c.args.cells c.truncate.new.self c.replace-value.result c.replace-value.new.dest c.requires.fits c.replace-value.ensures.after c.requires.caller_in
    c.in_ok-live.ensures.grown c.in_ok-live.ensures.value c.truncate.ensures.items c.replace-value.ensures.value
