use Rattle.c_core.specs.View.{program_view}
use Rattle.c_inductive.specs.Picking.{picked}
use Rattle.c_meaning.specs.Placing.{placed_view}
use Rattle.wv_weed.proofs.Findings.{small}
use Rattle.wv_weed.proofs.weeding.round.Goals as goal

pub carried-requires-clause-room : goal.carried-requires-clause-room
carried-requires-clause-room c =
    small (program_view c.args.program.now) (picked c.args.left.now (placed_view c.args.invariants.now)) c.in_ok-all.all
    c.in_ok-all.ensures.1 c.nodes.ensures.fine
