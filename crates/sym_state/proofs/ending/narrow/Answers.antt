use Rattle.std.proofs.Common.{◌&&◌}
use Rattle.c_core.specs.View.{program_view}
use Rattle.circuits.specs.Net.{holds}
use Rattle.sym_state.proofs.Turning.{turned_live}
use Rattle.sym_state.proofs.ending.narrow.Goals as goal

pub returns : goal.returns
returns c = turned_live (program_view c.args.program.now) c.args.sym.now c.under.new.self c.in_ok-live.live (λ v. holds v c.args.sym.now.net c.args.a && holds v c.args.sym.now.net c.args.b) c.requires.fits c.in_ok-live.ensures.grown c.in_ok-live.ensures.value
