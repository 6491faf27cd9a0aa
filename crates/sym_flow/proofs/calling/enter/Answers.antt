use Rattle.std.proofs.Common.{refl}
use Rattle.c_core.specs.View.{program_view}
use Rattle.sym_flow.proofs.Calls.{entered}
use Rattle.sym_flow.proofs.calling.enter.Goals as goal

pub returns-clause-enters : goal.returns-clause-enters
returns-clause-enters c = entered (program_view c.args.program.now) c.args.sym.now c.args.ty c.in_ok-zero.zero c.replace-given.new.dest c.never-dead.result c.requires.fits c.replace-given.ensures.after c.in_ok-zero.ensures c.never-dead.ensures

pub returns-clause-around : goal.returns-clause-around
returns-clause-around c = record { broken = refl; again = refl; gave = refl; given = c.replace-given.ensures.value; result = refl }
