use Rattle.std.proofs.Common.{arith}
use Rattle.c_core.specs.View.{program_view}
use Rattle.sym_state.proofs.Nets.{in_added, longer_by}
use Rattle.sym_eval.proofs.Deciding.{parting_became}
use Rattle.sym_eval.proofs.control.leave_unless.Goals as goal

pub leave_loop-requires-clause-room : goal.leave_loop-requires-clause-room
leave_loop-requires-clause-room c = omega (arith, (longer_by c.in_ok-narrow.ensures.added).1, c.requires.room)

pub narrow-requires-2-clause-a_in : goal.narrow-requires-2-clause-a_in
narrow-requires-2-clause-a_in c = in_added c.in_ok-leave_loop.ensures.added c.args.sym.now.live (in_added c.in_ok-narrow.ensures.added c.args.sym.now.live c.requires.fits.live)

pub narrow-requires-2-clause-b_in : goal.narrow-requires-2-clause-b_in
narrow-requires-2-clause-b_in c = in_added c.in_ok-leave_loop.ensures.added c.args.bit (in_added c.in_ok-narrow.ensures.added c.args.bit c.requires.bit_in)

pub narrow-requires-2-clause-room : goal.narrow-requires-2-clause-room
narrow-requires-2-clause-room c = omega (arith, (longer_by c.in_ok-narrow.ensures.added).1, (longer_by c.in_ok-leave_loop.ensures.added).1, c.requires.room)

pub returns : goal.returns
returns c =
    parting_became (program_view c.args.program.now) c.args.bit c.not.result c.requires.fits c.requires.bit_in c.not.ensures c.in_ok-narrow.ensures c.in_ok-leave_loop.ensures c.in_ok-narrow-2.ensures
