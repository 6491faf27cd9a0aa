use Rattle.c_core.specs.View.{program_view}
use Rattle.circuits.specs.Net.{holds}
use Rattle.circuits.specs.Numbers.{typed}
use Rattle.circuits.proofs.Nets.{opp}
use Rattle.way_match.specs.View.{point_view, test_view_if}
use Rattle.seek_passes.specs.Event.{given_if}
use Rattle.seek_passes.proofs.Constraints.{returned_test, returned_room, returned_passes, none_returned}
use Rattle.seek_passes.proofs.points.at_return.Goals as goal

pub meets_at-requires-clause-comparison : goal.meets_at-requires-clause-comparison
meets_at-requires-clause-comparison c = returned_test (program_view c.args.program.now) (point_view c.args.point.now) c.args.at (test_view_if c.in-Some.test.now) c.in-Some.ensures c.requires.point

pub meets_at-requires-clause-room : goal.meets_at-requires-clause-room
meets_at-requires-clause-room c = returned_room (program_view c.args.program.now) (point_view c.args.point.now) c.args.at (test_view_if c.in-Some.test.now) c.in-Some.ensures _ c.requires.point c.requires.room

pub returns-in_ok-meets-in-Some : goal.returns-in_ok-meets-in-Some
returns-in_ok-meets-in-Some c =
    let s = c.args.sym.now in
    returned_passes (program_view c.args.program.now) (point_view c.args.point.now) c.args.at (test_view_if c.in-Some.test.now) c.in-Some.ensures s c.meets_at.new.sym c.in_ok-meets-in-Some.meets
    (λ v. given_if (holds v s.net c.args.gave) (typed c.args.program.now.model c.args.ty v s.net c.args.bits.now.bits)) c.requires.point c.in_ok-meets-in-Some.ensures

pub returns-in-None : goal.returns-in-None
returns-in-None c =
    let s = c.args.sym.now in
    none_returned (program_view c.args.program.now) (point_view c.args.point.now) c.args.at s c.not.result (λ v. given_if (holds v s.net c.args.gave) (typed c.args.program.now.model c.args.ty v s.net c.args.bits.now.bits)) c.in-None.ensures c.requires.fits
    (opp c.not.ensures c.yes.ensures)
