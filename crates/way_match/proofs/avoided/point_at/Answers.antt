use Rattle.std.proofs.Common.{◌≡◌, refl, Some, slice_get}
use Rattle.std.proofs.lemmas.Option.{slice_get_read}
use Rattle.way_match.proofs.AvoidLaws.{point_past, point_there}
use Rattle.way_match.proofs.avoided.point_at.Goals as goal

pub returns-in-None : goal.returns-in-None
returns-in-None c = point_past c.args.points.now c.args.at c.in-None.ensures.lookup.3

pub returns-in-Some : goal.returns-in-Some
returns-in-Some c =
    let x = c.in-Some.point.now in
    let q : slice_get c.args.points.now c.args.at ≡ Some x = slice_get_read c.args.points.now _ c.args.at x refl c.in-Some.ensures.lookup.3.0 c.in-Some.ensures.lookup.1 in
    point_there c.args.points.now c.args.at x q
