use Rattle.std.proofs.Common.{◌≡◌, refl, Some, List, slice_get, ap, ◌∙◌}
use Rattle.std.proofs.lemmas.Option.{slice_get_read}
use Rattle.way_match.specs.View.{points_view}
use Rattle.way_match.specs.declared.point.Point.{Point}
use Rattle.way_match.proofs.AvoidLaws.{avoid_past, avoid_there}
use Rattle.way_match.proofs.avoided.avoid_in.Goals as goal

pub returns-in-None : goal.returns-in-None
returns-in-None c = avoid_past c.args.segments.now c.args.avoided.segment c.args.avoided.at c.in-None.ensures.lookup.3

pub returns-in-Some : goal.returns-in-Some
returns-in-Some c =
    let s = c.in-Some.segment.now in
    let q : slice_get c.args.segments.now c.args.avoided.segment ≡ Some s = slice_get_read c.args.segments.now _ c.args.avoided.segment s refl c.in-Some.ensures.lookup.3.0 c.in-Some.ensures.lookup.1 in
    c.point_at.ensures ∙ ap (λ (xs : List Point). slice_get (points_view xs) c.args.avoided.at) c.as_slice.ensures ∙ avoid_there c.args.segments.now c.args.avoided.segment s c.args.avoided.at q
