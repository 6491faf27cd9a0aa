use Rattle.std.proofs.Common.{◌≡◌, length, not, get_or, slice_get, sym, ◌∙◌, ap, arith}
use Rattle.c_core.specs.View.{program_view}
use Rattle.way_match.specs.declared.point.BoundSegment.{BoundSegment}
use Rattle.way_match.specs.declared.prepared.Prepared.{Prepared}
use Rattle.way_match.specs.inside.Resting.{follows_in, is_live, is_next_live}
use Rattle.way_match.specs.inside.Turning.{seen_by, sighted}
use Rattle.way_match.proofs.RestLaws.{follow_false, segment_there}
use Rattle.way_match.proofs.Views.{prepared_length, prepared_there}
use Rattle.way_match.proofs.resting.opens.Goals as goal

pub bounds-sight-k-2 : goal.bounds-sight-k-2
bounds-sight-k-2 c =
    let e : length c.args.sight.now.prepared.now ≡ length c.args.sight.now.segments.now =
    ap length c.args.sight.now.prepares ∙ prepared_length (program_view c.args.sight.now.program.now) c.args.sight.now.segments.now in
    omega (arith, c.requires.within, e)

pub passes-requires : goal.passes-requires
passes-requires c =
    ap (λ (x : Prepared). x.follow)
    (prepared_there (program_view c.args.sight.now.program.now) c.args.sight.now.segments.now c.args.sight.now.prepared.now c.args.k c.index-sight-k.result c.index-sight-k-2.result
    c.args.sight.now.prepares c.requires.within c.index-sight-k.is)

pub returns : goal.returns
returns c = λ e.
    let segments = c.args.sight.now.segments.now in
    let p = program_view c.args.sight.now.program.now in
    let s : BoundSegment = get_or segments c.args.k c.index-sight-k.result in
    let q : s ≡ get_or segments c.args.k s = ap (get_or segments c.args.k) c.index-sight-k.is in
    follow_false (is_live c.args.live.now c.args.k) (follows_in p (seen_by c.args.sight.now) (slice_get (sighted c.args.sight.now) c.args.k)) (not (is_next_live c.args.live.now c.args.k))
    (ap (follows_in p (seen_by c.args.sight.now)) (segment_there segments c.args.k s c.requires.within q) ∙ sym c.passes.ensures ∙ e)
