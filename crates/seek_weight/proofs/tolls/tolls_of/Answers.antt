use Rattle.std.proofs.Common.{◌+◌, [], ◌∷◌, drop, ◌∙◌}
use Rattle.c_core.specs.View.{program_view}
use Rattle.way_match.specs.View.{each_segment_view, segment_view}
use Rattle.seek_weight.specs.Tolls.{placed_weight, points_of}
use Rattle.seek_weight.proofs.Tolling.{adds_on, segments_from}
use Rattle.seek_weight.proofs.tolls.tolls_of.Goals as goal

pub loop-segment-preserved : goal.loop-segment-preserved
loop-segment-preserved c =
    let p = program_view c.args.index.now in
    let i = c.loop-segment.segment-index in
    record {
      passage = c.add_segment.ensures.passage ∙ c.loop-segment.invariant.passage;
      adds = adds_on p (points_of (segment_view c.segment-item.result ∷ [])) (points_of (each_segment_view (drop (i + 1) c.args.segments.now)))
          (points_of (each_segment_view (drop i c.args.segments.now))) (λ h at. placed_weight p h at (points_of (each_segment_view c.args.segments.now))) c.loop-segment.found c.add_segment.new.self
          (segments_from c.args.segments.now i c.segment-item.result c.loop-segment-test.true c.segment-item.is) c.in_ok-add_segment.ensures.adds c.loop-segment.invariant.adds;
    }
