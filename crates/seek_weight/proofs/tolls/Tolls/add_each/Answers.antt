use Rattle.std.proofs.Common.{◌+◌, [], ◌∷◌, drop, ◌∙◌}
use Rattle.c_core.specs.View.{program_view}
use Rattle.way_match.specs.View.{point_view, points_view}
use Rattle.seek_weight.specs.Tolls.{placed_weight}
use Rattle.seek_weight.specs.inside.Weighing.{placed_in}
use Rattle.seek_weight.proofs.Tolling.{adds_on, points_from}
use Rattle.seek_weight.proofs.tolls.Tolls.add_each.Goals as goal

pub loop-point-preserved : goal.loop-point-preserved
loop-point-preserved c =
    let p = program_view c.args.index.now in
    let i = c.loop-point.point-index in
    record {
      passage = c.add.ensures.passage ∙ c.loop-point.invariant.passage;
      adds = adds_on p (point_view c.point-item.result ∷ []) (points_view (drop (i + 1) c.args.points.now)) (points_view (drop i c.args.points.now))
          (λ h at. placed_in c.args.self.now h at + placed_weight p h at (points_view c.args.points.now)) c.loop-point.self c.add.new.self
          (points_from c.args.points.now i c.point-item.result c.loop-point-test.true c.point-item.is) c.in_ok-add.ensures.adds c.loop-point.invariant.adds;
    }
