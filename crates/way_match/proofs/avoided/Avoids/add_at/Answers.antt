use Rattle.std.proofs.Common.{◌∙◌}
use Rattle.way_match.specs.View.{each_segment_view, point_view}
use Rattle.way_match.specs.inside.Avoided.{avoids_in}
use Rattle.way_match.proofs.AvoidLaws.{itself_there, on_ok, pushed_longer, stands_last}
use Rattle.way_match.proofs.avoided.Avoids.add_at.Goals as goal

pub returns-clause-longer : goal.returns-clause-longer
returns-clause-longer c = on_ok c.push.result _ _ c.push.ensures (λ h. pushed_longer c.args.self.now c.push.new.self c.args.spot c.args.avoided h)

pub returns-clause-there : goal.returns-clause-there
returns-clause-there c = on_ok c.push.result _ _ c.push.ensures (λ h.
    stands_last (each_segment_view c.args.segments.now) (avoids_in c.args.self.now c.args.spot) (avoids_in c.push.new.self c.args.spot) c.args.avoided (point_view c.args.point.now)
    (h c.args.spot ∙ itself_there (avoids_in c.args.self.now c.args.spot) c.args.spot c.args.avoided) c.requires)
