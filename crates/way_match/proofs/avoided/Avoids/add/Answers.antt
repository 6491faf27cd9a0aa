use Rattle.std.proofs.Common.{sym, ◌∙◌}
use Rattle.way_match.specs.View.{each_segment_view, point_view}
use Rattle.way_match.proofs.AvoidLaws.{on_ok, there_alone, there_nowhere}
use Rattle.way_match.proofs.avoided.Avoids.add.Goals as goal

pub returns-in-None-clause-there : goal.returns-in-None-clause-there
returns-in-None-clause-there c =
    there_nowhere (each_segment_view c.args.segments.now) c.args.self.now c.args.avoided.segment (point_view c.args.point.now) (sym c.place_of.ensures ∙ c.in-None.is)

pub returns-in-Some-clause-there : goal.returns-in-Some-clause-there
returns-in-Some-clause-there c = on_ok c.add_at.result _ _ c.add_at.ensures.there (λ h.
    there_alone (each_segment_view c.args.segments.now) c.add_at.new.self c.args.avoided.segment (point_view c.args.point.now) c.in-Some.spot (sym c.place_of.ensures ∙ c.in-Some.is) h)
