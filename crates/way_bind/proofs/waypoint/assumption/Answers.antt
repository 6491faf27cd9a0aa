use Rattle.std.proofs.Common.{sym, ◌∙◌}
use Rattle.c_core.specs.View.{program_view}
use Rattle.c_core.specs.declared.place.PlaceKind.TheVariants.{Statement}
use Rattle.way_match.specs.Points.{Assume}
use Rattle.way_match.specs.View.{point_view}
use Rattle.way_bind.specs.Binding.{place_named, seen, text_of}
use Rattle.way_bind.proofs.ExpressionLaws.{placed_there}
use Rattle.way_bind.proofs.NamedLaws.{named_is_one}
use Rattle.way_bind.proofs.waypoint.assumption.Goals as goal

pub assumption_at-requires : goal.assumption_at-requires
assumption_at-requires c =
    named_is_one (program_view c.args.lookup.now.index) Statement c.args.waypoint.now.location c.in-Some.spot (sym c.place_named.ensures ∙ c.in-Some.is)

pub returns-in-Some : goal.returns-in-Some
returns-in-Some c =
    placed_there (program_view c.args.lookup.now.index) Statement c.text_of.result.now (text_of c.args.waypoint.now.constraint) Assume (place_named (program_view c.args.lookup.now.index) Statement c.args.waypoint.now.location) c.in-Some.spot (seen point_view c.assumption_at.result)
    (sym c.place_named.ensures ∙ c.in-Some.is) c.text_of.ensures c.assumption_at.ensures
