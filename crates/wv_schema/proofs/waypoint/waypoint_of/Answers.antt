use Rattle.std.proofs.Common.{rules, codes}
use Rattle.wv_schema.specs.Table.{waypoint_fields}
use Rattle.wv_schema.specs.Values.{kind_at}
use Rattle.wv_schema.specs.Steps.{step_by}
use Rattle.wv_schema.proofs.Chains.{inside_stops, given_inside}
use Rattle.wv_schema.proofs.waypoint.waypoint_of.Goals as goal

pub returns-in_err-inside : goal.returns-in_err-inside
returns-in_err-inside c = search (rules, inside_stops)

pub returns : goal.returns
returns c =
    given_inside c.waypoint_fields_of.result step_by c.args.at.now (codes "waypoint") _ c.args.pairs.now _ (λ qs. waypoint_fields (kind_at qs))
    c.in_ok-place.ensures c.in_ok-inside.ensures.field.0 c.in_ok-inside.ensures.there (rw (← c.as_str.ensures.value) c.waypoint_fields_of.ensures)
