use Rattle.std.proofs.Common.{codes}
use Rattle.wv_schema.specs.Values.{map_at, waypoint_pairs}
use Rattle.wv_schema.specs.Steps.{step_by}
use Rattle.wv_schema.specs.Schema.{step_rows, step_fault}
use Rattle.wv_schema.proofs.Chains.{given_pairs, no_pairs}
use Rattle.wv_schema.proofs.waypoint.step_of.Goals as goal

pub returns-in-None : goal.returns-in-None
unfolding step_fault
returns-in-None c = no_pairs _ c.args.at.now c.args.item.now step_rows c.in-None.ensures c.wrong_kind.ensures

pub returns-in-Some : goal.returns-in-Some
unfolding step_fault step_rows waypoint_pairs
returns-in-Some c =
    given_pairs c.waypoint_of.result c.args.at.now c.args.item.now _ step_rows (λ qs. step_by (map_at (codes "waypoint") qs)) c.in-Some.ensures c.waypoint_of.ensures
