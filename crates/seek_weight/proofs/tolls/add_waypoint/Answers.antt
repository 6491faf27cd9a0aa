use Rattle.sym_weight.specs.Tally.{weight_at}
use Rattle.seek_weight.proofs.Tolling.{waypoint_added}
use Rattle.seek_weight.proofs.tolls.add_waypoint.Goals as goal

pub returns : goal.returns
returns c = λ q.
    waypoint_added c.args.spot q (weight_at c.args.weights.now q) c.saturating_add.result (weight_at c.add_weight.new.weights q) c.args.constraint c.saturating_add.ensures (c.in_ok-add_weight.ensures q)
