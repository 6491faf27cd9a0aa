use Rattle.std.proofs.Common.{arith}
use Rattle.seek_weight.proofs.Tolling.{counted_on}
use Rattle.seek_weight.proofs.tolls.passage.Goals as goal

pub loop-segment-preserved : goal.loop-segment-preserved
loop-segment-preserved c = record {
  settled = omega (arith, c.saturating_add-waypoints-in-loop-segment.ensures);
  waypoints = counted_on c.args.segments.now c.loop-segment.segment-index c.segment-item.result c.len.result c.loop-segment.waypoints _ _ _ c.loop-segment-test.true c.segment-item.is c.len.ensures
      c.saturating_add-waypoints.ensures c.saturating_add-waypoints-in-loop-segment.ensures c.loop-segment.invariant.waypoints;
}
