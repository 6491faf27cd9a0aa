use Rattle.c_core.specs.View.{program_view}
use Rattle.way_match.specs.View.{points_view}
use Rattle.way_bind.specs.Binding.{BindsPoint}
use Rattle.way_bind.proofs.InOrderLaws.{told_at}
use Rattle.way_bind.proofs.LoopLaws.{avoid_kept}
use Rattle.way_bind.proofs.binding.bind_avoids.Goals as goal

pub loop-nth-preserved : goal.loop-nth-preserved
loop-nth-preserved c =
    avoid_kept (program_view c.args.lookup.now.index) c.args.waypoints.now c.loop-nth.nth c.index-waypoints-nth.result c.loop-nth.points c.push.new.self c.in-Ok.point c.loop-nth-test.true c.index-waypoints-nth.is c.in_ok-push-in-Ok.ensures.ok c.in-Ok.ensures c.loop-nth.invariant

pub returns-in-Err : goal.returns-in-Err
returns-in-Err c =
    told_at (BindsPoint (program_view c.args.lookup.now.index)) c.args.first c.args.waypoints.now c.loop-nth.nth c.index-waypoints-nth.result (points_view c.loop-nth.points) c.in-Err.lack c.told.result c.loop-nth-test.true c.index-waypoints-nth.is c.told.ensures c.in-Err.ensures c.loop-nth.invariant
