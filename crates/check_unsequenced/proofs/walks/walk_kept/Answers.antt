use Rattle.std.proofs.Common.{refl}
use Rattle.check_sequencing.proofs.WalkLaws.{gone_nothing, same_after}
use Rattle.check_unsequenced.proofs.Loops.{gone_kept}
use Rattle.check_unsequenced.proofs.walks.walk_kept.Goals as goal

pub loop-one-init : goal.loop-one-init
loop-one-init c = record {
  ready = c.requires;
  same = record { bodies = refl; objects = refl; count = refl; known = c.requires };
  gone = gone_nothing c.args.walk.now c.args.walk.now refl;
}

pub loop-one-preserved : goal.loop-one-preserved
loop-one-preserved c = record {
  ready = c.in_ok-walk_one.ensures.same.known;
  same = same_after c.args.walk.now.source c.loop-one.walk.source c.walk_one.new.walk.source c.loop-one.invariant.same c.in_ok-walk_one.ensures.same;
  gone = gone_kept c.args.walk.now c.loop-one.walk c.walk_one.new.walk c.args.kept.now c.loop-one.one-index c.one-item.result c.loop-one-test.true c.one-item.is c.loop-one.invariant.same c.loop-one.invariant.gone c.in_ok-walk_one.ensures.gone;
}
