use Rattle.std.proofs.Common.{refl}
use Rattle.check_sequencing.proofs.WalkLaws.{gone_nothing, same_after}
use Rattle.check_unsequenced.proofs.Loops.{gone_function}
use Rattle.check_unsequenced.proofs.walks.walk_functions.Goals as goal

pub loop-at-init : goal.loop-at-init
loop-at-init c = record {
  ready = c.requires;
  same = record { bodies = refl; objects = refl; count = refl; known = c.requires };
  gone = gone_nothing c.args.walk.now c.args.walk.now refl;
}

pub loop-at-preserved : goal.loop-at-preserved
loop-at-preserved c = record {
  ready = c.in_ok-walk_function.ensures.same.known;
  same = same_after c.args.walk.now.source c.loop-at.walk.source c.walk_function.new.walk.source c.loop-at.invariant.same c.in_ok-walk_function.ensures.same;
  gone = gone_function c.args.walk.now c.loop-at.walk c.walk_function.new.walk c.args.functions.now c.args.kept.now c.loop-at.at c.index-functions-at.result c.loop-at-test.true c.index-functions-at.is c.loop-at.invariant.same c.loop-at.invariant.gone c.in_ok-walk_function.ensures.gone;
}
