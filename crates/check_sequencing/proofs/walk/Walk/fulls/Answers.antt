use Rattle.std.proofs.Common.{refl}
use Rattle.check_sequencing.proofs.BodyLaws.{gone_full_more}
use Rattle.check_sequencing.proofs.WalkLaws.{gone_nothing, same_after}
use Rattle.check_sequencing.proofs.walk.Walk.fulls.Goals as goal

pub loop-full-init : goal.loop-full-init
loop-full-init c = record {
  ready = c.requires;
  same = record { bodies = refl; objects = refl; count = refl; known = c.requires };
  gone = gone_nothing c.args.self.now c.args.self.now refl;
}

pub loop-full-preserved : goal.loop-full-preserved
loop-full-preserved c = record {
  ready = c.in_ok-full.ensures.same.known;
  same = same_after c.args.self.now.source c.loop-full.self.source c.full.new.self.source c.loop-full.invariant.same c.in_ok-full.ensures.same;
  gone = gone_full_more c.args.self.now c.loop-full.self c.full.new.self c.args.fulls.now c.loop-full.full-index c.full-item.result c.loop-full-test.true c.full-item.is c.loop-full.invariant.same c.loop-full.invariant.gone c.in_ok-full.ensures.gone;
}
