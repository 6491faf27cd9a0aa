use Rattle.std.proofs.Common.{arith}
use Rattle.way_match.specs.View.{each_segment_view}
use Rattle.way_match.proofs.AvoidLaws.{avoid_beyond, avoid_here, longer_same, longer_then, one_there}
use Rattle.way_match.specs.inside.Avoided.{avoids_in}
use Rattle.way_match.proofs.avoided.Avoids.add_each.Goals as goal

pub loop-at-init : goal.loop-at-init
loop-at-init c = record {
  longer = λ q. longer_same (avoids_in c.args.self.now q);
  there = λ i x lt h. absurd (omega (arith, lt));
}

pub add-requires : goal.add-requires
add-requires c =
    avoid_here c.args.segments.now c.args.number c.index-segments-number.result c.loop-at.at c.as_slice-points.result.now c.index-points-at.result c.requires c.index-segments-number.is
    c.as_slice-points.ensures (omega arith) c.index-points-at.is

pub loop-at-preserved : goal.loop-at-preserved
loop-at-preserved c = record {
  longer = λ q. longer_then (avoids_in c.args.self.now q) (avoids_in c.loop-at.self q) (avoids_in c.add.new.self q) (c.loop-at.invariant.longer q) (c.in_ok-add.ensures.longer q);
  there = one_there (each_segment_view c.args.segments.now) c.loop-at.self c.add.new.self c.args.number c.loop-at.at _
      (avoid_here c.args.segments.now c.args.number c.index-segments-number.result c.loop-at.at c.as_slice-points.result.now c.index-points-at.result c.requires c.index-segments-number.is
      c.as_slice-points.ensures (omega arith) c.index-points-at.is)
      c.in_ok-add.ensures.longer c.loop-at.invariant.there c.in_ok-add.ensures.there;
}

pub returns-clause-there : goal.returns-clause-there
returns-clause-there c = λ i x h.
    let w = avoid_beyond c.args.segments.now c.args.number c.index-segments-number.result i c.as_slice-points.result.now x c.requires c.index-segments-number.is c.as_slice-points.ensures h in
    c.loop-at.invariant.there i x (omega (arith, w, c.loop-at-test.false)) h
