use Rattle.std.proofs.Common.{arith}
use Rattle.way_match.specs.View.{each_segment_view}
use Rattle.way_match.proofs.AvoidLaws.{avoid_within, segment_more}
use Rattle.way_match.proofs.avoided.Avoids.of.Goals as goal

pub loop-number-preserved : goal.loop-number-preserved
loop-number-preserved c =
    segment_more (each_segment_view c.args.segments.now) c.loop-number.found c.add_each.new.self c.loop-number.number c.in_ok-add_each.ensures.longer c.loop-number.invariant c.in_ok-add_each.ensures.there

pub returns : goal.returns
returns c = λ k i x h.
    let w = avoid_within c.args.segments.now k i x h in
    c.loop-number.invariant k i x (omega (arith, w, c.loop-number-test.false)) h
