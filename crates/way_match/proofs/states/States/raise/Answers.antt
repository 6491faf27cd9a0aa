use Rattle.way_match.specs.View.{each_segment_view}
use Rattle.way_match.proofs.Passed.{one_passed}
use Rattle.way_match.proofs.states.States.raise.Goals as goal

pub loop-self-preserved : goal.loop-self-preserved
loop-self-preserved c = record {
  states = c.loop-self.invariant.states;
  passed = one_passed (each_segment_view c.args.segments.now) c.loop-self.self.live.items c.loop-self.self.low c.loop-self.invariant.passed
      (rw c.as_slice.ensures.value at (c.is_passed.ensures.passed c.loop-self-test.true));
  nodes = c.loop-self.invariant.nodes;
  live = c.loop-self.invariant.live;
}
