use Rattle.std.proofs.Common.{◌≡◌, ◌+◌, ◌-◌, length}
use Rattle.way_match.specs.inside.Turning.{ArePassed}
use Rattle.way_match.specs.View.{each_segment_view}
use Rattle.way_match.proofs.states.States.raise.Given as goal

abbrev pub invariant-loop-self : goal.invariant-loop-self
invariant-loop-self l = record {
  states : length l.self.live.items ≡ length l.segments + 1;
  passed : ArePassed (each_segment_view l.segments) l.self.live.items l.self.low;
  nodes : l.self.nodes.items ≡ l.fn.self.nodes.items;
  live : l.self.live.items ≡ l.fn.self.live.items;
}

abbrev pub decreases-loop-self : goal.decreases-loop-self
decreases-loop-self l = length l.segments - l.self.low
