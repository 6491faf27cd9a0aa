use Rattle.std.proofs.Common.{◌≡◌, ◌+◌, ◌-◌, ◌<◌, ◌≤◌, false, length, None, vec_len, vec_capacity}
use Rattle.way_match.specs.inside.Arena.{IsFrom}
use Rattle.way_match.specs.inside.Turning.{assumes_at, outcome}
use Rattle.way_match.proofs.states.States.carry.Given as goal

abbrev pub invariant-loop-came : goal.invariant-loop-came
invariant-loop-came l = record {
  low : l.self.low ≡ l.fn.self.low;
  more : l.from < l.i;
  within : l.i ≤ length l.sight.segments.now;
  states : length l.self.live.items ≡ length l.sight.segments.now + 1;
  room : vec_len l.self.nodes + length l.sight.segments.now + 1 ≤ vec_capacity l.self.nodes + l.i;
  from : IsFrom l.self.nodes.items l.i l.came;
  value : outcome l.sight l.self.nodes.items l.self.live.items l.i l.came (assumes_at l.sight (l.i - 1)) ≡ outcome l.fn.sight l.fn.self.nodes.items l.fn.self.live.items l.fn.from None false;
}

abbrev pub decreases-loop-came : goal.decreases-loop-came
decreases-loop-came l = length l.sight.segments.now - l.i
