use Rattle.std.proofs.Common.{◌≡◌, ◌+◌, ◌<◌, ◌≤◌, false, length, drop, None, vec_len, vec_capacity}
use Rattle.way_match.specs.inside.Arena.{IsFrom}
use Rattle.c_meaning.specs.Watching.{event_spot}
use Rattle.way_match.specs.inside.Turning.{outcome, sighted}
use Rattle.way_match.proofs.Numbers.{Ahead}
use Rattle.way_match.proofs.states.States.advance.Given as goal

abbrev pub invariant-loop-number : goal.invariant-loop-number
invariant-loop-number l = record {
  low : l.self.low ≡ l.fn.self.low;
  within : l.next ≤ length l.sight.segments.now;
  ends : l.next < length l.sight.segments.now → l.came ≡ None;
  states : length l.self.live.items ≡ length l.sight.segments.now + 1;
  room : vec_len l.self.nodes + length l.sight.segments.now + 1 ≤ vec_capacity l.self.nodes + l.next;
  from : IsFrom l.self.nodes.items l.next l.came;
  ahead : Ahead (event_spot l.sight.event) (sighted l.sight) l.next (drop l.number-index l.numbers);
  value : outcome l.sight l.self.nodes.items l.self.live.items l.next l.came false ≡ outcome l.fn.sight l.fn.self.nodes.items l.fn.self.live.items 0 None false;
}
