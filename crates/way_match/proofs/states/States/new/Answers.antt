use Rattle.way_match.proofs.Begin.{begins_blank, begins_held}
use Rattle.way_match.proofs.states.States.new.Goals as goal

pub invariant_of-result : goal.invariant_of-result
invariant_of-result c = record {
  held = begins_held c.new.result.items c.loop.live.items c.loop.counter c.loop.invariant;
  blank = begins_blank c.loop.live.items c.loop.counter c.loop.invariant;
}
