use Rattle.std.proofs.Common.{arith}
use Rattle.flow_machine.proofs.control.Control.pop.Goals as goal

pub returns-clause-spare : goal.returns-clause-spare
returns-clause-spare c = λ h. record {
  stack = omega (arith, h.stack, c.pop.ensures.len, c.pop.ensures.capacity);
  scopes = h.scopes;
  frames = h.frames;
}
