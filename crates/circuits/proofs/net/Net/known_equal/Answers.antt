use Rattle.circuits.proofs.Sound.{sound_hints}
use Rattle.circuits.proofs.net.Net.known_equal.Goals as goal

pub equal-requires-clause-net : goal.equal-requires-clause-net
equal-requires-clause-net c = rw c.deref.ensures.value c.self.invariant.fine

pub equal-requires-clause-hints : goal.equal-requires-clause-hints
equal-requires-clause-hints c = rw c.deref.ensures.value c.self.invariant.hints

pub equal-requires-clause-operands : goal.equal-requires-clause-operands
equal-requires-clause-operands c = rw (c.deref.ensures.value, c.self.view_is) c.requires.operands

pub invariant_of-self : goal.invariant_of-self
invariant_of-self c = sound_hints c.self.invariant c.deref.ensures.value c.equal.ensures.hints

pub returns-clause-value : goal.returns-clause-value
returns-clause-value c = rw (← c.deref.ensures.value) c.equal.ensures.value
