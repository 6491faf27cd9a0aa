use Rattle.circuits.proofs.Sound.{sound_hints}
use Rattle.circuits.proofs.net.Net.note_below.Goals as goal

pub note_below-requires-clause-net : goal.note_below-requires-clause-net
note_below-requires-clause-net c = rw c.deref.ensures.value c.self.invariant.fine

pub note_below-requires-clause-hints : goal.note_below-requires-clause-hints
note_below-requires-clause-hints c = rw c.deref.ensures.value c.self.invariant.hints

pub note_below-requires-clause-operands : goal.note_below-requires-clause-operands
note_below-requires-clause-operands c = rw (c.deref.ensures.value, c.self.view_is) c.requires.operands

pub note_below-requires-clause-tells : goal.note_below-requires-clause-tells
note_below-requires-clause-tells c = rw (c.deref.ensures.value, c.self.view_is) c.requires.tells

pub invariant_of-self : goal.invariant_of-self
invariant_of-self c = sound_hints c.self.invariant c.deref.ensures.value c.note_below.ensures.hints
