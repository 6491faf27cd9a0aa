use Rattle.circuits.proofs.Sound.{sound_hints}
use Rattle.circuits.proofs.net.Net.note_combined.Goals as goal

pub note_combined-requires-clause-net : goal.note_combined-requires-clause-net
note_combined-requires-clause-net c = rw c.deref.ensures.value c.self.invariant.fine

pub note_combined-requires-clause-hints : goal.note_combined-requires-clause-hints
note_combined-requires-clause-hints c = rw c.deref.ensures.value c.self.invariant.hints

pub note_combined-requires-clause-operands : goal.note_combined-requires-clause-operands
note_combined-requires-clause-operands c = rw (c.deref.ensures.value, c.self.view_is) c.requires.operands

pub note_combined-requires-clause-out_in : goal.note_combined-requires-clause-out_in
note_combined-requires-clause-out_in c = rw (c.deref.ensures.value, c.self.view_is) c.requires.out_in

pub note_combined-requires-clause-is : goal.note_combined-requires-clause-is
note_combined-requires-clause-is c = rw (c.deref.ensures.value, c.self.view_is) c.requires.is

pub invariant_of-self : goal.invariant_of-self
invariant_of-self c = sound_hints c.self.invariant c.deref.ensures.value c.note_combined.ensures.hints
