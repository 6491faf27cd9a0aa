use Rattle.circuits.proofs.Sound.{sound_hints}
use Rattle.circuits.proofs.net.Net.note_quotient.Goals as goal

pub note_quotient-requires-clause-net : goal.note_quotient-requires-clause-net
note_quotient-requires-clause-net c = rw c.deref.ensures.value c.self.invariant.fine

pub note_quotient-requires-clause-hints : goal.note_quotient-requires-clause-hints
note_quotient-requires-clause-hints c = rw c.deref.ensures.value c.self.invariant.hints

pub note_quotient-requires-clause-operands : goal.note_quotient-requires-clause-operands
note_quotient-requires-clause-operands c = rw (c.deref.ensures.value, c.self.view_is) c.requires.operands

pub note_quotient-requires-clause-results : goal.note_quotient-requires-clause-results
note_quotient-requires-clause-results c = rw (c.deref.ensures.value, c.self.view_is) c.requires.results

pub note_quotient-requires-clause-some_in : goal.note_quotient-requires-clause-some_in
note_quotient-requires-clause-some_in c = rw (c.deref.ensures.value, c.self.view_is) c.requires.some_in

pub note_quotient-requires-clause-is : goal.note_quotient-requires-clause-is
note_quotient-requires-clause-is c = rw (c.deref.ensures.value, c.self.view_is) c.requires.is

pub invariant_of-self : goal.invariant_of-self
invariant_of-self c = sound_hints c.self.invariant c.deref.ensures.value c.note_quotient.ensures.hints
