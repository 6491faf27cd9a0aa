use Rattle.circuits.proofs.Sound.{sound_hints}
use Rattle.circuits.proofs.net.Net.note_cut.Goals as goal

pub note_cut-requires-clause-net : goal.note_cut-requires-clause-net
note_cut-requires-clause-net c = rw c.deref.ensures.value c.self.invariant.fine

pub note_cut-requires-clause-hints : goal.note_cut-requires-clause-hints
note_cut-requires-clause-hints c = rw c.deref.ensures.value c.self.invariant.hints

pub note_cut-requires-clause-whole_in : goal.note_cut-requires-clause-whole_in
note_cut-requires-clause-whole_in c = rw (c.deref.ensures.value, c.self.view_is) c.requires.whole_in

pub note_cut-requires-clause-out_in : goal.note_cut-requires-clause-out_in
note_cut-requires-clause-out_in c = rw (c.deref.ensures.value, c.self.view_is) c.requires.out_in

pub note_cut-requires-clause-is : goal.note_cut-requires-clause-is
note_cut-requires-clause-is c = rw (c.deref.ensures.value, c.self.view_is) c.requires.is

pub invariant_of-self : goal.invariant_of-self
invariant_of-self c = sound_hints c.self.invariant c.deref.ensures.value c.note_cut.ensures.hints
