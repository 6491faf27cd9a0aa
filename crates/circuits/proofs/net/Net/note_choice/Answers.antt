use Rattle.circuits.proofs.Sound.{sound_hints}
use Rattle.circuits.proofs.net.Net.note_choice.Goals as goal

pub note_choice-requires-clause-net : goal.note_choice-requires-clause-net
note_choice-requires-clause-net c = rw c.deref.ensures.value c.self.invariant.fine

pub note_choice-requires-clause-hints : goal.note_choice-requires-clause-hints
note_choice-requires-clause-hints c = rw c.deref.ensures.value c.self.invariant.hints

pub note_choice-requires-clause-test_in : goal.note_choice-requires-clause-test_in
note_choice-requires-clause-test_in c = rw (c.deref.ensures.value, c.self.view_is) c.requires.test_in

pub note_choice-requires-clause-operands : goal.note_choice-requires-clause-operands
note_choice-requires-clause-operands c = rw (c.deref.ensures.value, c.self.view_is) c.requires.operands

pub note_choice-requires-clause-out_in : goal.note_choice-requires-clause-out_in
note_choice-requires-clause-out_in c = rw (c.deref.ensures.value, c.self.view_is) c.requires.out_in

pub note_choice-requires-clause-is : goal.note_choice-requires-clause-is
note_choice-requires-clause-is c = rw (c.deref.ensures.value, c.self.view_is) c.requires.is

pub invariant_of-self : goal.invariant_of-self
invariant_of-self c = sound_hints c.self.invariant c.deref.ensures.value c.note_choice.ensures.hints
