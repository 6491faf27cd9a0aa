use Rattle.circuits.proofs.Sound.{sound_hints}
use Rattle.circuits.proofs.net.Net.note_product.Goals as goal

pub note_product-requires-clause-net : goal.note_product-requires-clause-net
note_product-requires-clause-net c = rw c.deref.ensures.value c.self.invariant.fine

pub note_product-requires-clause-hints : goal.note_product-requires-clause-hints
note_product-requires-clause-hints c = rw c.deref.ensures.value c.self.invariant.hints

pub note_product-requires-clause-operands : goal.note_product-requires-clause-operands
note_product-requires-clause-operands c = rw (c.deref.ensures.value, c.self.view_is) c.requires.operands

pub note_product-requires-clause-out_in : goal.note_product-requires-clause-out_in
note_product-requires-clause-out_in c = rw (c.deref.ensures.value, c.self.view_is) c.requires.out_in

pub note_product-requires-clause-is : goal.note_product-requires-clause-is
note_product-requires-clause-is c = rw (c.deref.ensures.value, c.self.view_is) c.requires.is

pub invariant_of-self : goal.invariant_of-self
invariant_of-self c = sound_hints c.self.invariant c.deref.ensures.value c.note_product.ensures.hints
