use Rattle.circuits.proofs.Nets.{grown_until}
use Rattle.circuits.proofs.Feeding.{typed_later}
use Rattle.circuits.proofs.Noted.{operands_of}
use Rattle.circuits.proofs.Ordered.{below_noted}
use Rattle.circuits.proofs.sums.below.Goals as goal

pub note_below-requires-clause-operands : goal.note_below-requires-clause-operands
note_below-requires-clause-operands c =
    let g = c.in_ok-below.ensures.grown in
    operands_of (typed_later g c.requires.a_in) (typed_later g c.requires.b_in)

pub note_below-requires-clause-tells : goal.note_below-requires-clause-tells
note_below-requires-clause-tells c =
    below_noted _ _ c.in_ok-below.ensures.grown c.requires.a_in c.requires.b_in c.in_ok-below.ensures.value c.sign_digit-offset.ensures

pub returns-clause-grown : goal.returns-clause-grown
returns-clause-grown c = grown_until c.note_below.ensures c.in_ok-below.ensures.grown

pub returns-clause-value : goal.returns-clause-value
returns-clause-value c = rw c.note_below.ensures c.in_ok-below.ensures.value
