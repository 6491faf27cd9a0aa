use Rattle.std.proofs.Common.{◌∙◌, sym, ap, length}
use Rattle.circuits.proofs.Feeding.{typed_later}
use Rattle.circuits.proofs.Noted.{operands_of}
use Rattle.circuits.proofs.DivisionLaw.{law_noted, results_of}
use Rattle.circuits.proofs.quotients.divide_by_law.Goals as goal

pub note_quotient-requires-clause-operands : goal.note_quotient-requires-clause-operands
note_quotient-requires-clause-operands c =
    let g = c.in_ok-out.ensures.grown in
    operands_of (typed_later g c.requires.a_in) (typed_later g c.requires.b_in)

pub note_quotient-requires-clause-results : goal.note_quotient-requires-clause-results
note_quotient-requires-clause-results c = results_of c.in_ok-out.ensures.value c.deref.ensures.value c.deref-2.ensures.value

pub note_quotient-requires-clause-same : goal.note_quotient-requires-clause-same
note_quotient-requires-clause-same c = ap length c.deref.ensures.value ∙ c.in_ok-out.ensures.value.quotient_in.wide ∙ sym c.requires.a_in.wide

pub note_quotient-requires-clause-is : goal.note_quotient-requires-clause-is
note_quotient-requires-clause-is c =
    law_noted _ _ c.in_ok-out.ensures.grown c.requires.a_in c.requires.b_in c.in_ok-out.ensures.value c.deref.ensures.value c.deref-2.ensures.value

pub returns-clause-grown : goal.returns-clause-grown
returns-clause-grown c = rw c.note_quotient.ensures c.in_ok-out.ensures.grown

pub returns-clause-value : goal.returns-clause-value
returns-clause-value c = rw c.note_quotient.ensures c.in_ok-out.ensures.value
