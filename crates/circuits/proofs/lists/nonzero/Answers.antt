use Rattle.circuits.proofs.Nets.{grown_not, grown_same, grown_from, grown_until}
use Rattle.circuits.proofs.Carrying.{counts_same}
use Rattle.circuits.proofs.Noted.{zero_operands, zero_operands_later, zero_known, zero_noted, zero_after}
use Rattle.circuits.proofs.lists.nonzero.Goals as goal

pub returns-in_err-zero-clause-grown : goal.returns-in_err-zero-clause-grown
returns-in_err-zero-clause-grown c = grown_not _ _

pub known_equal-requires : goal.known_equal-requires
known_equal-requires c = record { operands = zero_operands _ c.requires.bits_in c.requires.few (counts_same c.deref.ensures.value c.in_ok-zero.ensures) }

pub returns-in-Some-clause-grown : goal.returns-in-Some-clause-grown
returns-in-Some-clause-grown c = grown_same c.known_equal.ensures.same

pub returns-in-Some-clause-value : goal.returns-in-Some-clause-value
returns-in-Some-clause-value c =
    zero_known _ c.known_equal.ensures.same (counts_same c.deref.ensures.value c.in_ok-zero.ensures) c.in-Some.ensures.value c.not.ensures

pub returns-in_err-some-clause-grown : goal.returns-in_err-some-clause-grown
returns-in_err-some-clause-grown c = grown_from c.known_equal.ensures.same c.in_err-some.ensures.grown

pub note_equal-requires-clause-operands : goal.note_equal-requires-clause-operands
note_equal-requires-clause-operands c =
    let g = grown_from c.known_equal.ensures.same c.in_ok-some.ensures.grown in
    zero_operands_later _ g c.requires.bits_in c.requires.few (counts_same c.deref-2.ensures.value c.in_ok-zero.ensures)

pub note_equal-requires-clause-tells : goal.note_equal-requires-clause-tells
note_equal-requires-clause-tells c =
    zero_noted _ c.known_equal.ensures.same c.in_ok-some.ensures.grown c.requires.bits_in (counts_same c.deref-2.ensures.value c.in_ok-zero.ensures)
    c.in_ok-some.ensures.value c.not-2.ensures

pub returns-clause-grown : goal.returns-clause-grown
returns-clause-grown c = grown_until c.note_equal.ensures (grown_from c.known_equal.ensures.same c.in_ok-some.ensures.grown)

pub returns-clause-value : goal.returns-clause-value
returns-clause-value c = zero_after _ c.known_equal.ensures.same c.note_equal.ensures c.in_ok-some.ensures.value
