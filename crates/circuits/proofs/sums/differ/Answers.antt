use Rattle.circuits.proofs.Nets.{grown_same, grown_from, grown_until}
use Rattle.circuits.proofs.Feeding.{typed_later}
use Rattle.circuits.proofs.Noted.{operands_of, known_differ, differ_noted, differ_after}
use Rattle.circuits.proofs.sums.differ.Goals as goal

pub known_equal-requires : goal.known_equal-requires
known_equal-requires c = record { operands = operands_of c.requires.a_in c.requires.b_in }

pub returns-in-Some-clause-grown : goal.returns-in-Some-clause-grown
returns-in-Some-clause-grown c = grown_same c.known_equal.ensures.same

pub returns-in-Some-clause-value : goal.returns-in-Some-clause-value
returns-in-Some-clause-value c = known_differ _ _ c.known_equal.ensures.same c.requires.a_in c.requires.b_in c.in-Some.ensures.value c.not.ensures

pub differ_in_bits-requires-clause-a_in : goal.differ_in_bits-requires-clause-a_in
differ_in_bits-requires-clause-a_in c = rw c.known_equal.ensures.same c.requires.a_in

pub differ_in_bits-requires-clause-b_in : goal.differ_in_bits-requires-clause-b_in
differ_in_bits-requires-clause-b_in c = rw c.known_equal.ensures.same c.requires.b_in

pub differ_in_bits-requires-clause-room : goal.differ_in_bits-requires-clause-room
differ_in_bits-requires-clause-room c = rw c.known_equal.ensures.same c.requires.room

pub returns-in_err-differ-clause-grown : goal.returns-in_err-differ-clause-grown
returns-in_err-differ-clause-grown c = grown_from c.known_equal.ensures.same c.in_err-differ.ensures.grown

pub note_equal-requires-clause-operands : goal.note_equal-requires-clause-operands
note_equal-requires-clause-operands c =
    let g = grown_from c.known_equal.ensures.same c.in_ok-differ.ensures.grown in
    operands_of (typed_later g c.requires.a_in) (typed_later g c.requires.b_in)

pub note_equal-requires-clause-tells : goal.note_equal-requires-clause-tells
note_equal-requires-clause-tells c =
    differ_noted _ _ c.known_equal.ensures.same c.in_ok-differ.ensures.grown c.requires.a_in c.requires.b_in c.in_ok-differ.ensures.value c.not-2.ensures

pub returns-clause-grown : goal.returns-clause-grown
returns-clause-grown c = grown_until c.note_equal.ensures (grown_from c.known_equal.ensures.same c.in_ok-differ.ensures.grown)

pub returns-clause-value : goal.returns-clause-value
returns-clause-value c = differ_after _ _ _ _ c.known_equal.ensures.same c.note_equal.ensures c.in_ok-differ.ensures.value
