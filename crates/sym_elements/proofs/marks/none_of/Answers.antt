use Rattle.std.proofs.Common.{arith, refl, get_or, false}
use Rattle.std.proofs.lemmas.List.{length-take-le}
use Rattle.circuits.proofs.Nets.{longer}
use Rattle.sym_elements.proofs.Decoding.{in_later, at_in, none_begins, none_next, none_ends}
use Rattle.sym_elements.proofs.marks.none_of.Goals as goal

pub loop-i-init : goal.loop-i-init
loop-i-init c = none_begins c.yes-none.ensures

pub loop-i-preserved : goal.loop-i-preserved
loop-i-preserved c = none_next c.args.bits.now _ c.loop-i.invariant c.requires.bits_in (omega arith) refl c.not.ensures c.in_ok-none.ensures.grown c.in_ok-none.ensures.value

pub returns : goal.returns
returns c = none_ends c.args.bits.now c.loop-i.invariant (omega arith)

pub and-requires-clause-a_in : goal.and-requires-clause-a_in
and-requires-clause-a_in c = c.loop-i.invariant.means.inside

pub and-requires-clause-b_in : goal.and-requires-clause-b_in
and-requires-clause-b_in c = rw c.not.ensures (in_later (get_or c.args.bits.now c.loop-i.i (record { node = 0; negated = false })) c.loop-i.invariant.grown (at_in _ c.args.bits.now c.loop-i.i _ c.requires.bits_in (omega arith)))

pub and-requires-clause-room : goal.and-requires-clause-room
and-requires-clause-room c = omega (arith, (longer _ _ _ c.loop-i.invariant.grown).1, length-take-le c.loop-i.i c.args.bits.now (omega arith), c.requires.room)
