use Rattle.std.proofs.Common.{◌∙◌, ◌++◌, ◌∷◌, [], ap, arith, refl, get_or, false}
use Rattle.std.proofs.lemmas.List.{length-take-le}
use Rattle.circuits.proofs.Nets.{longer}
use Rattle.sym_elements.proofs.Decoding.{in_later, at_in, doubled_none, doubled_next, doubled_end}
use Rattle.sym_elements.proofs.marks.doubled.Goals as goal

pub loop-i-init : goal.loop-i-init
loop-i-init c = doubled_none c.args.digit c.new-out.ensures.items

pub loop-i-preserved : goal.loop-i-preserved
loop-i-preserved c =
    doubled_next c.args.marks.now _ c.loop-i.invariant c.requires.marks_in c.requires.digit_in (omega arith) refl c.not.ensures c.in_ok-even.ensures.grown c.in_ok-even.ensures.value c.in_ok-odd.ensures.grown c.in_ok-odd.ensures.value
    (c.in_ok-push-2.ensures.items ∙ ap (λ z. z ++ c.in_ok-odd.odd ∷ []) c.in_ok-push.ensures.items)

pub returns : goal.returns
returns c = doubled_end c.args.marks.now c.loop-i.invariant (omega arith)

pub and-requires-clause-a_in : goal.and-requires-clause-a_in
and-requires-clause-a_in c = in_later (get_or c.args.marks.now c.loop-i.i (record { node = 0; negated = false })) c.loop-i.invariant.grown (at_in _ c.args.marks.now c.loop-i.i _ c.requires.marks_in (omega arith))

pub and-requires-clause-b_in : goal.and-requires-clause-b_in
and-requires-clause-b_in c = rw c.not.ensures (in_later c.args.digit c.loop-i.invariant.grown c.requires.digit_in)

pub and-requires-clause-room : goal.and-requires-clause-room
and-requires-clause-room c = omega (arith, (longer _ _ _ c.loop-i.invariant.grown).1, length-take-le c.loop-i.i c.args.marks.now (omega arith), c.requires.room)
