use Rattle.std.proofs.Common.{◌-◌, refl, ap, arith, length}
use Rattle.std.proofs.lemmas.List.{length-drop}
use Rattle.circuits.proofs.Nets.{kept, and_of, three, grown_then}
use Rattle.circuits.proofs.Composing.{or_of}
use Rattle.circuits.proofs.Carrying.{any_of}
use Rattle.circuits.proofs.Distances.{signed_means}
use Rattle.circuits.proofs.Multiplying.{rest_is}
use Rattle.circuits.proofs.Raising.{high_counts}
use Rattle.circuits.proofs.shifts.loses.Goals as goal

pub returns-clause-value : goal.returns-clause-value
returns-clause-value c =
    let r = c.requires in
    let high = high_counts c.args.moved.now (length c.args.a.now - 1) (omega arith) r.moved_in (rest_is c.args.moved.now c.args.moved.now (length c.args.a.now - 1) refl) in
    let some = any_of c.in_ok-some.ensures.value high in
    let lost = or_of c.in_ok-lost.ensures.value (kept c.in_ok-some.ensures.grown c.sign-minus.ensures) some in
    and_of c.in_ok-out.ensures.value (signed_means c.constant-kind.ensures c.signed.ensures) lost

pub returns-in_err-lost-clause-grown : goal.returns-in_err-lost-clause-grown
returns-in_err-lost-clause-grown c =
    let tail = ap length (rest_is c.args.moved.now c.args.moved.now (length c.args.a.now - 1) refl) in
    grown_then _ _ _ _ _ _ c.in_ok-some.ensures.grown c.in_err-lost.ensures.grown (omega (arith, tail, length-drop (length c.args.a.now - 1) c.args.moved.now, c.requires.short, c.requires.within, c.requires.some))

pub returns-in_err-out-clause-grown : goal.returns-in_err-out-clause-grown
returns-in_err-out-clause-grown c =
    let tail = ap length (rest_is c.args.moved.now c.args.moved.now (length c.args.a.now - 1) refl) in
    three _ c.in_ok-some.ensures.grown c.in_ok-lost.ensures.grown c.in_err-out.ensures.grown (omega (arith, tail, length-drop (length c.args.a.now - 1) c.args.moved.now, c.requires.short, c.requires.within, c.requires.some))

pub returns-clause-grown : goal.returns-clause-grown
returns-clause-grown c =
    let tail = ap length (rest_is c.args.moved.now c.args.moved.now (length c.args.a.now - 1) refl) in
    three _ c.in_ok-some.ensures.grown c.in_ok-lost.ensures.grown c.in_ok-out.ensures.grown (omega (arith, tail, length-drop (length c.args.a.now - 1) c.args.moved.now, c.requires.short, c.requires.within, c.requires.some))
