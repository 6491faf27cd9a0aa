use Rattle.std.proofs.Common.{arith, refl}
use Rattle.circuits.proofs.Nets.{own, kept, and_of, grown_then, three}
use Rattle.circuits.proofs.Counting.{counts_later}
use Rattle.circuits.proofs.Carrying.{own_counts}
use Rattle.circuits.proofs.Distances.{exceeds_of}
use Rattle.circuits.proofs.quotients.judge_quotient.Goals as goal

pub returns-in_err-far-clause-grown : goal.returns-in_err-far-clause-grown
returns-in_err-far-clause-grown c = grown_then _ _ _ _ _ _ c.in_ok-some.ensures.grown c.in_err-far.ensures.grown (omega (arith, c.requires.same))

pub returns-in_err-overflow-clause-grown : goal.returns-in_err-overflow-clause-grown
returns-in_err-overflow-clause-grown c = three _ c.in_ok-some.ensures.grown c.in_ok-far.ensures.grown c.in_err-overflow.ensures.grown (omega (arith, c.requires.same))

pub returns-clause-grown : goal.returns-clause-grown
returns-clause-grown c = three _ c.in_ok-some.ensures.grown c.in_ok-far.ensures.grown c.in_ok-overflow.ensures.grown (omega (arith, c.requires.same))

pub returns-clause-value : goal.returns-clause-value
returns-clause-value c =
    let g = c.in_ok-some.ensures.grown in
    let h = c.in_ok-far.ensures.grown in
    let some = kept h c.in_ok-some.ensures.value in
    let far = exceeds_of _ c.in_ok-far.ensures.value refl (kept g (own _ _ c.requires.test_in)) (counts_later g (own_counts _ _ c.requires.quotient_in)) in
    record { some = kept c.in_ok-overflow.ensures.grown some; overflow = and_of c.in_ok-overflow.ensures.value some far }
