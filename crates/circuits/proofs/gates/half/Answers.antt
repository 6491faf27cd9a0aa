use Rattle.std.proofs.Common.{arith}
use Rattle.circuits.proofs.Nets.{own, kept, opp, and_of, three}
use Rattle.circuits.proofs.Composing.{xor_made}
use Rattle.circuits.proofs.gates.half.Goals as goal

pub returns-clause-low : goal.returns-clause-low
returns-clause-low c =
    let a = own _ _ c.requires.a_in in
    let b = own _ _ c.requires.b_in in
    let both = c.in_ok-both.ensures in
    let neither = c.in_ok-neither.ensures in
    xor_made _ _ _ _ _
    (and_of c.in_ok-low.ensures.value
    (opp c.not-3.ensures (kept neither.grown both.value))
    (opp c.not-4.ensures (and_of neither.value (opp c.not.ensures (kept both.grown a)) (opp c.not-2.ensures (kept both.grown b)))))

pub returns-clause-high : goal.returns-clause-high
returns-clause-high c = kept c.in_ok-low.ensures.grown (kept c.in_ok-neither.ensures.grown c.in_ok-both.ensures.value)

pub returns-in_err-low-clause-grown : goal.returns-in_err-low-clause-grown
returns-in_err-low-clause-grown c = three 3 c.in_ok-both.ensures.grown c.in_ok-neither.ensures.grown c.in_err-low.ensures.grown (omega arith)

pub returns-clause-grown : goal.returns-clause-grown
returns-clause-grown c = three 3 c.in_ok-both.ensures.grown c.in_ok-neither.ensures.grown c.in_ok-low.ensures.grown (omega arith)
