use Rattle.std.proofs.Common.{arith}
use Rattle.circuits.proofs.Nets.{own, kept, opp, and_of, three, grown_then}
use Rattle.circuits.proofs.Composing.{xor_of}
use Rattle.circuits.proofs.sums.turned.Goals as goal

pub returns-clause-value : goal.returns-clause-value
returns-clause-value c =
    let g = c.in_ok-apart.ensures.grown in
    let other = xor_of c.in_ok-other.ensures.value (kept g (own _ _ c.requires.a_in)) (kept g (own _ _ c.requires.total_in)) in
    and_of c.in_ok-turned.ensures.value (opp c.not.ensures (kept c.in_ok-other.ensures.grown c.in_ok-apart.ensures.value)) other

pub returns-in_err-turned-clause-grown : goal.returns-in_err-turned-clause-grown
returns-in_err-turned-clause-grown c = three 7 c.in_ok-apart.ensures.grown c.in_ok-other.ensures.grown c.in_err-turned.ensures.grown (omega arith)

pub returns-clause-grown : goal.returns-clause-grown
returns-clause-grown c = three 7 c.in_ok-apart.ensures.grown c.in_ok-other.ensures.grown c.in_ok-turned.ensures.grown (omega arith)

pub returns-in_err-other-clause-grown : goal.returns-in_err-other-clause-grown
returns-in_err-other-clause-grown c = grown_then _ _ _ _ _ _ c.in_ok-apart.ensures.grown c.in_err-other.ensures.grown (omega arith)
