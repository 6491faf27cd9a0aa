use Rattle.std.proofs.Common.{arith}
use Rattle.circuits.proofs.Nets.{own, kept, and_of, three}
use Rattle.circuits.proofs.Composing.{xor_of, or_of, sum_made}
use Rattle.circuits.proofs.gates.full.Goals as goal

pub returns-clause-value : goal.returns-clause-value
returns-clause-value c =
    let f = c.in_ok-first.ensures in
    let s = c.in_ok-second.ensures in
    let o = c.in_ok-high.ensures in
    let c1 = kept f.grown (own _ _ c.requires.c_in) in
    sum_made (kept o.grown (xor_of s.low f.low c1)) (or_of o.value (kept s.grown f.high) (and_of s.high f.low c1))

pub returns-in_err-high-clause-grown : goal.returns-in_err-high-clause-grown
returns-in_err-high-clause-grown c = three 7 c.in_ok-first.ensures.grown c.in_ok-second.ensures.grown c.in_err-high.ensures.grown (omega arith)

pub returns-clause-grown : goal.returns-clause-grown
returns-clause-grown c = three 7 c.in_ok-first.ensures.grown c.in_ok-second.ensures.grown c.in_ok-high.ensures.grown (omega arith)
