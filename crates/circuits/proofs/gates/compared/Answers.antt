use Rattle.std.proofs.Common.{arith}
use Rattle.circuits.proofs.Nets.{own, kept, opp, and_of, three, grown_then}
use Rattle.circuits.proofs.Composing.{or_of, compared_made}
use Rattle.circuits.proofs.gates.compared.Goals as goal

pub returns-clause-value : goal.returns-clause-value
returns-clause-value c =
    let l = c.in_ok-less.ensures in
    let m = c.in_ok-more.ensures in
    let r = c.in_ok-rest.ensures in
    let a = own _ _ c.requires.a_in in
    let b = own _ _ c.requires.b_in in
    let less = and_of l.value (opp c.not.ensures a) b in
    let more = and_of m.value (kept l.grown a) (opp c.not-2.ensures (kept l.grown b)) in
    let rest = and_of r.value (opp c.not-3.ensures more) (kept m.grown (kept l.grown (own _ _ c.requires.lower_in))) in
    compared_made _ _ _ _ _ _ (or_of c.in_ok-compared.ensures.value (kept r.grown (kept m.grown less)) rest)

pub returns-in_err-rest-clause-grown : goal.returns-in_err-rest-clause-grown
returns-in_err-rest-clause-grown c = three 4 c.in_ok-less.ensures.grown c.in_ok-more.ensures.grown c.in_err-rest.ensures.grown (omega arith)

pub returns-in_err-compared-clause-grown : goal.returns-in_err-compared-clause-grown
returns-in_err-compared-clause-grown c = grown_then 3 1 4 _ _ _ (three 3 c.in_ok-less.ensures.grown c.in_ok-more.ensures.grown c.in_ok-rest.ensures.grown (omega arith)) c.in_err-compared.ensures.grown (omega arith)

pub returns-clause-grown : goal.returns-clause-grown
returns-clause-grown c = grown_then 3 1 4 _ _ _ (three 3 c.in_ok-less.ensures.grown c.in_ok-more.ensures.grown c.in_ok-rest.ensures.grown (omega arith)) c.in_ok-compared.ensures.grown (omega arith)
