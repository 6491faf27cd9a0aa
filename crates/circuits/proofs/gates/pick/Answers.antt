use Rattle.std.proofs.Common.{arith}
use Rattle.circuits.proofs.Nets.{own, kept, opp, and_of, grown_not, three}
use Rattle.circuits.proofs.Composing.{or_of, pick_made}
use Rattle.circuits.proofs.gates.pick.Goals as goal

pub returns-clause-value : goal.returns-clause-value
returns-clause-value c =
    let taken = c.in_ok-taken.ensures in
    let left = and_of c.in_ok-left.ensures.value (opp c.not.ensures (kept taken.grown (own _ _ c.requires.test_in))) (kept taken.grown (own _ _ c.requires.other_in)) in
    pick_made _ _ _ _ _ _ (or_of c.in_ok-picked.ensures.value (kept c.in_ok-left.ensures.grown taken.value) left)

pub returns-in_err-picked-clause-grown : goal.returns-in_err-picked-clause-grown
returns-in_err-picked-clause-grown c = three 3 c.in_ok-taken.ensures.grown c.in_ok-left.ensures.grown c.in_err-picked.ensures.grown (omega arith)

pub returns-clause-grown : goal.returns-clause-grown
returns-clause-grown c = three 3 c.in_ok-taken.ensures.grown c.in_ok-left.ensures.grown c.in_ok-picked.ensures.grown (omega arith)

pub returns-then-eq-clause-grown : goal.returns-then-eq-clause-grown
returns-then-eq-clause-grown c = grown_not 3 c.args.net.now
