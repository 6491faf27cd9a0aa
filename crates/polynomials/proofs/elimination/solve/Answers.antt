use Rattle.polynomials.proofs.Reducing.{reduced_start, reduced_then, all_follow, follow_then}
use Rattle.polynomials.proofs.elimination.solve.Goals as goal

pub loop-pivot-init : goal.loop-pivot-init
loop-pivot-init c = record { question = reduced_start _ _ _; facts = all_follow _ _ }

pub loop-pivot-preserved : goal.loop-pivot-preserved
loop-pivot-preserved c =
    let old = c.loop-pivot.invariant in
    let new = c.in_ok-system.ensures in
    record { question = reduced_then old.facts old.question new.question; facts = follow_then _ _ _ _ old.facts new.facts }
