use Rattle.circuits.proofs.inequalities.equalities.Goals as goal

pub loop-at-preserved : goal.loop-at-preserved
loop-at-preserved c = λ net words here known. c.in_ok-add_equalities.ensures net words here known (c.loop-at.invariant net words here known)
