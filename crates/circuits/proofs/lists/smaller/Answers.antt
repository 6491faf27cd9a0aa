use Rattle.std.proofs.Common.{arith}
use Rattle.circuits.proofs.Counting.{ranked_none, ranked_next, ranked_end}
use Rattle.circuits.proofs.Nets.{opp, grown_then, wider}
use Rattle.circuits.proofs.lists.smaller.Goals as goal

pub loop-i-init : goal.loop-i-init
loop-i-init c = ranked_none _ _ (opp c.not-less.ensures c.yes.ensures)

pub loop-i-preserved : goal.loop-i-preserved
loop-i-preserved c =
    ranked_next _ _ _ _ c.loop-i.invariant c.in_ok-less.ensures.grown c.in_ok-less.ensures.value c.requires.a_in c.requires.b_in (omega arith) c.requires.same

pub returns-clause-value : goal.returns-clause-value
returns-clause-value c = ranked_end _ _ _ c.loop-i.invariant (omega arith) c.requires.same

pub returns-in_err-less-clause-grown : goal.returns-in_err-less-clause-grown
returns-in_err-less-clause-grown c = grown_then _ _ _ _ _ _ c.loop-i.invariant.grown c.in_err-less.ensures.grown (omega arith)

pub returns-clause-grown : goal.returns-clause-grown
returns-clause-grown c = wider c.loop-i.invariant.grown (omega arith)
