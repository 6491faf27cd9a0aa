use Rattle.std.proofs.Common.{rules}
use Rattle.polynomials.proofs.Reducing.{reduced_start, reduced_more, given_follows}
use Rattle.polynomials.proofs.elimination.divide_by_each.Goals as goal

pub loop-i-init : goal.loop-i-init
loop-i-init c = reduced_start _ _ _

pub loop-i-preserved : goal.loop-i-preserved
loop-i-preserved c = reduced_more c.loop-i.invariant (given_follows _ _ c.loop-i.i _ (search rules) c.index.ensures) c.in_ok-rest.ensures
