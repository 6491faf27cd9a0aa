use Rattle.std.proofs.Common.{arith, rules}
use Rattle.polynomials.proofs.Carrying.{timed_start, timed_more, timed_end}
use Rattle.polynomials.proofs.factors.times.Goals as goal

pub loop-i-init : goal.loop-i-init
loop-i-init c = timed_start _ _

pub loop-i-preserved : goal.loop-i-preserved
loop-i-preserved c = timed_more c.loop-i.invariant (search rules) c.in-Some.ensures

pub returns : goal.returns
returns c = timed_end c.loop-i.invariant (search rules)
