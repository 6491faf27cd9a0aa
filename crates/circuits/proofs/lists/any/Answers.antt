use Rattle.std.proofs.Common.{arith}
use Rattle.circuits.proofs.Counting.{noted_none, noted_next, noted_end}
use Rattle.circuits.proofs.Nets.{grown_then, wider}
use Rattle.circuits.proofs.lists.any.Goals as goal

pub loop-i-init : goal.loop-i-init
loop-i-init c = noted_none _ _ c.yes-none.ensures

pub loop-i-preserved : goal.loop-i-preserved
loop-i-preserved c = noted_next _ _ c.loop-i.invariant c.in_ok-none.ensures.grown c.not.ensures c.in_ok-none.ensures.value c.requires.bits_in (omega arith)

pub returns-clause-value : goal.returns-clause-value
returns-clause-value c = noted_end _ _ c.loop-i.invariant (omega arith) c.not-2.ensures

pub returns-in_err-none-clause-grown : goal.returns-in_err-none-clause-grown
returns-in_err-none-clause-grown c = grown_then _ _ _ _ _ _ c.loop-i.invariant.grown c.in_err-none.ensures.grown (omega arith)

pub returns-clause-grown : goal.returns-clause-grown
returns-clause-grown c = wider c.loop-i.invariant.grown (omega arith)
