use Rattle.std.proofs.Common.{arith}
use Rattle.circuits.proofs.Unknowns.{constant_none, constant_kept, constant_set}
use Rattle.circuits.proofs.words.constant_of.Goals as goal
use Rattle.circuits.proofs.words.constant_of.Goals.{then-not-bit, else-not-bit}

pub loop-at-init : goal.loop-at-init
loop-at-init c = constant_none

pub loop-at-preserved : goal.loop-at-preserved
loop-at-preserved c = elim c.if-not-bit.branch [
  | then-not-bit w ↦ constant_set _ _ _ c.loop-at.invariant c.loop-at-test.true c.if-bit-ne0.false w.if-not-bit.true (omega arith) w.number-is
  | else-not-bit w ↦ constant_kept _ _ _ c.loop-at.invariant c.loop-at-test.true c.if-bit-ne0.false w.if-not-bit.false w.number-is
]
