-- From the verdict to all runs.
use Rattle.std.proofs.Common.{ℕ, ◌+◌, ◌-◌, ◌^◌, ◌≤◌, ◌<◌, List, arith}
use Rattle.std.proofs.Math.Pow.{pow_mono}
use Rattle.c_core.specs.Tree.{Program}
use Rattle.c_lifting.specs.Lifting.{EveryObligationHolds, Lifted}
use Rattle.c_meaning.specs.declared.verdict.Verdict.{Verdict}
use Rattle.c_meaning.specs.declared.verdict.Verdict.TheVariants.{ViolationConfirmed, ViolationNot, CorrectnessConfirmed, CorrectnessNot, Undecided}
use Rattle.c_meaning.specs.Duties.{Placed}
use Rattle.sym_weight.specs.Weight.{Bits}
use Rattle.judge_obligations.specs.Verdicts.{AllHold, IsRightOnInvariants}
use Rattle.judge_correctness.specs.Correctness.{IsConfirmed}

every : (p : Program) (I : List Placed) (n : ℕ) → AllHold p I n → EveryObligationHolds p I
every p I n a number low high = a.hold number (omega arith) (omega (arith, a.counted))

-- a right verdict confirms where the runs are lifted
pub confirmed : (N : ℕ) (p : Program) (I : List Placed) (verdict : Verdict) → (EveryObligationHolds p I → Lifted p I) → IsRightOnInvariants N p I verdict → IsConfirmed p I verdict
confirmed N p I (CorrectnessConfirmed n) lifted right = lifted (every p I n right)
confirmed N p I (CorrectnessNot i duty draws) lifted right = tt
confirmed N p I (ViolationConfirmed draws positions) lifted right = tt
confirmed N p I (ViolationNot reason unfixed) lifted right = tt
confirmed N p I (Undecided cause) lifted right = tt

-- fewer inputs allow fewer conflicts
pub decided_beyond : {inputs N : ℕ} (p : Program) → inputs ≤ Bits p → 2 ^ (Bits p + 1) - 2 < N → 2 ^ (inputs + 1) - 2 < N
decided_beyond {inputs} {N} p few h = omega (arith, h, pow_mono {i = inputs + 1} {j = Bits p + 1} (omega (arith, few)))
