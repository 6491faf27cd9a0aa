use Rattle.std.proofs.Common.{arith}
use Rattle.circuits.proofs.Nets.{opp, and_of, grown_not, grown_then}
use Rattle.circuits.proofs.Carrying.{counts_same}
use Rattle.circuits.proofs.Distances.{exceeds_made, signed_means}
use Rattle.circuits.proofs.signs.exceeds.Goals as goal

pub returns-in_err-least-clause-grown : goal.returns-in_err-least-clause-grown
returns-in_err-least-clause-grown c = grown_not _ _

pub returns-clause-grown : goal.returns-clause-grown
returns-clause-grown c = grown_then _ _ _ _ _ _ c.in_ok-less.ensures.grown c.in_ok-exceeds.ensures.grown (omega arith)

pub returns-clause-value : goal.returns-clause-value
returns-clause-value c =
    exceeds_made _ _ (counts_same c.deref.ensures.value c.in_ok-least.ensures)
    (and_of c.in_ok-exceeds.ensures.value (signed_means c.constant-kind.ensures c.signed.ensures) (opp c.not.ensures c.in_ok-less.ensures.value))
