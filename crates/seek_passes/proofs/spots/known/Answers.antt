use Rattle.std.proofs.Common.{sym}
use Rattle.circuits.proofs.Nets.{opp, means_by}
use Rattle.seek_passes.proofs.spots.known.Goals as goal

pub returns : goal.returns
returns c = means_by _ _ _ _ (opp c.not.ensures c.yes-2.ensures) (λ v. sym c.if-value.false)
