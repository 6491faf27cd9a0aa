use Rattle.polynomials.proofs.Reducing.{by_start}
use Rattle.polynomials.proofs.division.divide_by_highest.Goals as goal

pub returns-in_default : goal.returns-in_default
returns-in_default c = by_start _ _ _
