use Rattle.c_core.proofs.Fits.{fit_in_range, fit_kept, fit_idempotent}
use Rattle.c_core.proofs.laws.conversions_settle.Goals as goal

pub returns : goal.returns
returns c = record { in_range = fit_in_range; kept = fit_kept; again = fit_idempotent }
