use Rattle.c_bounds.proofs.Bounded.{never_met}
use Rattle.c_bounds.proofs.bounds.bounds_are_never_met.Goals as goal

pub returns : goal.returns
returns c = never_met
