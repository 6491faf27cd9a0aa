use Rattle.demo_laws.proofs.Bounds.{bounds_fit}
use Rattle.demo_laws.proofs.laws.demos_have_bounds.Goals as goal

pub returns : goal.returns
returns c = bounds_fit
