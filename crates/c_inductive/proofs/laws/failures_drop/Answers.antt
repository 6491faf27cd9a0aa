use Rattle.c_inductive.proofs.Dropping.{failures_drop}
use Rattle.c_inductive.proofs.laws.failures_drop.Goals as goal

pub returns : goal.returns
returns c = failures_drop
