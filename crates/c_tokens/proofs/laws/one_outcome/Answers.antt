use Rattle.c_tokens.proofs.Outcomes.{one_reading}
use Rattle.c_tokens.proofs.laws.one_outcome.Goals as goal

pub returns : goal.returns
returns c = one_reading
