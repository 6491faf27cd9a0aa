use Rattle.c_tokens.proofs.Total.{some_outcome as each_has_one}
use Rattle.c_tokens.proofs.laws.some_outcome.Goals as goal

pub returns : goal.returns
returns c = each_has_one
