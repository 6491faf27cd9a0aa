use Rattle.judge_obligations.proofs.Told.{told}
use Rattle.judge_obligations.proofs.laws.failing_bits_tell.Goals as goal

pub returns : goal.returns
returns c = told
