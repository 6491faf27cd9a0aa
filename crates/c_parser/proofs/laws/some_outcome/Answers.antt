use Rattle.c_parser.proofs.SoundSources.{some_outcome}
use Rattle.c_parser.proofs.laws.some_outcome.Goals as goal

pub returns : goal.returns
returns c = some_outcome
