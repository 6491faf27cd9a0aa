use Rattle.std.proofs.Common.{refl}
use Rattle.circuits.proofs.HintLaws.{asks_normal}
use Rattle.circuits.proofs.hints.Hints.difference.Goals as goal

pub returns-clause-asks : goal.returns-clause-asks
returns-clause-asks c = asks_normal 18446744073709551615 refl c.requires.operands c.in_ok-difference.ensures.tells c.normalise.ensures
