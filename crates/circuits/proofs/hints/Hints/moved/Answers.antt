use Rattle.std.proofs.Common.{refl}
use Rattle.circuits.proofs.HintLaws.{tells_sum}
use Rattle.circuits.proofs.hints.Hints.moved.Goals as goal

pub returns-in-Ok-true-clause-tells : goal.returns-in-Ok-true-clause-tells
returns-in-Ok-true-clause-tells c = tells_sum (c.in-Ok-true.ensures.added c.in-Ok-true.field-0-test) refl c.in_ok-sum.ensures.tells
