use Rattle.std.proofs.Common.{refl}
use Rattle.circuits.proofs.WordLaws.{tells_after}
use Rattle.circuits.proofs.HintLaws.{tells_multiple, tells_wide}
use Rattle.circuits.proofs.hints.Hints.combined.Goals as goal

pub returns-in-Ok-true-clause-tells : goal.returns-in-Ok-true-clause-tells
returns-in-Ok-true-clause-tells c =
    let left = tells_after c.told-2.ensures.more c.in_ok-sum.ensures.tells in
    let right = tells_wide c.requires.operands.same c.in_ok-other.ensures.tells in
    tells_multiple (c.in-Ok-true.ensures.added c.in-Ok-true.field-0-test) refl left right
