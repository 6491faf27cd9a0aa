use Rattle.std.proofs.Common.{refl, length}
use Rattle.circuits.proofs.WordLaws.{tells_after, tells_narrower}
use Rattle.circuits.proofs.HintLaws.{tells_multiple, tells_product, tells_choice, tells_wide}
use Rattle.circuits.proofs.hints.Hints.chosen.Goals as goal

pub returns-in-Ok-true-clause-tells : goal.returns-in-Ok-true-clause-tells
returns-in-Ok-true-clause-tells c =
    let few = c.requires.operands.wide in
    let more = tells_after c.truth.ensures.more c.in_ok-more.ensures.tells in
    let part = tells_product c.in_ok-part.ensures (tells_narrower (length c.args.yes.now) few c.in_ok-truth.ensures.tells) more in
    let other = tells_wide c.requires.operands.same c.in_ok-chosen.ensures.tells in
    let sum = tells_multiple (c.in-Ok-true.ensures.added c.in-Ok-true.field-0-test) refl other (tells_after c.told.ensures.more part) in
    tells_choice c.args.test c.args.yes.now c.args.no.now 18446744073709551615 few refl sum
