use Rattle.std.proofs.lemmas.Option.{IfSome_then}
use Rattle.circuits.proofs.WordLaws.{tells_after}
use Rattle.circuits.proofs.HintLaws.{tells_product, tells_wide}
use Rattle.circuits.proofs.hints.Hints.multiplied.Goals as goal

pub returns-clause-tells : goal.returns-clause-tells
returns-clause-tells c = IfSome_then c.times.result c.times.ensures (λ m is.
    let left = tells_after c.told-2.ensures.more c.in_ok-left.ensures.tells in
    let right = tells_wide c.requires.operands.same c.in_ok-right.ensures.tells in
    tells_product is left right)
