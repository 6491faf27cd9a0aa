use Rattle.std.proofs.Common.{length}
use Rattle.std.proofs.lemmas.Option.{IfSome_then}
use Rattle.circuits.proofs.WordLaws.{tells_after, tells_narrower}
use Rattle.circuits.proofs.HintLaws.{tells_product}
use Rattle.circuits.proofs.hints.Hints.law.Goals as goal

pub returns-clause-tells : goal.returns-clause-tells
returns-clause-tells c = IfSome_then c.times.result c.times.ensures (λ m is.
    let truth = tells_narrower (length c.args.a.now) c.requires.operands.wide c.in_ok-truth.ensures.tells in
    tells_product is truth (tells_after c.truth.ensures.more c.in_ok-left_over.ensures.tells))
