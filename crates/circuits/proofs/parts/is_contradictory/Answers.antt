use Rattle.std.proofs.Common.{false, get_or, refl, subst}
use Rattle.circuits.specs.Facts.{IsAnswer}
use Rattle.circuits.proofs.FactLaws.{nowhere_of}
use Rattle.circuits.proofs.parts.is_contradictory.Goals as goal

pub returns-in-Some-false : goal.returns-in-Some-false
returns-in-Some-false c = λ t net here f.
    let bit = get_or c.args.known.now c.loop-at.at (record { node = 0; negated = false }) in
    let answer = subst (λ k. IsAnswer net here bit k) c.in-Some-false.field-0-test (c.in-Some-false.ensures net here f) in
    nowhere_of c.args.known.now c.loop-at.at _ bit c.loop-at-test.true refl f answer
