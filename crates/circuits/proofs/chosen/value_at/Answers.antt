use Rattle.std.proofs.Common.{subst}
use Rattle.circuits.specs.Facts.{IsAnswer}
use Rattle.circuits.specs.Chosen.{IsPlace}
use Rattle.circuits.proofs.FactLaws.{same_answer}
use Rattle.circuits.proofs.ChosenLaws.{answer_in_either}
use Rattle.circuits.proofs.chosen.value_at.Goals as goal

pub returns-in-Some : goal.returns-in-Some
returns-in-Some c = λ here h.
    answer_in_either (subst (λ p. IsPlace c.args.nodes.now here p) c.in-Either.is h)
    (λ one f. c.in_ok-value-in-Either.ensures one (rw c.deref-in-Either.ensures.value f))
    (λ other g. subst (λ r. IsAnswer c.args.nodes.now other c.args.bit r) (same_answer _ _ c.if-other-value.true) (c.in-Some.ensures other (rw c.deref-in-Either-2.ensures.value g)))
