use Rattle.circuits.proofs.ChosenLaws.{follow_within, in_either, only_first, only_second}
use Rattle.circuits.proofs.chosen.either.Goals as goal

pub returns-then-is_contradictory : goal.returns-then-is_contradictory
returns-then-is_contradictory c = λ net here one other e f g.
    follow_within (only_second other e (c.is_contradictory.ensures c.if-is_contradictory.true net one (rw c.deref.ensures.value f))) g

pub returns-then-is_contradictory-2 : goal.returns-then-is_contradictory-2
returns-then-is_contradictory-2 c = λ net here one other e f g.
    follow_within (only_first one e (c.is_contradictory-2.ensures c.if-is_contradictory-2.true net other (rw c.deref-2.ensures.value g))) f

pub returns : goal.returns
returns c = λ net here one other e f g. in_either e f g
