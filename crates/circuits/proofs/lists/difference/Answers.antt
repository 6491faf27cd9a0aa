use Rattle.std.proofs.Common.{◌∙◌}
use Rattle.circuits.proofs.Nets.{grown_not}
use Rattle.circuits.proofs.Counting.{difference_made, flipped_in}
use Rattle.circuits.proofs.lists.difference.Goals as goal

pub sum-requires-clause-b_in : goal.sum-requires-clause-b_in
sum-requires-clause-b_in c = rw (c.deref.ensures.value ∙ c.in_ok-other.ensures) (flipped_in _ _ c.requires.b_in)

pub returns-in_err-other-clause-grown : goal.returns-in_err-other-clause-grown
returns-in_err-other-clause-grown c = grown_not _ _

pub returns-clause-value : goal.returns-clause-value
returns-clause-value c = difference_made _ _ _ (c.deref.ensures.value ∙ c.in_ok-other.ensures) c.requires.same c.yes-yes.ensures c.in_ok-out.ensures.value
