use Rattle.std.proofs.Common.{◌∙◌}
use Rattle.circuits.proofs.Nets.{own, grown_not}
use Rattle.circuits.proofs.Counting.{flipped_in}
use Rattle.circuits.proofs.Carrying.{own_counts, counts_same, flipped_counts, chosen_of}
use Rattle.circuits.proofs.signs.complemented.Goals as goal

pub choose-requires-clause-yes_in : goal.choose-requires-clause-yes_in
choose-requires-clause-yes_in c = rw (c.deref.ensures.value ∙ c.in_ok-other.ensures) (flipped_in _ _ c.requires.a_in)

pub returns-in_err-other-clause-grown : goal.returns-in_err-other-clause-grown
returns-in_err-other-clause-grown c = grown_not _ _

pub returns-clause-value : goal.returns-clause-value
returns-clause-value c =
    let a = own_counts _ _ c.requires.a_in in
    chosen_of c.in_ok-out.ensures.value (own _ _ c.requires.test_in) (counts_same (c.deref.ensures.value ∙ c.in_ok-other.ensures) (flipped_counts a)) a
