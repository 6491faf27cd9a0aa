use Rattle.circuits.proofs.Nets.{grown_not}
use Rattle.circuits.proofs.Carrying.{counts_same, counts_wide}
use Rattle.circuits.proofs.Single.{negate_gives, none_typed}
use Rattle.circuits.proofs.unary.negate.Goals as goal

pub subtract-requires-clause-a_in : goal.subtract-requires-clause-a_in
subtract-requires-clause-a_in c = none_typed (counts_same c.deref.ensures.value (counts_wide c.requires.a_in.wide c.in_ok-zero.ensures))

pub returns-in_err-zero-clause-grown : goal.returns-in_err-zero-clause-grown
returns-in_err-zero-clause-grown c = grown_not _ _

pub returns-clause-value : goal.returns-clause-value
returns-clause-value c = negate_gives _ _ (counts_same c.deref.ensures.value (counts_wide c.requires.a_in.wide c.in_ok-zero.ensures)) c.in_ok-out.ensures.value
