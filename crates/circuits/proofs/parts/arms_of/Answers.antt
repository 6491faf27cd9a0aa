use Rattle.circuits.proofs.FactLaws.{disjunction_of}
use Rattle.circuits.proofs.parts.arms_of.Goals as goal

pub returns-in_default : goal.returns-in_default
returns-in_default c = disjunction_of c.not.ensures c.in_ok-pair.ensures c.not-2.ensures c.not-3.ensures

pub returns-in_default-2 : goal.returns-in_default-2
returns-in_default-2 c = disjunction_of c.not.ensures c.in_ok-pair.ensures c.not-2.ensures c.not-3.ensures
