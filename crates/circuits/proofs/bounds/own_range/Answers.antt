use Rattle.circuits.proofs.BoundLaws.{constant_within}
use Rattle.circuits.proofs.bounds.own_range.Goals as goal

pub returns-in-Some : goal.returns-in-Some
returns-in-Some c = constant_within c.requires c.in-Some.ensures c.masked.ensures c.only.ensures
