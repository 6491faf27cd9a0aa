use Rattle.std.proofs.Common.{List}
use Rattle.circuits.specs.declared.net.Bit.{Bit}
use Rattle.circuits.specs.declared.net.NetNode.{NetNode}
use Rattle.circuits.specs.Facts.{Condition}
use Rattle.circuits.specs.Inequalities.{AreKnown, IsWithinWhere}
use Rattle.circuits.proofs.bounds.range_of.Given as goal

abbrev pub invariant-loop-at : goal.invariant-loop-at
invariant-loop-at l = (net : List NetNode) (words : List (List Bit)) (here : Condition) → AreKnown net words here l.known → IsWithinWhere net words here l.width l.polynomial l.range
