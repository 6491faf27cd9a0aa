use Rattle.std.proofs.Common.{List}
use Rattle.circuits.specs.declared.net.Bit.{Bit}
use Rattle.circuits.specs.declared.net.NetNode.{NetNode}
use Rattle.circuits.specs.Facts.{Condition}
use Rattle.circuits.specs.Inequalities.{AreEqualities, AreKnown}
use Rattle.circuits.proofs.inequalities.equalities.Given as goal

abbrev pub invariant-loop-at : goal.invariant-loop-at
invariant-loop-at l = (net : List NetNode) (words : List (List Bit)) (here : Condition) → AreKnown net words here l.known → AreEqualities net words here l.found.items
