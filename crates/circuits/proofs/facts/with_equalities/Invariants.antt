use Rattle.std.proofs.Common.{List}
use Rattle.circuits.specs.declared.net.Bit.{Bit}
use Rattle.circuits.specs.declared.net.NetNode.{NetNode}
use Rattle.circuits.specs.Facts.{Condition, AreFacts}
use Rattle.circuits.specs.Inequalities.{AreEqualities}
use Rattle.circuits.proofs.facts.with_equalities.Given as goal

abbrev pub invariant-loop-at : goal.invariant-loop-at
invariant-loop-at l =
    (net : List NetNode) (words : List (List Bit)) (here : Condition) → AreEqualities net words here l.equalities → AreFacts net words here l.width l.fn.facts.items
    → AreFacts net words here l.width l.all.items
