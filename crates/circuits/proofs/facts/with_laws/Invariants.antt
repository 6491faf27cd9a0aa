use Rattle.std.proofs.Common.{List}
use Rattle.circuits.specs.declared.net.Bit.{Bit}
use Rattle.circuits.specs.declared.net.NetNode.{NetNode}
use Rattle.circuits.specs.Net.{IsNet}
use Rattle.circuits.specs.Words.{AreZeros}
use Rattle.circuits.specs.Facts.{Condition, AreFacts}
use Rattle.circuits.proofs.facts.with_laws.Given as goal

abbrev pub invariant-loop-back : goal.invariant-loop-back
invariant-loop-back l =
    (net : List NetNode) (words : List (List Bit)) (here : Condition) → IsNet net → AreZeros net words l.zeros.list.items → AreFacts net words here l.width l.fn.facts.items
    → AreFacts net words here l.width l.all.items
