use Rattle.std.proofs.Common.{List}
use Rattle.circuits.specs.declared.net.Bit.{Bit}
use Rattle.circuits.specs.declared.net.NetNode.{NetNode}
use Rattle.circuits.specs.Words.{AreZeros}
use Rattle.circuits.specs.Facts.{Condition, AllFollow, AreFacts}
use Rattle.circuits.proofs.facts.facts_of.Given as goal

abbrev pub invariant-loop-bit : goal.invariant-loop-bit
invariant-loop-bit l =
    (net : List NetNode) (words : List (List Bit)) (here : Condition) → AreZeros net words l.zeros.list.items → AllFollow net here l.known → AreFacts net words here l.width l.facts.items
