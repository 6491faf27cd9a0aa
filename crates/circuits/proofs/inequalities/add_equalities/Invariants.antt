use Rattle.std.proofs.Common.{List}
use Rattle.circuits.specs.declared.net.Bit.{Bit}
use Rattle.circuits.specs.declared.net.NetNode.{NetNode}
use Rattle.circuits.specs.Facts.{Condition}
use Rattle.circuits.specs.Inequalities.{AreEqualities, AreKnown}
use Rattle.circuits.proofs.inequalities.add_equalities.Given as goal

abbrev pub invariant-loop-later : goal.invariant-loop-later
invariant-loop-later l =
    (net : List NetNode) (words : List (List Bit)) (here : Condition) → AreKnown net words here l.known → AreEqualities net words here l.fn.found.items → AreEqualities net words here l.found.items
