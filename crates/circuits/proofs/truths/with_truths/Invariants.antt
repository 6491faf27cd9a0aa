use Rattle.circuits.specs.Words.{bits_of}
use Rattle.circuits.specs.Facts.{Condition, AllFollow, AreFacts}
use Rattle.circuits.proofs.truths.with_truths.Given as goal

abbrev pub invariant-loop-at : goal.invariant-loop-at
invariant-loop-at l =
    (here : Condition) → AllFollow l.nodes here l.known → AreFacts l.nodes (bits_of l.words.list.items) here l.width l.fn.facts.items
    → AreFacts l.nodes (bits_of l.words.list.items) here l.width l.all.items
